-- Where the code of a method in int mode stands, and which handlers cover it.
use Rattle.std.proofs.Common.{◌≡◌, ℕ, suc, zero, ◌+◌, ◌≤◌, ◌<◌, arith, refl, sym, ap, subst, ◌∙◌, Bool, true, false}
use Rattle.std.proofs.Common.{List, [], ◌∷◌, ◌++◌, length, slice_get}
use Rattle.std.specs.Prelude.{if◌then◌else◌, nat_lt, nat_le, ◌&&◌, Option, Some, None, option_map}
use Rattle.std.proofs.lemmas.Bool.{ltb-true, ltb-false}
use Rattle.std.proofs.lemmas.Bool.Decides.{nat_tests}
use Rattle.std.proofs.lemmas.List.{append_assoc, length_push}
use Rattle.cjc_script.specs.Sorts.{Shape, OfClass, shape_name}
use Rattle.cjc_ncode.specs.declared.narrow.NCatch.{NCatch}
use Rattle.cjc_ncode.specs.declared.narrow.NInsn.{NInsn}
use Rattle.cjc_ncode.specs.declared.narrow.NMethod.{NMethod}
use Rattle.cjc_ncode.specs.ByLabel.{Named}
use Rattle.cjc_ncode.specs.ByLabel as labels
use Rattle.cjc_ncode.specs.Written.{Resolution, catch_at, catches_at}
use Rattle.cjc_ncode.specs.IntCode.IntCode.{Frame, Reached, place_from, place_in, prologue, size, written, written_from}
use Rattle.cjc_jvm_semantics.specs.Linked.{Linked, Method}
use Rattle.cjc_jvm_semantics.specs.Machine.{takes, handler}
use Rattle.cjc_int_proof.proofs.Counts.{same_length}
use Rattle.cjc_narrow_proof.specs.Selection.Tables.{class_of_code, handler_at, offset_at}
use Rattle.cjc_int_runs.specs.Placed.{Ascends, ascends_none, ascends_more, offset_in}
use Rattle.cjc_int_runs.specs.Steps.{StandAt, behind}
use Rattle.cjc_int_runs.proofs.Guard.{behind_is, stand_front, stand_back}

-- ---- what is appended stands behind

get_behind : (before : List NInsn) (x : NInsn) (xs : List NInsn) → slice_get (before ++ x ∷ xs) (length before)
    ≡ Some x
get_behind [] x xs = refl
get_behind (y ∷ before) x xs = get_behind before x xs

stand_behind : (code : NMethod) (before xs : List NInsn) → code.insns ≡ before ++ xs
    → StandAt code (length before) xs
stand_behind code before [] e = tt
stand_behind code before (x ∷ xs) e = (
  ap (λ ys. slice_get ys (length before)) e ∙ get_behind before x xs,
  subst (λ n. StandAt code n xs) (length_push before x) (stand_behind code (before ++ x ∷ []) xs (e
      ∙ sym (append_assoc before (x ∷ []) xs))),
)

-- ---- places

counted : (n at o : ℕ) → at < o → (if nat_lt at o then n else 0) ≡ n
counted n at o lt = go (nat_lt at o) refl
  where
    go : (b : Bool) → nat_lt at o ≡ b → (if b then n else 0) ≡ n
    go true e = refl
    go false e = let le = ltb-false at o e in absurd (omega (arith, lt, le))

not_counted : (n at o : ℕ) → o ≤ at → (if nat_lt at o then n else 0) ≡ 0
not_counted n at o le = go (nat_lt at o) refl
  where
    go : (b : Bool) → nat_lt at o ≡ b → (if b then n else 0) ≡ 0
    go false e = refl
    go true e = let lt = ltb-true at o e in absurd (omega (arith, lt, le))

more : (n at o later : ℕ) → o ≤ later → (if nat_lt at o then n else 0) ≤ (if nat_lt at later then n else 0)
more n at o later le = go (nat_lt at o) refl
  where
    go : (b : Bool) → nat_lt at o ≡ b → (if b then n else 0) ≤ (if nat_lt at later then n else 0)
    go false e = omega arith
    go true e =
        let lt = ltb-true at o e in
        let same = counted n at later (omega (arith, lt, le)) in
        omega (arith, same)

module _ (f : Frame) (r : Resolution) where
  -- none is written before an offset that is not behind any
  pub none_before : (reached : List Reached) (o : ℕ) → ((k : ℕ) (x : Reached) → slice_get reached k ≡ Some x
      → o ≤ offset_in x) → place_from f r reached o ≡ 0
  none_before [] o h = refl
  none_before (x ∷ reached) o h =
      let first = not_counted (size f r x) (offset_in x) o (h 0 x refl) in
      let rest = none_before reached o (λ k y there. h (suc k) y there) in
      omega (arith, first, rest)

  -- a place behind an instruction is behind what is written for it
  from_onward : (reached : List Reached) (k : ℕ) (i : Reached) (o : ℕ) → slice_get reached k ≡ Some i
      → offset_in i < o → place_from f r reached (offset_in i) + size f r i ≤ place_from f r reached o
  from_onward [] k i o there lt = absurd cc
  from_onward (x ∷ reached) zero i o there lt =
      let same : x ≡ i = cc in
      subst (λ y. place_from f r (x ∷ reached) (offset_in y) + size f r y ≤ place_from f r (x ∷ reached) o) same
      (let lt' : offset_in x < o = subst (λ y. offset_in y < o) (sym same) lt in
      let none = not_counted (size f r x) (offset_in x) (offset_in x) (omega arith) in
      let one = counted (size f r x) (offset_in x) o lt' in
      let rest = from_order reached (offset_in x) o (omega (arith, lt')) in
      omega (arith, none, one, rest))
    where
      from_order : (reached : List Reached) (o later : ℕ) → o ≤ later → place_from f r reached o
          ≤ place_from f r reached later
      from_order [] o later le = omega arith
      from_order (y ∷ reached) o later le =
          let first = more (size f r y) (offset_in y) o later le in
          let rest = from_order reached o later le in
          omega (arith, first, rest)
  from_onward (x ∷ reached) (suc k) i o there lt =
      let first = more (size f r x) (offset_in x) (offset_in i) o (omega (arith, lt)) in
      let rest = from_onward reached k i o there lt in
      omega (arith, first, rest)

  -- what is written for one stands behind what is written for those before it
  stands_from : (p : ℕ → ℕ) (code : NMethod) (reached : List Reached) → Ascends reached → (here : ℕ)
      → StandAt code here (written_from f r p here reached) → (k : ℕ) (i : Reached) → slice_get reached k ≡ Some i
      → (let n = i.insn in let at = here + place_from f r reached n.at in StandAt code at
      (written f r p i.before at n.op))
  stands_from p code _ ascends_none here is k i there = absurd cc
  stands_from p code _ (ascends_more {i = x} {reached = reached} first ascends) here is zero i there =
      let same : x ≡ i = cc in
      subst (λ (y : Reached). let n = y.insn in let at = here + place_from f r (x ∷ reached) n.at in StandAt code at
      (written f r p y.before at n.op)) same
      (let j = x.insn in
      let none = not_counted (size f r x) j.at j.at (omega arith) in
      let others = none_before reached j.at (λ k y there. (let lt = first k y there in omega (arith, lt))) in
      let at : here ≡ here + place_from f r (x ∷ reached) j.at = omega (arith, none, others) in
      let new = written f r p x.before here j.op in
      subst (λ at. StandAt code at (written f r p x.before at j.op)) at
      (stand_front code here new (written_from f r p (here + length new) reached) is))
  stands_from p code _ (ascends_more {i = x} {reached = reached} first ascends) here is (suc k) i there =
      let j = x.insn in let n = i.insn in
      let new = written f r p x.before here j.op in
      let sized : length new ≡ size f r x = same_length f r p (λ o. 0) x.before here 0 j.op in
      let one = counted (size f r x) j.at n.at (first k i there) in
      let at : (here + length new) + place_from f r reached n.at ≡ here + place_from f r (x ∷ reached) n.at =
      omega (arith, sized, one) in
      let rest = subst (λ at. StandAt code at (written_from f r p (here + length new) reached))
      (behind_is here new) (stand_back code here new (written_from f r p (here + length new) reached) is) in
      subst (λ at. StandAt code at (written f r p i.before at n.op)) at
      (stands_from p code reached ascends (here + length new) rest k i there)

  -- the place of the next
  next_from : (reached : List Reached) → Ascends reached → (later k : ℕ) (i : Reached) → slice_get reached k ≡ Some i
      → offset_in i < later → ((j : ℕ) (x : Reached) → slice_get reached j ≡ Some x → offset_in x < later
      → offset_in x ≤ offset_in i) → place_from f r reached later ≡ place_from f r reached (offset_in i) + size f r i
  next_from _ ascends_none later k i there lt last = absurd cc
  next_from _ (ascends_more {i = x} {reached = reached} first ascends) later zero i there lt last =
      let same : x ≡ i = cc in
      let lt' : offset_in x < later = subst (λ y. offset_in y < later) (sym same) lt in
      let one = counted (size f r x) (offset_in x) later lt' in
      let none = not_counted (size f r x) (offset_in x) (offset_in x) (omega arith) in
      let others = none_before reached later (λ k y there. behind_all k y there (nat_lt (offset_in y) later) refl) in
      let before = none_before reached (offset_in x) (λ k y there. (let up = first k y there in omega (arith, up))) in
      subst (λ y. place_from f r (x ∷ reached) later ≡ place_from f r (x ∷ reached) (offset_in y) + size f r y) same
      (omega (arith, one, none, others, before))
    where
      behind_all : (k : ℕ) (y : Reached) → slice_get reached k ≡ Some y → (b : Bool) → nat_lt (offset_in y) later ≡ b
          → later ≤ offset_in y
      behind_all k y at false e = ltb-false (offset_in y) later e
      behind_all k y at true e =
          let same : x ≡ i = cc in
          let up = first k y at in
          let le = last (suc k) y at (ltb-true (offset_in y) later e) in
          let is : offset_in x ≡ offset_in i = ap offset_in same in
          absurd (omega (arith, up, le, is))
  next_from _ (ascends_more {i = x} {reached = reached} first ascends) later (suc k) i there lt last =
      let up = first k i there in
      let one = counted (size f r x) (offset_in x) later (omega (arith, up, lt)) in
      let two = counted (size f r x) (offset_in x) (offset_in i) up in
      let rest = next_from reached ascends later k i there lt (λ j y at less. last (suc j) y at less) in
      omega (arith, one, two, rest)

module _ (f : Frame) (r : Resolution) (reached : List Reached) where
  abbrev to : ℕ → ℕ
  to = place_in f r reached

  -- the prologue stands first
  pub prologue_stands : (code : NMethod) → code.insns ≡ prologue f ++ written_from f r to (length (prologue f)) reached
      → StandAt code 0 (prologue f)
  prologue_stands code e = stand_front code 0 (prologue f) (written_from f r to (length (prologue f)) reached)
      (stand_behind code [] (prologue f ++ written_from f r to (length (prologue f)) reached) e)

  -- each at its place
  pub code_stands : Ascends reached → (code : NMethod) → code.insns ≡ prologue f
      ++ written_from f r to (length (prologue f)) reached → (k : ℕ) (i : Reached) → slice_get reached k ≡ Some i
      → (let n = i.insn in StandAt code (to n.at) (written f r to i.before (to n.at) n.op))
  code_stands ascends code e k i there = stands_from f r to code reached ascends (length (prologue f))
      (stand_behind code (prologue f) (written_from f r to (length (prologue f)) reached) e) k i there

  -- how many are written for one
  long : (i : Reached) (at : ℕ) → (let n = i.insn in behind at (written f r to i.before at n.op)) ≡ at + size f r i
  long i at =
      let n = i.insn in
      let is = behind_is at (written f r to i.before at n.op) in
      let sized : length (written f r to i.before at n.op) ≡ size f r i =
      same_length f r to (λ o. 0) i.before at 0 n.op in
      omega (arith, is, sized)

  -- the next one behind it
  pub next_stands : Ascends reached → (later k : ℕ) (i : Reached) → slice_get reached k ≡ Some i
      → offset_in i < later → ((j : ℕ) (x : Reached) → slice_get reached j ≡ Some x → offset_in x < later
      → offset_in x ≤ offset_in i) → (let n = i.insn in to later ≡ behind (to n.at) (written f r to i.before (to n.at)
      n.op))
  next_stands ascends later k i there lt last =
      let n = i.insn in
      let is = long i (to n.at) in
      let next = next_from f r reached ascends later k i there lt last in
      omega (arith, is, next)

  -- ---- handlers

  module _ (k : ℕ) (i : Reached) (there : slice_get reached k ≡ Some i) (q : ℕ) (up : to (offset_in i) ≤ q)
      (down : (let n = i.insn in q < behind (to n.at) (written f r to i.before (to n.at) n.op))) where
    order : (o later : ℕ) → o ≤ later → to o ≤ to later
    order o later le = let from = go reached in omega (arith, from)
      where
        go : (reached : List Reached) → place_from f r reached o ≤ place_from f r reached later
        go [] = omega arith
        go (y ∷ reached) =
            let first = more (size f r y) (offset_in y) o later le in
            let rest = go reached in
            omega (arith, first, rest)

    onward : (o : ℕ) → offset_in i < o → q < to o
    onward o lt =
        let is = long i (to (offset_in i)) in
        let from = from_onward f r reached k i o there lt in
        omega (arith, is, from, down)

    from_side : (o : ℕ) → nat_le o (offset_in i) ≡ nat_le (to o) q
    from_side o = go (nat_le o (offset_in i)) refl
      where
        go : (b : Bool) → nat_le o (offset_in i) ≡ b → b ≡ nat_le (to o) q
        go true e =
            let le = order o (offset_in i) (grind (arith, nat_tests, e)) in
            grind (arith, nat_tests, le, up)
        go false e =
            let lt = onward o (grind (arith, nat_tests, e)) in
            grind (arith, nat_tests, lt)

    to_side : (o : ℕ) → nat_lt (offset_in i) o ≡ nat_lt q (to o)
    to_side o = go (nat_lt (offset_in i) o) refl
      where
        go : (b : Bool) → nat_lt (offset_in i) o ≡ b → b ≡ nat_lt q (to o)
        go true e = let lt = onward o (grind (arith, nat_tests, e)) in grind (arith, nat_tests, lt)
        go false e =
            let le = order o (offset_in i) (grind (arith, nat_tests, e)) in
            grind (arith, nat_tests, le, up)

    module _ (by : Linked) (l : Named) (holder : List ℕ) (kind : Shape (List ℕ)) (tells : (class : List ℕ)
        → by.subtype (Some holder) (shape_name kind) class ≡ l.is_of kind (OfClass class)) where
      takes_same : (class : Option (List ℕ)) → takes by holder class (shape_name kind) ≡ labels.takes l class kind
      takes_same None = refl
      takes_same (Some class) = tells class

      taken : (a b t : Bool) (target : ℕ) (rest : Option ℕ) → (if (a && b) && t then Some (to target)
          else option_map to rest) ≡ option_map to (if a && b && t then Some target else rest)
      taken true true true target rest = refl
      taken true true false target rest = refl
      taken true false t target rest = refl
      taken false b t target rest = refl

      not_taken : (a b t : Bool) (target : ℕ) (rest : Option ℕ) → (a ≡ true → b ≡ true → false ≡ true)
          → option_map to rest ≡ option_map to (if a && b && t then Some target else rest)
      not_taken true true t target rest h = let e = h refl refl in cc
      not_taken true false t target rest h = refl
      not_taken false b t target rest h = refl

      found_alike : (catches : _) → labels.handler l (catches_at to catches) q kind
          ≡ option_map to (handler by holder catches (offset_in i) (shape_name kind))
      found_alike [] = refl
      found_alike (c ∷ catches) = one_catch (found_alike catches) (nat_lt (to c.start) (to c.end)) refl
        where
          cs : List NCatch
          cs = catches_at to catches

          rest : Option ℕ
          rest = handler by holder catches (offset_in i) (shape_name kind)

          one_catch : labels.handler l cs q kind ≡ option_map to rest → (k : Bool) → nat_lt (to c.start) (to c.end) ≡ k
              → labels.handler l (if k then catch_at to c ∷ cs else cs) q kind
              ≡ option_map to (if nat_le c.start (offset_in i) && nat_lt (offset_in i) c.end
              && takes by holder c.class (shape_name kind) then Some c.target else rest)
          one_catch e true k =
              ap (λ a. if (a && nat_lt q (to c.end)) && labels.takes l c.class kind then Some (to c.target)
              else labels.handler l cs q kind) (sym (from_side c.start))
              ∙ ap (λ b. if (nat_le c.start (offset_in i) && b) && labels.takes l c.class kind then Some (to c.target)
              else labels.handler l cs q kind) (sym (to_side c.end))
              ∙ ap (λ t. if (nat_le c.start (offset_in i) && nat_lt (offset_in i) c.end) && t then Some (to c.target)
              else labels.handler l cs q kind) (sym (takes_same c.class))
              ∙ ap (λ o. if (nat_le c.start (offset_in i) && nat_lt (offset_in i) c.end)
              && takes by holder c.class (shape_name kind) then Some (to c.target) else o) e
              ∙ taken (nat_le c.start (offset_in i)) (nat_lt (offset_in i) c.end)
              (takes by holder c.class (shape_name kind)) c.target rest
          one_catch e false k =
              e ∙ not_taken (nat_le c.start (offset_in i)) (nat_lt (offset_in i) c.end)
              (takes by holder c.class (shape_name kind)) c.target rest (λ a b.
              let a' = sym (from_side c.start) ∙ a in
              let b' = sym (to_side c.end) ∙ b in
              absurd (grind (arith, nat_tests, a', b', k)))

  -- of a method
  pub handlers_found : (by : Linked) (l : Named) (m : Method) (code : NMethod) → code.catches
      ≡ catches_at to m.catches → (at k : ℕ) (i : Reached) → slice_get reached k ≡ Some i → offset_at m at
      ≡ offset_in i → (kind : Shape (List ℕ)) → ((class : List ℕ) → by.subtype (Some (class_of_code m))
      (shape_name kind) class ≡ l.is_of kind (OfClass class)) → (q : ℕ) → to (offset_in i) ≤ q
      → (let n = i.insn in q < behind (to n.at) (written f r to i.before (to n.at) n.op))
      → labels.handler l code.catches q kind ≡ option_map to (handler_at by m at kind)
  handlers_found by l m code same at k i there is kind tells q up down =
      ap (λ cs. labels.handler l cs q kind) same
      ∙ found_alike k i there q up down by l (class_of_code m) kind tells m.catches
      ∙ ap (λ o. option_map to (handler by (class_of_code m) m.catches o (shape_name kind))) (sym is)
