-- Rows that see the stack and the locals alone keep what is known of them.
use Rattle.std.proofs.Common.{◌≡◌, ◌≤◌, ◌+◌, ◌/◌, ◌%◌, ◌||◌, ◌&&◌, ℕ, Bool, true, false, not, nat_lt}
use Rattle.std.proofs.Common.{nat_le, ◌==◌, List, [], ◌∷◌, ◌++◌, length, take, drop, map, slice_get, slice_set, Option}
use Rattle.std.proofs.Common.{Some, None, refl, sym, ap, subst, ◌∙◌, arith, ℤ, pos, negsuc, ◌+ℤ◌, leb-true, leb-false}
use Rattle.std.proofs.Common.{ltb-false}
use Rattle.std.proofs.Common.{length-append, length-drop, append_assoc}
use Rattle.std.specs.Prelude.{if◌then◌else◌}
use Rattle.std.proofs.lemmas.Bool.{or_parts}
use Rattle.cjc_card_semantics.specs.Range.Words.{wide, low_word}
use Rattle.cjc_script.specs.declared.value.Value.{Value}
use Rattle.cjc_script.specs.declared.value.Value.TheVariants.{Num, Null, Obj}
use Rattle.cjc_card_semantics.specs.CapRead.Opcodes.{Operand as Kind}
use Rattle.cjc_card_semantics.specs.CapRead.Opcodes as opcodes
use Rattle.cjc_types.specs.declared.cell.Cell.{Cell}
use Rattle.cjc_types.specs.declared.cell.Cell.TheVariants.{Number, Refs, Unusable}
use Rattle.cjc_types.specs.declared.state.Stack.TheVariants.{Cells}
use Rattle.cjc_card_semantics.specs.Bytecode.Numbers.{is_zero}
use Rattle.cjc_card_semantics.specs.Bytecode.Calculations.{Calculation, Arithmetic, Fine, Fails, int_words, pushed}
use Rattle.cjc_card_semantics.specs.Bytecode.Calculations as machine
use Rattle.cjc_card_semantics.specs.Bytecode.Numbers as numbers
use Rattle.cjc_frames.specs.declared.acts.Act.{Act}
use Rattle.cjc_frames.specs.Acts.{Subtype, given, stack_behind, with_writes, has_wrong, has_wrong_local}
use Rattle.cjc_frames.specs.Acts.{lacks_local}
use Rattle.cjc_types.specs.Steps.{operand}
use Rattle.cjc_types.specs.Types.{as_reference}
use Rattle.cjc_types.specs.Rules as rules
use Rattle.cjc_frames.specs.declared.acts.Need.TheVariants.{NumberWord, ReferenceWord}
use Rattle.cjc_frames.specs.Acts.{is_wrong_local}
use Rattle.cjc_card_semantics.specs.Bytecode.Effects.{Reference, Short, Int}
use Rattle.cjc_card_acts.specs.Rows.{Row, number_words, any_words, operands_from, copying, swapping, calculating, idle}
use Rattle.cjc_card_acts.specs.Rows as rows
use Rattle.cjc_card_acts.specs.Rows.{loading, storing, increasing, copying_below, swapping_by, unknown}
use Rattle.cjc_verify_proof.specs.Words.{IsWord, AreWords, AreLocals, Leaves}
use Rattle.cjc_verify_proof.specs.Beside.{BesidePlain, AreRead, nop, null, constant, int_constant, literal, int_literal}
use Rattle.cjc_verify_proof.specs.Beside.{unary, binary, divided, int_unary, int_binary, int_divided, to_int, from_int}
use Rattle.cjc_verify_proof.specs.Beside.{from_ints}
use Rattle.cjc_verify_proof.specs.Beside as row
use Rattle.cjc_verify_proof.specs.Acts.{plain_act, Passes}
use Rattle.cjc_verify_proof.proofs.WordLaws.{true_of, Tops, behind, number, tops}
use Rattle.cjc_verify_proof.proofs.WordLaws as words
use Rattle.cjc_verify_proof.proofs.StackLaws.{any_length, from_operands, met, pushes, loads_reference}
use Rattle.cjc_verify_proof.proofs.StackLaws.{loads_number, held}
use Rattle.cjc_verify_proof.proofs.StackLaws.{pops, copies, swaps}
use Rattle.cjc_script.proofs.BytesLists.{map_append}
use Rattle.cjc_script.proofs.BytesBools.{bool_four}
use Rattle.cjc_script.proofs.BytesGets.{taken_length}

-- ---- tests that all hold

pub three : (a b c : Bool) → (a || b || c) ≡ false → (a ≡ false) × (b ≡ false) × (c ≡ false)
three false false false h = (refl, refl, refl)
three true b c h = cc
three false true c h = cc
three false false true h = cc

-- what a state that passes says, test by test
pub record Parts (is_of : Subtype) (room : ℕ) (a : Act) (lc cs : List Cell) : Type 0 where
  pub operands : has_wrong is_of a.takes cs ≡ false
  pub reads : has_wrong_local is_of a.reads lc ≡ false
  pub enough : length a.takes ≤ length cs
  pub before : length cs ≤ room
  pub after : nat_lt room (length (stack_behind a lc cs)) ≡ false
  pub locals : lacks_local a lc ≡ false
  pub known : a.is_unknown ≡ false

pub parts : (is_of : Subtype) (room : ℕ) (a : Act) (lc cs : List Cell) → Passes is_of room a lc cs
    → Parts is_of room a lc cs
parts is_of room a lc cs h =
    let w = three (has_wrong is_of a.takes cs) (has_wrong_local is_of a.reads lc) a.misfits h.right in
    let o = bool_four (nat_lt (length cs) (length a.takes)) (nat_lt room (length cs)) (nat_lt room (length
    (stack_behind a lc
    cs))) (lacks_local a lc) h.there in
    record {
      operands = w.0;
      reads = w.1;
      enough = ltb-false (length cs) (length a.takes) o.0;
      before = ltb-false room (length cs) o.1;
      after = o.2;
      locals = o.3;
      known = h.known;
    }

-- ---- operands

data IsOne : List ℤ → Type 0 where
  one : (n : ℕ) → IsOne (pos n ∷ [])

data IsTwo : List ℤ → Type 0 where
  two : (n : ℕ) (by : ℤ) → IsTwo (pos n ∷ by ∷ [])

one_byte : (ops : List ℤ) → AreRead (opcodes.Byte ∷ []) ops → IsOne ops
one_byte [] d = absurd d
one_byte (pos n ∷ []) d = one n
one_byte (negsuc n ∷ zs) d = absurd d.0
one_byte (pos n ∷ z ∷ zs) d = absurd d.1

two_numbers : (j : Kind) (ops : List ℤ) → AreRead (opcodes.Byte ∷ j ∷ []) ops → IsTwo ops
two_numbers j [] d = absurd d
two_numbers j (z ∷ []) d = absurd d.1
two_numbers j (pos n ∷ by ∷ []) d = two n by
two_numbers j (negsuc n ∷ by ∷ zs) d = absurd d.0
two_numbers j (pos n ∷ by ∷ z ∷ zs) d = absurd d.1.1

-- ---- the stack behind copies

copied_behind : (lc cs : List Cell) (m n : ℕ) → m ≤ n → n ≤ length cs
    → stack_behind (copying m n) lc cs ≡ take n cs ++ (take m cs ++ drop n cs)
copied_behind lc cs m n le h =
    ap (λ xs. xs ++ drop (length (any_words n)) cs) (map_append (given lc cs) (operands_from 0 n) (operands_from 0 m)
    ∙ ap (λ xs. xs ++ map (given lc cs) (operands_from 0 m)) (from_operands lc cs 0 n (omega (arith, h)))
    ∙ ap (λ xs. take n cs ++ xs) (from_operands lc cs 0 m (omega (arith, h, le))))
    ∙ append_assoc (take n cs) (take m cs) (drop (length (any_words n)) cs)
    ∙ ap (λ j. take n cs ++ (take m cs ++ drop j cs)) (any_length n)

swapped_behind : (lc cs : List Cell) (m n : ℕ) → m + n ≤ length cs
    → stack_behind (swapping m n) lc cs ≡ take n (drop m cs) ++ (take m cs ++ drop (m + n) cs)
swapped_behind lc cs m n h =
    ap (λ xs. xs ++ drop (length (any_words (m + n))) cs) (map_append (given lc cs) (operands_from m n)
    (operands_from 0 m)
    ∙ ap (λ xs. xs ++ map (given lc cs) (operands_from 0 m)) (from_operands lc cs m n h)
    ∙ ap (λ xs. take n (drop m cs) ++ xs) (from_operands lc cs 0 m (omega (arith, h))))
    ∙ append_assoc (take n (drop m cs)) (take m cs) (drop (length (any_words (m + n))) cs)
    ∙ ap (λ j. take n (drop m cs) ++ (take m cs ++ drop j cs)) (any_length (m + n))

copied_length : (cs : List Cell) (m n : ℕ) → m ≤ n → n ≤ length cs
    → length (take n cs ++ (take m cs ++ drop n cs)) ≡ m + length cs
copied_length cs m n le h =
    let a = length-append (take n cs) (take m cs ++ drop n cs) in
    let b = length-append (take m cs) (drop n cs) in
    let c = taken_length n cs h in
    let d = taken_length m cs (omega (arith, le, h)) in
    let e = length-drop n cs in
    omega (arith, a, b, c, d, e, le, h)

copy_by : (x a c d : Bool) (m n : ℕ) → (x && (a || (c && d))) ≡ true → (c ≡ true → m ≤ n) → m ≤ (if a then m else n)
copy_by x true c d m n h le = omega arith
copy_by true false true d m n h le = le refl
copy_by true false false d m n h le = cc
copy_by false false c d m n h le = cc

module _ (is : (type : List ℕ) → (object : ℕ) → Bool) (is_of : Subtype) (room : ℕ) (lc : List Cell)
    (lv : List (Option Value)) (k : AreLocals is lc lv) where
  -- what a row leaves
  abbrev pub Kept : Row → List ℤ → Calculation → List Cell → List Value → Type 0
  Kept r ops f cs vs = let a = plain_act r ops in Leaves is (stack_behind a lc cs) (with_writes a lc (Cells cs) a.writes
      lc) (f room lv vs)

  -- ---- numbers

  abbrev pub Calculated : (m n : ℕ) → Calculation → List Cell → List Value → Type 0
  Calculated m n f cs vs = let a = calculating m n in Leaves is (stack_behind a lc cs) lc (f room lv vs)

  unary_leaves : (f : ℤ → ℤ) (ops : List ℤ) {cs : List Cell} {vs : List Value} → Tops is 1 cs vs
      → Calculated 1 1 (machine.unary f ops) cs vs
  unary_leaves f ops (number x (behind w)) = ((tt, w), k)

  binary_leaves : (f : ℤ → ℤ → ℤ) (ops : List ℤ) {cs : List Cell} {vs : List Value} → Tops is 2 cs vs
      → Calculated 2 1 (machine.binary f ops) cs vs
  binary_leaves f ops (number y (number x (behind w))) = ((tt, w), k)

  divided_leaves : (f : ℤ → ℤ → ℤ) (ops : List ℤ) {cs : List Cell} {vs : List Value} → Tops is 2 cs vs
      → Calculated 2 1 (machine.divided f ops) cs vs
  divided_leaves f ops (number y (number x (behind {cs = cs} {vs = vs} w))) = go (is_zero y)
    where
      go : (b : Bool) → Leaves is (Number ∷ cs) lc (if b then Fails Arithmetic else Fine (Num (low_word (f x y)) ∷ vs)
          lv)
      go true = tt
      go false = ((tt, w), k)

  int_unary_leaves : (f : ℤ → ℤ) (ops : List ℤ) {cs : List Cell} {vs : List Value} → Tops is 2 cs vs
      → Calculated 2 2 (machine.int_unary f ops) cs vs
  int_unary_leaves f ops (number y (number x (behind w))) = ((tt, (tt, w)), k)

  int_binary_leaves : (f : ℤ → ℤ → ℤ) (ops : List ℤ) {cs : List Cell} {vs : List Value} → Tops is 4 cs vs
      → Calculated 4 2 (machine.int_binary f ops) cs vs
  int_binary_leaves f ops (number y (number x (number u (number v (behind w))))) = ((tt, (tt, w)), k)

  int_divided_leaves : (f : ℤ → ℤ → ℤ) (ops : List ℤ) {cs : List Cell} {vs : List Value} → Tops is 4 cs vs
      → Calculated 4 2 (machine.int_divided f ops) cs vs
  int_divided_leaves f ops (number y (number x (number u (number v (behind {cs = cs} {vs = vs} w))))) =
      go (numbers.spelt_by v u) (is_zero (numbers.spelt_by x y))
    where
      go : (z : ℤ) (b : Bool) → Leaves is (Number ∷ Number ∷ cs) lc (if b then Fails Arithmetic
          else Fine (int_words (wide (f z (numbers.spelt_by x y))) ++ vs) lv)
      go z true = tt
      go z false = ((tt, (tt, w)), k)

  from_int_leaves : (f : ℤ → ℤ) (ops : List ℤ) {cs : List Cell} {vs : List Value} → Tops is 2 cs vs
      → Calculated 2 1 (machine.from_int f ops) cs vs
  from_int_leaves f ops (number y (number x (behind w))) = ((tt, w), k)

  from_ints_leaves : (f : ℤ → ℤ → ℤ) (ops : List ℤ) {cs : List Cell} {vs : List Value} → Tops is 4 cs vs
      → Calculated 4 1 (machine.from_ints f ops) cs vs
  from_ints_leaves f ops (number y (number x (number u (number v (behind w))))) = ((tt, w), k)

  to_int_leaves : (ops : List ℤ) {cs : List Cell} {vs : List Value} → Tops is 1 cs vs
      → nat_lt room (length (stack_behind (calculating 1 2) lc cs)) ≡ false → Calculated 1 2 (machine.to_int ops) cs vs
  to_int_leaves ops (number x (behind {cs = cs} {vs = vs} w)) h =
      pushes is room lc lv k cs vs w (Number ∷ Number ∷ []) (int_words x) (tt, (tt, tt)) h

  pub calculates : (m n : ℕ) (cs : List Cell) (vs : List Value) → AreWords is cs vs
      → Parts is_of room (calculating m n) lc cs → Tops is m cs vs
  calculates m n cs vs w p = tops is is_of m cs vs w p.operands p.enough

  -- ---- locals

  -- what the acts that read or write one local or two say of them
  not_lacking : (a b : Bool) → ((a || false) || b) ≡ false → a ≡ false
  not_lacking a b h = (or_parts a false (or_parts (a || false) b h).0).0

  both_there : (a b c : Bool) → ((a || (b || false)) || c) ≡ false → (a ≡ false) × (b ≡ false)
  both_there a b c h =
      let p = or_parts a (b || false) (or_parts (a || (b || false)) c h).0 in (p.0, (or_parts b false p.1).0)

  aload_at : (l : ℕ) (cs : List Cell) (vs : List Value) → AreWords is cs vs
      → Parts is_of room (loading Reference l) lc cs
      → Leaves is (as_reference (operand lc l) ∷ cs) lc (machine.load_reference l room lv vs)
  aload_at l cs vs w p =
      let t = words.there is lc lv l k (leb-false (length lc) l (not_lacking (nat_le (length lc) l) false p.locals)) in
      let e = met is_of ReferenceWord (slice_get lc l) t.cell t.typed (or_parts (is_wrong_local is_of ReferenceWord
      (slice_get lc l)) false p.reads).0 in
      subst (λ q. Leaves is (as_reference (operand lc l) ∷ cs) lc (machine.set_local q (λ v. machine.if_so
      (machine.is_reference v) (pushed (v ∷ []) room lv vs)))) (sym t.found)
      (subst (λ c. Leaves is (as_reference c ∷ cs) lc (machine.set_local (Some t.held) (λ v. machine.if_so
      (machine.is_reference v) (pushed (v ∷ []) room lv vs)))) (sym t.read)
      (loads_reference is room lc lv k is_of cs vs w t.cell t.held e t.is_local p.after))

  sload_at : (l : ℕ) (cs : List Cell) (vs : List Value) → AreWords is cs vs
      → Parts is_of room (loading Short l) lc cs → Leaves is (Number ∷ cs) lc (machine.load_word l room lv vs)
  sload_at l cs vs w p =
      let t = words.there is lc lv l k (leb-false (length lc) l (not_lacking (nat_le (length lc) l) false p.locals)) in
      let e = met is_of NumberWord (slice_get lc l) t.cell t.typed (or_parts (is_wrong_local is_of NumberWord
      (slice_get lc l)) false p.reads).0 in
      subst (λ q. Leaves is (Number ∷ cs) lc (machine.set_local q (λ v. machine.if_so (machine.is_number v)
      (pushed (v ∷ []) room lv vs)))) (sym t.found)
      (loads_number is room lc lv k is_of cs vs w t.cell t.held e t.is_local p.after)

  abbrev Ints : List Cell → List Value → (q r : Option (Option Value)) → Type 0
  Ints cs vs q r = Leaves is (Number ∷ Number ∷ cs) lc (machine.set_local q (λ high. machine.set_local r (λ low.
      machine.if_so (machine.is_number high && machine.is_number low) (pushed (low ∷ high ∷ []) room lv vs))))

  iload_at : (l : ℕ) (cs : List Cell) (vs : List Value) → AreWords is cs vs
      → Parts is_of room (loading Int l) lc cs → Leaves is (Number ∷ Number ∷ cs) lc (machine.load_int l room lv vs)
  iload_at l cs vs w p =
      let b = both_there (nat_le (length lc) l) (nat_le (length lc) (l + 1)) false p.locals in
      let r = or_parts (is_wrong_local is_of NumberWord (slice_get lc l)) (is_wrong_local is_of NumberWord
      (slice_get lc (l + 1)) || false) p.reads in
      let x = held is room lc lv k is_of l b.0 r.0 in
      let y = held is room lc lv k is_of (l + 1) b.1 (or_parts (is_wrong_local is_of NumberWord (slice_get lc (l + 1)))
      false r.1).0 in
      subst (λ q. Ints cs vs q (slice_get lv (l + 1))) (sym x.holds) (subst (λ q. Ints cs vs (Some (Some (Num x.value)))
      q) (sym y.holds) (pushes is room lc lv k cs vs w (Number ∷ Number ∷ []) (Num y.value ∷ Num x.value ∷ [])
      (tt, (tt, tt)) p.after))

  -- a local is written that is there
  set_there : (l : ℕ) (c : Cell) (v : Value) (cs : List Cell) (vs : List Value) → AreWords is cs vs → IsWord is c v
      → nat_le (length lc) l ≡ false
      → Leaves is cs (slice_set lc l c) (machine.there (slice_get lv l) (Fine vs (slice_set lv l (Some v))))
  set_there l c v cs vs w i lack =
      let t = words.there is lc lv l k (leb-false (length lc) l lack) in
      subst (λ q. Leaves is cs (slice_set lc l c) (machine.there q (Fine vs (slice_set lv l (Some v))))) (sym t.found)
      (w, words.locals_set is lc lv l c (Some v) k i)

  astore_by : (l : ℕ) (c : Cell) (v : Value) (cs : List Cell) (vs : List Value) → AreWords is cs vs → IsWord is c v
      → rules.is_reference c ≡ true → nat_le (length lc) l ≡ false
      → Leaves is cs (slice_set lc l (as_reference c)) (machine.store_if machine.is_reference l room lv (v ∷ vs))
  astore_by l (Refs names) Null cs vs w i e lack = set_there l (Refs names) Null cs vs w i lack
  astore_by l (Refs names) (Obj j) cs vs w i e lack = set_there l (Refs names) (Obj j) cs vs w i lack
  astore_by l (Refs names) (Num z) cs vs w i e lack = absurd i
  astore_by l Number v cs vs w i e lack = cc
  astore_by l Unusable v cs vs w i e lack = cc

  astore_at : (l : ℕ) (cs : List Cell) (vs : List Value) → AreWords is cs vs
      → Parts is_of room (storing Reference l) lc cs → Leaves is (drop 1 cs) (slice_set lc l (as_reference (operand cs
      0))) (machine.store_if machine.is_reference l room lv vs)
  astore_at l [] vs w p = let few = p.enough in absurd (omega (arith, few))
  astore_at l (c ∷ cs) [] w p = absurd w
  astore_at l (c ∷ cs) (v ∷ vs) w p = astore_by l c v cs vs w.1 w.0 (true_of (rules.is_reference c)
      (or_parts (not (rules.is_reference c)) false p.operands).0)
      (or_parts (nat_le (length lc) l) false (or_parts false (nat_le (length lc) l || false) p.locals).1).0

  sstore_by : (l : ℕ) {cs : List Cell} {vs : List Value} → Tops is 1 cs vs → nat_le (length lc) l ≡ false
      → Leaves is (drop 1 cs) (slice_set lc l Number) (machine.store_if machine.is_number l room lv vs)
  sstore_by l (number z (behind {cs = cs} {vs = vs} w)) lack = set_there l Number (Num z) cs vs w tt lack

  sstore_at : (l : ℕ) (cs : List Cell) (vs : List Value) → AreWords is cs vs
      → Parts is_of room (storing Short l) lc cs → Leaves is (drop 1 cs) (slice_set lc l Number)
      (machine.store_if machine.is_number l room lv vs)
  sstore_at l cs vs w p = sstore_by l (tops is is_of 1 cs vs w p.operands p.enough)
      (or_parts (nat_le (length lc) l) false (or_parts false (nat_le (length lc) l || false) p.locals).1).0

  istore_by : (l : ℕ) {cs : List Cell} {vs : List Value} → Tops is 2 cs vs → nat_le (length lc) (l + 1) ≡ false
      → Leaves is (drop 2 cs) (slice_set (slice_set lc l Number) (l + 1) Number) (machine.store_int l room lv vs)
  istore_by l (number y (number x (behind {cs = cs} {vs = vs} w))) lack =
      let t = words.there is lc lv (l + 1) k (leb-false (length lc) (l + 1) lack) in
      subst (λ q. Leaves is cs (slice_set (slice_set lc l Number) (l + 1) Number) (machine.there q (Fine vs
      (slice_set (slice_set lv l (Some (Num x))) (l + 1) (Some (Num y)))))) (sym t.found) (
        w,
        words.locals_set is (slice_set lc l Number) (slice_set lv l (Some (Num x))) (l + 1) Number (Some (Num y))
            (words.locals_set is lc lv l Number (Some (Num x)) k tt) tt,
      )

  istore_at : (l : ℕ) (cs : List Cell) (vs : List Value) → AreWords is cs vs
      → Parts is_of room (storing Int l) lc cs → Leaves is (drop 2 cs) (slice_set (slice_set lc l Number) (l + 1)
      Number) (machine.store_int l room lv vs)
  istore_at l cs vs w p = istore_by l (tops is is_of 2 cs vs w p.operands p.enough)
      (or_parts (nat_le (length lc) (l + 1)) false (or_parts (nat_le (length lc) l) (nat_le (length lc)
      (l + 1) || false)
      (or_parts false (nat_le (length lc) l || (nat_le (length lc) (l + 1) || false)) p.locals).1).1).0

  sinc_at : (l : ℕ) (by : ℤ) (cs : List Cell) (vs : List Value) → AreWords is cs vs
      → Parts is_of room (increasing Short l) lc cs → Leaves is cs (slice_set lc l Number)
      (machine.increased (pos l ∷ by ∷ []) room lv vs)
  sinc_at l by cs vs w p =
      let x = held is room lc lv k is_of l (not_lacking (nat_le (length lc) l) (nat_le (length lc) l || false) p.locals)
      (or_parts (is_wrong_local is_of NumberWord (slice_get lc l)) false p.reads).0 in
      subst (λ q. Leaves is cs (slice_set lc l Number) (machine.number_in q (λ x. Fine vs (slice_set lv l (Some
      (Num (low_word (x +ℤ by)))))))) (sym x.holds)
      (w, words.locals_set is lc lv l Number (Some (Num (low_word (x.value +ℤ by)))) k tt)

  abbrev Increased : (l : ℕ) (by : ℤ) → List Cell → List Value → (q r : Option (Option Value)) → Type 0
  Increased l by cs vs q r = Leaves is cs (slice_set (slice_set lc l Number) (l + 1) Number)
      (machine.number_in q (λ high. machine.number_in r (λ low. Fine vs (machine.int_set l (numbers.spelt_by high low
      +ℤ by) lv))))

  iinc_at : (l : ℕ) (by : ℤ) (cs : List Cell) (vs : List Value) → AreWords is cs vs
      → Parts is_of room (increasing Int l) lc cs → Leaves is cs (slice_set (slice_set lc l Number) (l + 1) Number)
      (machine.int_increased (pos l ∷ by ∷ []) room lv vs)
  iinc_at l by cs vs w p =
      let b = both_there (nat_le (length lc) l) (nat_le (length lc) (l + 1)) (nat_le (length lc) l
      || (nat_le (length lc) (l + 1) || false)) p.locals in
      let r = or_parts (is_wrong_local is_of NumberWord (slice_get lc l)) (is_wrong_local is_of NumberWord
      (slice_get lc (l + 1)) || false) p.reads in
      let x = held is room lc lv k is_of l b.0 r.0 in
      let y = held is room lc lv k is_of (l + 1) b.1 (or_parts (is_wrong_local is_of NumberWord (slice_get lc (l + 1)))
      false r.1).0 in
      let z = numbers.spelt_by x.value y.value +ℤ by in
      subst (λ q. Increased l by cs vs q (slice_get lv (l + 1))) (sym x.holds) (subst (λ q. Increased l by cs vs
      (Some (Some (Num x.value))) q) (sym y.holds) (
        w,
        words.locals_set is (slice_set lc l Number) (slice_set lv l (Some (Num (numbers.high_word z)))) (l + 1)
            Number (Some (Num (low_word z))) (words.locals_set is lc lv l Number (Some (Num (numbers.high_word z))) k
            tt)
            tt,
      ))

  -- ---- the stack

  copy_at : (m n : ℕ) → m ≤ n → (cs : List Cell) (vs : List Value) → AreWords is cs vs
      → Parts is_of room (copying m n) lc cs
      → Leaves is (stack_behind (copying m n) lc cs) lc (machine.copied m n room lv vs)
  copy_at m n le cs vs w p =
      let few = p.enough in
      let count = any_length n in
      let enough : n ≤ length cs = omega (arith, few, count) in
      let same = copied_behind lc cs m n le enough in
      let high = ltb-false room (length (stack_behind (copying m n) lc cs)) p.after in
      let long = ap length same ∙ copied_length cs m n le enough in
      subst (λ s. Leaves is s lc (machine.copied m n room lv vs)) (sym same)
      (copies is room lc lv k cs vs w m n le enough (omega (arith, high, long)))

  pop_at : (n : ℕ) (cs : List Cell) (vs : List Value) → AreWords is cs vs
      → Parts is_of room (record idle { takes = any_words n }) lc cs
      → Leaves is (drop (length (any_words n)) cs) lc (machine.popped n room lv vs)
  pop_at n cs vs w p =
      let few = p.enough in
      let count = any_length n in
      subst (λ j. Leaves is (drop j cs) lc (machine.popped n room lv vs)) (sym count)
      (pops is room lc lv k cs vs w n (omega (arith, few, count)))

  copy_below : (m n : ℕ) (b : Bool) → machine.is_copy m n ≡ b → (cs : List Cell) (vs : List Value) → AreWords is cs vs
      → Parts is_of room (if b then copying m (if n == 0 then m else n) else unknown) lc cs
      → let a = (if b then copying m (if n == 0 then m else n) else unknown) in
      Leaves is (stack_behind a lc cs) (with_writes a lc (Cells cs) a.writes lc) (machine.if_so b (machine.copied m
      (if n == 0 then m else n) room lv vs))
  copy_below m n true e cs vs w p = copy_at m (if n == 0 then m else n) (copy_by (nat_le 1 m && nat_le m 4) (n == 0)
      (nat_le m n) (nat_le n (m + 4)) m n e (leb-true m n)) cs vs w p
  copy_below m n false e cs vs w p = let no = p.known in cc

  swap_below : (m n : ℕ) (b : Bool) → (cs : List Cell) (vs : List Value) → AreWords is cs vs
      → Parts is_of room (if b then swapping m n else unknown) lc cs
      → let a = (if b then swapping m n else unknown) in
      Leaves is (stack_behind a lc cs) (with_writes a lc (Cells cs) a.writes lc) (machine.if_so b (machine.if_so (nat_le
      (m + n) (length vs)) (Fine (take n (drop m vs) ++ (take m vs ++ drop (m + n) vs)) lv)))
  swap_below m n true cs vs w p =
      let few = p.enough in
      let count = any_length (m + n) in
      let enough : m + n ≤ length cs = omega (arith, few, count) in
      subst (λ s. Leaves is s lc (machine.if_so (nat_le (m + n) (length vs)) (Fine (take n (drop m vs)
      ++ (take m vs ++ drop (m + n) vs)) lv))) (sym (swapped_behind lc cs m n enough))
      (swaps is room lc lv k cs vs w m n enough)
  swap_below m n false cs vs w p = let no = p.known in cc

  -- ---- all

  abbrev pub Said : Row → List ℤ → List Cell → Type 0
  Said r ops cs = Parts is_of room (plain_act r ops) lc cs

  abbrev Keeps : Row → (List ℤ → Calculation) → List ℤ → Type 0
  Keeps r f ops = (cs : List Cell) (vs : List Value) → AreWords is cs vs → Said r ops cs → Kept r ops (f ops) cs vs

  aload_one : (ops : List ℤ) → IsOne ops
      → Keeps (rows.Loads Reference None) (machine.numbered machine.load_reference) ops
  aload_one ops (one l) = aload_at l

  sload_one : (ops : List ℤ) → IsOne ops → Keeps (rows.Loads Short None) (machine.numbered machine.load_word) ops
  sload_one ops (one l) = sload_at l

  iload_one : (ops : List ℤ) → IsOne ops → Keeps (rows.Loads Int None) (machine.numbered machine.load_int) ops
  iload_one ops (one l) = iload_at l

  astore_one : (ops : List ℤ) → IsOne ops
      → Keeps (rows.Stores Reference None) (machine.numbered (machine.store_if machine.is_reference)) ops
  astore_one ops (one l) = astore_at l

  sstore_one : (ops : List ℤ) → IsOne ops
      → Keeps (rows.Stores Short None) (machine.numbered (machine.store_if machine.is_number)) ops
  sstore_one ops (one l) = sstore_at l

  istore_one : (ops : List ℤ) → IsOne ops → Keeps (rows.Stores Int None) (machine.numbered machine.store_int) ops
  istore_one ops (one l) = istore_at l

  sinc_two : (ops : List ℤ) → IsTwo ops → Keeps (rows.Increases Short) machine.increased ops
  sinc_two ops (two l by) = sinc_at l by

  iinc_two : (ops : List ℤ) → IsTwo ops → Keeps (rows.Increases Int) machine.int_increased ops
  iinc_two ops (two l by) = iinc_at l by

  dup_one : (ops : List ℤ) → IsOne ops → Keeps rows.CopiesBelow (machine.by_nibbles machine.dup_x) ops
  dup_one ops (one b) = copy_below (b / 16) (b % 16) (machine.is_copy (b / 16) (b % 16)) refl

  swap_one : (ops : List ℤ) → IsOne ops → Keeps rows.Swaps (machine.by_nibbles machine.swap_x) ops
  swap_one ops (one b) = swap_below (b / 16) (b % 16) (machine.is_swap (b / 16) && machine.is_swap (b % 16))

  pub plain_kept : (r : Row) (f : List ℤ → Calculation) (kinds : List Kind) → BesidePlain r f kinds → (ops : List ℤ)
      → AreRead kinds ops → (cs : List Cell) (vs : List Value) → AreWords is cs vs → Said r ops cs
      → Kept r ops (f ops) cs vs
  plain_kept r f kinds (unary g) ops d cs vs w p = unary_leaves g ops (calculates 1 1 cs vs w p)
  plain_kept r f kinds (binary g) ops d cs vs w p = binary_leaves g ops (calculates 2 1 cs vs w p)
  plain_kept r f kinds (divided g) ops d cs vs w p = divided_leaves g ops (calculates 2 1 cs vs w p)
  plain_kept r f kinds (int_unary g) ops d cs vs w p = int_unary_leaves g ops (calculates 2 2 cs vs w p)
  plain_kept r f kinds (int_binary g) ops d cs vs w p = int_binary_leaves g ops (calculates 4 2 cs vs w p)
  plain_kept r f kinds (int_divided g) ops d cs vs w p = int_divided_leaves g ops (calculates 4 2 cs vs w p)
  plain_kept r f kinds to_int ops d cs vs w p = to_int_leaves ops (calculates 1 2 cs vs w p) p.after
  plain_kept r f kinds (from_int g) ops d cs vs w p = from_int_leaves g ops (calculates 2 1 cs vs w p)
  plain_kept r f kinds (from_ints g) ops d cs vs w p = from_ints_leaves g ops (calculates 4 1 cs vs w p)
  plain_kept r f kinds nop ops d cs vs w p = (w, k)
  plain_kept r f kinds null ops d cs vs w p = pushes is room lc lv k cs vs w (Refs [] ∷ []) (Null ∷ []) (tt, tt) p.after
  plain_kept r f kinds (constant z) ops d cs vs w p = pushes is room lc lv k cs vs w (Number ∷ []) (Num z ∷ []) (tt, tt)
      p.after
  plain_kept r f kinds (int_constant z) ops d cs vs w p = pushes is room lc lv k cs vs w (Number ∷ Number ∷ [])
      (int_words z) (tt, (tt, tt)) p.after
  plain_kept r f kinds (literal j) [] d cs vs w p = absurd d
  plain_kept r f kinds (literal j) (z ∷ []) d cs vs w p = pushes is room lc lv k cs vs w (Number ∷ []) (Num z ∷ [])
      (tt, tt) p.after
  plain_kept r f kinds (literal j) (z ∷ y ∷ zs) d cs vs w p = absurd d.1
  plain_kept r f kinds (int_literal j) [] d cs vs w p = absurd d
  plain_kept r f kinds (int_literal j) (z ∷ []) d cs vs w p = pushes is room lc lv k cs vs w (Number ∷ Number ∷ [])
      (int_words z) (tt, (tt, tt)) p.after
  plain_kept r f kinds (int_literal j) (z ∷ y ∷ zs) d cs vs w p = absurd d.1
  plain_kept r f kinds row.aload ops d cs vs w p = aload_one ops (one_byte ops d) cs vs w p
  plain_kept r f kinds row.sload ops d cs vs w p = sload_one ops (one_byte ops d) cs vs w p
  plain_kept r f kinds row.iload ops d cs vs w p = iload_one ops (one_byte ops d) cs vs w p
  plain_kept r f kinds (row.aload_n l) ops d cs vs w p = aload_at l cs vs w p
  plain_kept r f kinds (row.sload_n l) ops d cs vs w p = sload_at l cs vs w p
  plain_kept r f kinds (row.iload_n l) ops d cs vs w p = iload_at l cs vs w p
  plain_kept r f kinds row.astore ops d cs vs w p = astore_one ops (one_byte ops d) cs vs w p
  plain_kept r f kinds row.sstore ops d cs vs w p = sstore_one ops (one_byte ops d) cs vs w p
  plain_kept r f kinds row.istore ops d cs vs w p = istore_one ops (one_byte ops d) cs vs w p
  plain_kept r f kinds (row.astore_n l) ops d cs vs w p = astore_at l cs vs w p
  plain_kept r f kinds (row.sstore_n l) ops d cs vs w p = sstore_at l cs vs w p
  plain_kept r f kinds (row.istore_n l) ops d cs vs w p = istore_at l cs vs w p
  plain_kept r f kinds (row.sinc j) ops d cs vs w p = sinc_two ops (two_numbers j ops d) cs vs w p
  plain_kept r f kinds (row.iinc j) ops d cs vs w p = iinc_two ops (two_numbers j ops d) cs vs w p
  plain_kept r f kinds (row.pop n) ops d cs vs w p = pop_at n cs vs w p
  plain_kept r f kinds (row.dup n) ops d cs vs w p = copy_at n n (omega arith) cs vs w p
  plain_kept r f kinds row.dup_x ops d cs vs w p = dup_one ops (one_byte ops d) cs vs w p
  plain_kept r f kinds row.swap_x ops d cs vs w p = swap_one ops (one_byte ops d) cs vs w p
