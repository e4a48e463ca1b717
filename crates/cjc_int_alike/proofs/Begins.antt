-- A method in int mode begins with what its descriptor says.
use Rattle.std.proofs.Common.{◌≡◌, ◌⊎◌, ◌≤◌, ◌<◌, ◌+◌, ◌-◌, ℕ, zero, suc, Bool, true, false, cond, List, [], ◌∷◌}
use Rattle.std.proofs.Common.{◌++◌, map, length, take, replicate, get_or, Option, Some, None, inl, inr, refl, sym}
use Rattle.std.proofs.Common.{ap, subst, ◌∙◌, arith}
use Rattle.std.specs.Prelude.{nat_le, ◌||◌}
use Rattle.std.proofs.lemmas.Bool.Decides.{nat_tests}
use Rattle.std.specs.List.{AllZip}
use Rattle.std.proofs.lemmas.List.Elements.{All-nil}
use Rattle.cjc_bytes.specs.AccessFlags.{is_static}
use Rattle.cjc_bytes.specs.Descriptor.{Part}
use Rattle.cjc_bytes.specs.declared.descriptor.Kind.{Kind as PartKind}
use Rattle.cjc_bytes.specs.declared.descriptor.Kind.TheVariants as part_kinds
use Rattle.cjc_range.specs.Span.{Span, IsWord, full, Within}
use Rattle.cjc_script.specs.Sorts.{Shape, Sort, Boolean, Byte, Short, Int, Reference, NoValue, sort_by, reference_to}
use Rattle.cjc_script.specs.Sorts.{shape_named}
use Rattle.cjc_world.specs.Classes.{Class}
use Rattle.cjc_types.specs.declared.cell.Cell.{Cell}
use Rattle.cjc_types.specs.declared.cell.Cell.TheVariants.{Refs, Unusable}
use Rattle.cjc_types.specs.Flow.{Body, arguments, entry}
use Rattle.cjc_types.specs.Types.{parts, value_of, cell_of}
use Rattle.cjc_intervals.proofs.Flow.{own_first}
use Rattle.cjc_intervals.specs.Flow.{argument_ranges, first_state}
use Rattle.cjc_intervals.specs.Steps.{operand}
use Rattle.cjc_intervals.specs.Values.{range_of, range_of_kind}
use Rattle.cjc_card_semantics.specs.Bytecode.Arguments.{width, widths}
use Rattle.cjc_card_semantics.specs.Bytecode.Machine.{Start}
use Rattle.cjc_ncode.specs.declared.narrow.NMethod.{NMethod}
use Rattle.cjc_ncode.specs.ByLabel.{Named}
use Rattle.cjc_ncode.specs.Written.{Resolution}
use Rattle.cjc_ncode.specs.IntCode.IntCode.{is_short}
use Rattle.cjc_jvm_semantics.specs.Linked.{Method, Linked}
use Rattle.cjc_jvm_semantics.specs.Machine.{Frame}
use Rattle.cjc_narrow_proof.specs.Selection.Calls.{NFrame}
use Rattle.cjc_narrow_proof.specs.Selection.Relation.{Kind, Range, Refers, Free, NMemory, Wider, more_numbers}
use Rattle.cjc_narrow_proof.specs.Selection.Relation.{more_types, AllWider, none_wider, one_wider}
use Rattle.cjc_narrow_proof.specs.Selection.Replies.{is_of_some}
use Rattle.cjc_narrow_proof.specs.Tables.Analysis.{Found, HasRoomToBegin, declared_kinds}
use Rattle.cjc_narrow_proof.specs.Tables.Kinds.{is_one_of, kind_of_cell, kinds, kinds_from}
use Rattle.cjc_narrow_proof.proofs.TablesLaws.Told.{kinds_same, kinds_length}
use Rattle.cjc_int_mode.specs.Room.{many_arguments}
use Rattle.cjc_int_mode.specs.Written.{int_frame}
use Rattle.cjc_int_runs.specs.Relation.{type_range}
use Rattle.cjc_int_runs.specs.Typed.{Knows}
use Rattle.cjc_int_alike.specs.Calls.{IsPassedInt, a_word, an_int, a_reference}
use Rattle.cjc_int_alike.specs.Method.{IsIntWhole, int_body}
use Rattle.cjc_int_alike.proofs.Arrivals.{comes_to}
use Rattle.cjc_int_alike.proofs.Resolved.{kind_is_int}
use Rattle.cjc_int_alike.proofs.Rows.{knows}

-- ---- the first locals

frees : (l : Named) (k n more : ℕ) (s : List Span) → n ≤ more → kinds_from l k (take n (replicate more Unusable)) s
    ≡ replicate n Free
frees l k zero more s h = refl
frees l k (suc n) zero s h = absurd (omega (arith, h))
frees l k (suc n) (suc more) s h = ap (λ ks. Free ∷ ks) (frees l (suc k) n more s (omega (arith, h)))

first_kinds : (l : Named) (k n more : ℕ) (xs : List Cell) (s : List Span) → length xs ≤ n → n ≤ more
    → kinds_from l k (take n (xs ++ replicate more Unusable)) s ≡ kinds_from l k xs s ++ replicate (n - length xs) Free
first_kinds l k n more [] s h e = let same : n ≡ n - 0 = omega arith in frees l k n more s e
    ∙ ap (λ j. replicate j Free) same
first_kinds l k zero more (x ∷ xs) s h e = absurd (omega (arith, h))
first_kinds l k (suc n) more (x ∷ xs) s h e =
    let same : n - length xs ≡ suc n - suc (length xs) = omega arith in
    ap (λ ks. kind_of_cell l x (operand s k) ∷ ks) (first_kinds l (suc k) n more xs s (omega (arith, h)) (omega (
      arith,
      e,
    )) ∙ ap (λ j. kinds_from l (suc k) xs s ++ replicate j Free) same)

full_there : (n k : ℕ) → operand (replicate n full) k ≡ full
full_there zero k = refl
full_there (suc n) zero = refl
full_there (suc n) (suc k) = full_there n k

full_taken : (n more k : ℕ) → operand (take n (replicate more full)) k ≡ full
full_taken zero more k = refl
full_taken (suc n) zero k = refl
full_taken (suc n) (suc more) zero = refl
full_taken (suc n) (suc more) (suc k) = full_taken n more k

-- intervals that are filled up are the same: one that is missing is full
filled_up : (n more : ℕ) (s : List Span) → length s ≤ n → (k : ℕ) → operand (take n (s ++ replicate more full)) k
    ≡ operand s k
filled_up n more [] h k = full_taken n more k
filled_up zero more (x ∷ s) h k = absurd (omega (arith, h))
filled_up (suc n) more (x ∷ s) h zero = refl
filled_up (suc n) more (x ∷ s) h (suc k) = filled_up n more s (omega (arith, h)) k

as_many : (b : Body) → length (arguments b) ≡ length (argument_ranges b)
as_many b = go (is_static b.flags)
  where
    each : length (map value_of (parts b.desc).params) ≡ length (map range_of (parts b.desc).params)
    each = both (parts b.desc).params
      where
        both : (ps : List Part) → length (map value_of ps) ≡ length (map range_of ps)
        both [] = refl
        both (p ∷ ps) = ap suc (both ps)

    go : (is : Bool) → length ((cond is [] (Refs (b.class ∷ []) ∷ [])) ++ map value_of (parts b.desc).params)
        ≡ length ((cond is [] (full ∷ [])) ++ map range_of (parts b.desc).params)
    go true = each
    go false = ap suc each

-- ---- what is known of arguments

-- the interval of a parameter
pub range_there : (ps : List Part) (j : ℕ) (d : Part) → j < length ps → operand (map range_of ps) j
    ≡ range_of (get_or ps j d)
range_there [] j d lt = absurd (omega (arith, lt))
range_there (p ∷ ps) zero d lt = refl
range_there (p ∷ ps) (suc j) d lt = range_there ps j d (omega (arith, lt))

module _ (l : Named) where
  -- the kind of an argument is known as its parameter is where the method begins
  one_wider_there : (p : Part) (k : Kind) → IsPassedInt l p k → Wider k (kind_of_cell l (value_of p) (range_of p))
  one_wider_there p _ (an_int {s = s} is inside) =
      subst (λ (k : PartKind). Wider (Range s) (kind_of_cell l (cell_of k p.class) (range_of_kind k)))
      (sym (kind_is_int p is)) (more_numbers inside)
  one_wider_there p _ (a_word {s = s} short inside) = go p.kind short inside
    where
      by_shape : (o : Option (Shape (List ℕ))) → is_short (reference_to o) ≡ true → ⊥
      by_shape None e = cc
      by_shape (Some shape) e = cc

      go : (k : PartKind) → is_short (sort_by k p.class) ≡ true → Within s (type_range (sort_by k p.class))
          → Wider (Range s) (kind_of_cell l (cell_of k p.class) (range_of_kind k))
      go part_kinds.Bool short inside = more_numbers inside
      go part_kinds.Byte short inside = more_numbers inside
      go part_kinds.Short short inside = more_numbers inside
      go part_kinds.Int short inside = cc
      go part_kinds.Other short inside = cc
      go part_kinds.Ref short inside = absurd (by_shape (shape_named p.class) short)
      go part_kinds.Void short inside = cc
  one_wider_there p _ (a_reference {within = within} shape is of) = go p.kind is
    where
      by_shape : (o : Option (Shape (List ℕ))) → shape_named p.class ≡ o → reference_to o ≡ Reference shape
          → Wider (Refers within) (Refers (is_one_of l (p.class ∷ [])))
      by_shape None named e = cc
      by_shape (Some other) named e =
          let same : other ≡ shape = cc in
          more_types (λ kind passes. ap (λ o. is_of_some l kind o || false) named ∙ ap (λ b. b || false)
          (ap (l.is_of kind) same ∙ of kind passes))

      go : (k : PartKind) → sort_by k p.class ≡ Reference shape
          → Wider (Refers within) (kind_of_cell l (cell_of k p.class) (range_of_kind k))
      go part_kinds.Bool is = cc
      go part_kinds.Byte is = cc
      go part_kinds.Short is = cc
      go part_kinds.Int is = cc
      go part_kinds.Other is = cc
      go part_kinds.Ref is = by_shape (shape_named p.class) refl is
      go part_kinds.Void is = cc

  pub begins_wider : (ps : List Part) (ks : List Kind) (s : List Span) (k : ℕ) → AllZip (IsPassedInt l) ps ks
      → ((j : ℕ) (d : Part) → j < length ps → operand s (k + j) ≡ range_of (get_or ps j d))
      → AllWider ks (kinds_from l k (map value_of ps) s)
  begins_wider [] [] s k h e = none_wider
  begins_wider [] (j ∷ ks) s k h e = absurd h
  begins_wider (p ∷ ps) [] s k h e = absurd h
  begins_wider (p ∷ ps) (j ∷ ks) s k h e =
      let here : k + 0 ≡ k = omega arith in
      let number_here : operand s k ≡ range_of p = ap (operand s) (sym here) ∙ e 0 p (omega arith) in
      one_wider (subst (λ u. Wider j (kind_of_cell l (value_of p) u)) (sym number_here) (one_wider_there p j h.0))
      (begins_wider ps ks s (suc k) h.1 (λ i d lt. (let next : suc k + i ≡ k + suc i = omega arith
      in ap (operand s) next ∙ e (suc i) d (omega (arith, lt)))))

-- ---- where the method begins

module _ (by : Linked) (l : Named) (Here : NMemory → Frame → NFrame → Type 0) (results : Method → Option Sort)
    (narrowed : Method → Start NMethod) (may_throw : Shape (List ℕ) → Bool) (w : List Class) (r : Resolution)
    (f : Found) (code : NMethod) (m : Method) (whole : IsIntWhole by l may_throw w r f m) where
  first_locals_are : HasRoomToBegin f.body → kinds l (let e = entry f.body in e.locals)
      (let e = first_state f.body in e.locals) ≡ declared_kinds l f.body
      ++ replicate (f.body.max_locals - length (declared_kinds l f.body)) Free
  first_locals_are roomy =
      let b = f.body in
      let args = arguments b in
      let ranges = argument_ranges b in
      let room = roomy.room in
      let many = as_many b in
      let long = kinds_length l 0 args ranges in
      let count : b.max_locals - length args ≡ b.max_locals - length (kinds l args ranges) = omega (arith, long) in
      first_kinds l 0 b.max_locals b.max_locals args (take b.max_locals (ranges ++ replicate b.max_locals full)) room
      (omega arith)
      ∙ ap (λ ks. ks ++ replicate (b.max_locals - length args) Free) (kinds_same l 0 0 args (take b.max_locals (ranges
      ++ replicate b.max_locals full)) ranges (λ k. filled_up b.max_locals b.max_locals ranges (omega (
        arith,
        room,
        many,
      )) (0 + k)))
      ∙ ap (λ n. kinds l args ranges ++ replicate n Free) count

  pub first_known : HasRoomToBegin f.body → Knows (int_body l r f code) 0 [] (declared_kinds l f.body
      ++ replicate (f.body.max_locals - length (declared_kinds l f.body)) Free)
  first_known roomy =
      let sound = whole.sound in
      subst (λ ls. Knows (int_body l r f code) 0 [] ls) (first_locals_are roomy)
      (knows by l Here results narrowed may_throw w r f code m whole 0 [] _
      (comes_to l w r.constant f sound 0 (entry f.body) [] (first_state f.body) [] refl (inl refl) (All-nil IsWord)
      (own_first f.body).1.own (sound.types.first roomy.some) (sound.ranges.entry roomy.some)))

-- ---- as many parameters as one byte counts

params_few : (sorts : List Sort) → length sorts ≤ widths sorts
params_few [] = omega arith
params_few (sort ∷ sorts) = let h = params_few sorts in let one = width_some sort in omega (arith, h, one)
  where
    width_some : (sort : Sort) → 1 ≤ width sort
    width_some Boolean = omega arith
    width_some Byte = omega arith
    width_some Short = omega arith
    width_some Int = omega arith
    width_some (Reference shape) = omega arith
    width_some NoValue = omega arith

pub few_parameters : (by : Linked) (l : Named) (may_throw : Shape (List ℕ) → Bool) (w : List Class) (r : Resolution)
    (f : Found) (m : Method) → IsIntWhole by l may_throw w r f m → length (let n = int_frame f.body in n.params) ≤ 255
few_parameters by l may_throw w r f m whole = go (le_or (widths params))
  where
    params : List Sort
    params = let n = int_frame f.body in n.params

    le_or : (n : ℕ) → (n ≤ 255) ⊎ (255 < n)
    le_or n = by_test (nat_le n 255) refl
      where
        by_test : (b : Bool) → nat_le n 255 ≡ b → (n ≤ 255) ⊎ (255 < n)
        by_test true e = inl (grind (arith, nat_tests, e))
        by_test false e = inr (grind (arith, nat_tests, e))

    go : ((widths params ≤ 255) ⊎ (255 < widths params)) → length params ≤ 255
    go (inl h) = let few = params_few params in omega (arith, h, few)
    go (inr h) = absurd ((let s = whole.sound in s.room) (many_arguments h))
