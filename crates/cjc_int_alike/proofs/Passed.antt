-- Arguments of a call in code in int mode are of the types of its parameters, and its result is known as its type says.
use Rattle.std.proofs.Common.{◌≡◌, ◌⊎◌, inl, inr, ◌<◌, ◌+◌, ◌-◌, ℕ, suc, Bool, true, List, [], ◌∷◌, ◌++◌}
use Rattle.std.proofs.Common.{map, length, reverse, get_or, refl, sym, ap, subst, ◌∙◌, arith}
use Rattle.std.specs.List.{AllZip}
use Rattle.std.proofs.lemmas.List.{reverse-append, reverse-reverse, length-reverse, get_or-reverse}
use Rattle.cjc_bytes.specs.Descriptor.{Part}
use Rattle.cjc_bytes.specs.declared.descriptor.Kind.{Kind as PartKind}
use Rattle.cjc_bytes.specs.declared.descriptor.Kind.TheVariants as part_kinds
use Rattle.cjc_range.specs.Span.{Span, Within, IsWord}
use Rattle.cjc_script.specs.Sorts.{Shape, Sort, Boolean, Byte, Short, Int, Reference, NoValue, sort_of, result_by}
use Rattle.cjc_world.specs.Classes.{Class}
use Rattle.cjc_types.specs.declared.cell.Cell.{Cell}
use Rattle.cjc_types.specs.declared.cell.Cell.TheVariants.{Number, Refs, Unusable}
use Rattle.cjc_types.specs.Rules.{is_number, is_value, is_value_of}
use Rattle.cjc_types.specs.Steps as typed
use Rattle.cjc_types.specs.Types.{result_of}
use Rattle.cjc_intervals.specs.Bounds.{IsBoundOf}
use Rattle.cjc_intervals.specs.Steps.{operand}
use Rattle.cjc_intervals.specs.Values.{result_ranges}
use Rattle.cjc_ncode.specs.ByLabel.{Named}
use Rattle.cjc_ncode.specs.IntCode.IntCode.{is_short}
use Rattle.cjc_narrow_proof.specs.Selection.Calls.{is_number_sort}
use Rattle.cjc_narrow_proof.specs.Selection.Relation.{Kind, Range, Refers, Wider, more_numbers, more_types, AllWider}
use Rattle.cjc_narrow_proof.specs.Selection.Relation.{none_wider}
use Rattle.cjc_narrow_proof.specs.Selection.Replies.{result_kinds}
use Rattle.cjc_narrow_proof.specs.Selection.Rows.{kind_of, is_word_sort}
use Rattle.cjc_narrow_proof.specs.Tables.Analysis.{TypesAreTold}
use Rattle.cjc_narrow_proof.specs.Tables.Kinds.{kind_of_cell, kinds_from, kinds}
use Rattle.cjc_narrow_proof.proofs.TablesLaws.Passed.{IsPassed, number, reference, one_passed}
use Rattle.cjc_int_runs.specs.Calls.{PassesInt, none_passed, a_word_passed, an_int_passed, a_reference_passed}
use Rattle.cjc_int_runs.specs.Fields.{has_values}
use Rattle.cjc_int_runs.specs.Relation.{type_range}
use Rattle.cjc_int_alike.specs.Calls.{is_some_result, IsPassedInt, a_word, an_int, a_reference}
use Rattle.cjc_int_alike.proofs.Resolved.{words_or_int, kind_is_int, given_as_typed}

-- ---- one argument

module _ (l : Named) where
  in_range : {u : Span} (sort : Sort) → is_number_sort sort ≡ true → Wider (Range u) (kind_of l sort)
      → (is_short sort ≡ true) × Within u (type_range sort)
  in_range Boolean e (more_numbers h) = (refl, h)
  in_range Byte e (more_numbers h) = (refl, h)
  in_range Short e (more_numbers h) = (refl, h)
  in_range Int e h = cc
  in_range (Reference shape) e h = cc
  in_range NoValue e h = cc

  of_shape : {within : Shape (List ℕ) → Bool} (shape : Shape (List ℕ)) → Wider (Refers within)
      (Refers (λ of. l.is_of of shape)) → (of : Shape (List ℕ)) → within of ≡ true → l.is_of of shape ≡ true
  of_shape shape (more_types h) of e = h of e

  -- what is passed as one word is given
  pub given_word : (p : Part) {k : Kind} → IsPassed l p k → IsPassedInt l p k
  given_word p (number numeric small wider) = let h = in_range (sort_of p) numeric wider in a_word h.0 h.1
  given_word p (reference {within = within} shape is wider) = a_reference shape is (of_shape shape
      (subst (λ sort. Wider (Refers within) (kind_of l sort)) is wider))

module _ (w : List Class) (l : Named) (types : TypesAreTold w l) where
  pub one_passed_int : (p : Part) (cell : Cell) (s : Span) → has_values (sort_of p) ≡ true
      → is_value_of w p cell ≡ true → IsWord s → ((rule : ℕ) (u : Span) → IsBoundOf p rule u → Within s u)
      → IsPassedInt l p (kind_of_cell l cell s)
  one_passed_int p cell s some e own bounds = go (words_or_int (sort_of p) some)
    where
      of_number : (c : Cell) → sort_of p ≡ Int → is_number c ≡ true → IsPassedInt l p (kind_of_cell l c s)
      of_number Number is e = an_int is own.within
      of_number (Refs names) is e = cc
      of_number Unusable is e = cc

      go : ((is_word_sort (sort_of p) ≡ true) ⊎ (sort_of p ≡ Int)) → IsPassedInt l p (kind_of_cell l cell s)
      go (inl word) = given_word l p (one_passed w l types p cell s word e own bounds)
      go (inr is) = of_number cell is (subst (λ k. is_value w k p.class cell ≡ true) (kind_is_int p is) e)

-- ---- all of them

module _ (l : Named) where
  -- the cells of a stack for the last parameter first
  all_passed : (ps : List Part) (d : Part) (cells : List Cell) (s : List Span) (k : ℕ) → length ps ≡ length cells
      → ((j : ℕ) → j < length ps → IsPassedInt l (get_or ps j d) (kind_of_cell l (typed.operand cells j)
      (operand s (k + j)))) → AllZip (IsPassedInt l) ps (kinds_from l k cells s)
  all_passed [] d [] s k long h = tt
  all_passed [] d (c ∷ cells) s k long h = cc
  all_passed (p ∷ ps) d [] s k long h = cc
  all_passed (p ∷ ps) d (c ∷ cells) s k long h =
      let here : k + 0 ≡ k = omega arith in (
        subst (λ n. IsPassedInt l p (kind_of_cell l c (operand s n))) here (h 0 (omega arith)),
        all_passed ps d cells s (suc k) (omega (arith, long)) (λ j lt. (let e : k + suc j ≡ suc k + j = omega arith
            in subst (λ n. IsPassedInt l (get_or ps j d) (kind_of_cell l (typed.operand cells j) (operand s n))) e
            (h (suc j) (omega (arith, lt))))),
      )

  one_more : (ps : List Part) (ks : List Kind) (p : Part) (k : Kind) → AllZip (IsPassedInt l) ps ks
      → IsPassedInt l p k → AllZip (IsPassedInt l) (ps ++ p ∷ []) (ks ++ k ∷ [])
  one_more [] [] p k h e = (e, tt)
  one_more [] (j ∷ ks) p k h e = absurd h
  one_more (q ∷ ps) [] p k h e = absurd h
  one_more (q ∷ ps) (j ∷ ks) p k h e = (h.0, one_more ps ks p k h.1 e)

  turned : (ps : List Part) (ks : List Kind) → AllZip (IsPassedInt l) ps ks
      → AllZip (IsPassedInt l) (reverse ps) (reverse ks)
  turned [] [] h = tt
  turned [] (k ∷ ks) h = absurd h
  turned (p ∷ ps) [] h = absurd h
  turned (p ∷ ps) (k ∷ ks) h =
      subst (λ xs. AllZip (IsPassedInt l) xs (reverse (k ∷ ks))) (sym (reverse-append (p ∷ []) ps))
      (subst (λ ys. AllZip (IsPassedInt l) (reverse ps ++ p ∷ []) ys) (sym (reverse-append (k ∷ []) ks))
      (one_more (reverse ps) (reverse ks) p k (turned ps ks h.1) h.0))

  -- by the parameter that each is for
  pub passed_for : (ps : List Part) (d : Part) (cells : List Cell) (s : List Span) → length ps ≡ length cells
      → ((k : ℕ) → k < length ps → IsPassedInt l (get_or ps (length ps - 1 - k) d)
      (kind_of_cell l (typed.operand cells k) (operand s k)))
      → AllZip (IsPassedInt l) ps (reverse (kinds l cells s))
  passed_for ps d cells s long h =
      let size = length-reverse ps in
      subst (λ qs. AllZip (IsPassedInt l) qs (reverse (kinds l cells s))) (reverse-reverse ps)
      (turned (reverse ps) (kinds l cells s) (all_passed (reverse ps) d cells s 0 (omega (arith, size, long)) (λ j lt.
      (let low : j < length ps = omega (arith, lt, size) in
      let here : j ≡ 0 + j = omega arith in
      subst (λ q. IsPassedInt l q (kind_of_cell l (typed.operand cells j) (operand s (0 + j))))
      (sym (get_or-reverse ps j d low)) (subst (λ n. IsPassedInt l (get_or ps (length ps - 1 - j) d)
      (kind_of_cell l (typed.operand cells j) (operand s n))) here (h j low))))))

  -- ---- what follows

  pub passes_from : (ps : List Part) (ks : List Kind) → AllZip (IsPassedInt l) ps ks → PassesInt (map sort_of ps) ks
  passes_from [] [] h = none_passed
  passes_from [] (k ∷ ks) h = absurd h
  passes_from (p ∷ ps) [] h = absurd h
  passes_from (p ∷ ps) (k ∷ ks) h = go h.0 (passes_from ps ks h.1)
    where
      go : {k : Kind} → IsPassedInt l p k → PassesInt (map sort_of ps) ks → PassesInt (map sort_of (p ∷ ps)) (k ∷ ks)
      go (a_word short inside) more = a_word_passed short inside more
      go (an_int {s = s} is inside) more = subst (λ sort. PassesInt (sort ∷ map sort_of ps) (Range s ∷ ks)) (sym is)
          (an_int_passed more)
      go (a_reference {within = within} shape is of) more = subst (λ sort. PassesInt (sort ∷ map sort_of ps)
          (Refers within ∷ ks)) (sym is) (a_reference_passed more)

  pub long_from : (ps : List Part) (ks : List Kind) → AllZip (IsPassedInt l) ps ks → length ks ≡ length ps
  long_from [] [] h = refl
  long_from [] (k ∷ ks) h = absurd h
  long_from (p ∷ ps) [] h = absurd h
  long_from (p ∷ ps) (k ∷ ks) h = ap suc (long_from ps ks h.1)

-- ---- results

-- what a call gives is known as its descriptor says
pub result_given : (l : Named) (p : Part) (rest : List Span) → is_some_result p.kind (sort_of p) ≡ true
    → AllWider (result_kinds l (result_by p.kind p)) (kinds l (result_of p) (result_ranges p ++ rest))
result_given l p rest some = go p.kind refl some
  where
    a_result : (k : PartKind) → p.kind ≡ k → has_values (sort_of p) ≡ true → result_kinds l (result_by k p)
        ≡ kind_of l (sort_of p) ∷ [] → AllWider (result_kinds l (result_by p.kind p)) (kinds l (result_of p)
        (result_ranges p ++ rest))
    a_result k is has one = subst (λ ks. AllWider ks (kinds l (result_of p) (result_ranges p ++ rest)))
        (sym (ap (λ k. result_kinds l (result_by k p)) is ∙ one)) (given_as_typed l p rest has)

    none : p.kind ≡ part_kinds.Void → AllWider (result_kinds l (result_by p.kind p)) (kinds l (result_of p)
        (result_ranges p ++ rest))
    none is = subst (λ k. AllWider (result_kinds l (result_by k p)) (kinds l (result_of (record p { kind = k }))
        (result_ranges (record p { kind = k }) ++ rest))) (sym is) none_wider

    go : (k : PartKind) → p.kind ≡ k → is_some_result k (sort_of p) ≡ true
        → AllWider (result_kinds l (result_by p.kind p)) (kinds l (result_of p) (result_ranges p ++ rest))
    go part_kinds.Bool is some = a_result part_kinds.Bool is some refl
    go part_kinds.Byte is some = a_result part_kinds.Byte is some refl
    go part_kinds.Short is some = a_result part_kinds.Short is some refl
    go part_kinds.Int is some = a_result part_kinds.Int is some refl
    go part_kinds.Other is some = a_result part_kinds.Other is some refl
    go part_kinds.Ref is some = a_result part_kinds.Ref is some refl
    go part_kinds.Void is some = none is
