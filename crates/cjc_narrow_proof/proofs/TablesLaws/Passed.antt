-- What a call passes to the parameters of its method.
use Rattle.std.proofs.Common.{◌≡◌, ◌||◌, ◌<◌, ◌+◌, ◌-◌, ℕ, suc, Bool, true, false, List, [], ◌∷◌, ◌++◌, map, length}
use Rattle.std.proofs.Common.{reverse, get_or, Option, Some, None, refl, sym, ap, subst, ◌∙◌, arith}
use Rattle.std.specs.List.{AllZip, AllByRecursion}
use Rattle.std.proofs.lemmas.Int.{ints}
use Rattle.std.proofs.lemmas.List.{reverse-append, reverse-reverse, length-reverse, get_or-reverse}
use Rattle.cjc_bytes.specs.Descriptor.{Part}
use Rattle.cjc_bytes.specs.declared.descriptor.Kind.{Kind as PartKind}
use Rattle.cjc_bytes.specs.declared.descriptor.Kind.TheVariants as part_kinds
use Rattle.cjc_range.specs.Span.{Span, Within, IsWord, short_range, byte_range}
use Rattle.cjc_range.proofs.Order.{within_refl, within_trans}
use Rattle.cjc_script.specs.Sorts.{Shape, Sort, Byte, Short, Reference, shape_named, sort_by, sort_of, reference_to}
use Rattle.cjc_script.specs.Sorts.{result_by}
use Rattle.cjc_world.specs.Classes.{Class}
use Rattle.cjc_types.specs.declared.cell.Cell.{Cell}
use Rattle.cjc_types.specs.declared.cell.Cell.TheVariants.{Number, Refs, Unusable}
use Rattle.cjc_types.specs.Rules.{is_value, is_value_of, is_number, is_of}
use Rattle.cjc_types.specs.Types.{value_of, cell_of, result_of}
use Rattle.cjc_types.specs.Steps as typed
use Rattle.cjc_ncode.specs.ByLabel.{Named}
use Rattle.cjc_intervals.specs.Values.{boolean_range, range_of, range_of_kind, result_ranges}
use Rattle.cjc_intervals.specs.Bounds.{IsBoundOf, a_short, a_byte, a_boolean}
use Rattle.cjc_intervals.specs.Steps.{operand}
use Rattle.cjc_narrow_proof.specs.Selection.Relation.{Kind, Range, Refers, Wider, more_numbers, more_types, AllWider}
use Rattle.cjc_narrow_proof.specs.Selection.Relation.{none_wider, one_wider}
use Rattle.cjc_narrow_proof.specs.Selection.Rows.{kind_of, is_word_sort}
use Rattle.cjc_narrow_proof.specs.Selection.Calls.{Passes, no_parameter, a_number, a_reference, is_number_sort}
use Rattle.cjc_narrow_proof.specs.Selection.Results.{AreShort}
use Rattle.cjc_narrow_proof.specs.Selection.Results as short
use Rattle.cjc_narrow_proof.specs.Selection.Replies.{is_of_some, result_kinds}
use Rattle.cjc_narrow_proof.specs.Tables.Kinds.{is_one_of, kind_of_cell, kinds_from, kinds}
use Rattle.cjc_narrow_proof.specs.Tables.Analysis.{TypesAreTold}
use Rattle.cjc_narrow_proof.specs.Tables.Calls.{is_word_result}
use Rattle.cjc_narrow_proof.proofs.TablesLaws.Values.{value_wider, given_wider}
use Rattle.cjc_narrow_proof.proofs.TablesLaws.Rows.{wider_through}

-- A cell that may be passed for a parameter: a number of 16 bits, or a reference.
pub data IsPassed (l : Named) : Part → Kind → Type 0 where
  number : {p : Part} {s : Span} → is_number_sort (sort_of p) ≡ true → Within s short_range
      → Wider (Range s) (kind_of l (sort_of p)) → IsPassed l p (Range s)
  reference : {p : Part} {within : Shape (List ℕ) → Bool} (kind : Shape (List ℕ)) → sort_of p ≡ Reference kind
      → Wider (Refers within) (kind_of l (sort_of p)) → IsPassed l p (Refers within)

pub boolean_short : Within boolean_range short_range
boolean_short = record { low = omega (arith, ints); high = omega (arith, ints) }

pub byte_short : Within byte_range short_range
byte_short = record { low = omega (arith, ints); high = omega (arith, ints) }

module _ (w : List Class) (l : Named) (types : TypesAreTold w l) where
  pub one_passed : (p : Part) (cell : Cell) (s : Span) → is_word_sort (sort_of p) ≡ true → is_value_of w p cell ≡ true
      → IsWord s → ((rule : ℕ) (t : Span) → IsBoundOf p rule t → Within s t) → IsPassed l p (kind_of_cell l cell s)
  one_passed p cell s word e own bounds = go p.kind refl word e
    where
      wider : Wider (kind_of_cell l cell s) (kind_of l (sort_of p))
      wider = value_wider w l types p cell s e own bounds

      of_number : (k : PartKind) → p.kind ≡ k → is_number_sort (sort_by k p.class) ≡ true → (c : Cell) → cell ≡ c
          → is_number c ≡ true → Within s short_range → IsPassed l p (kind_of_cell l c s)
      of_number k is sort Number same e small = number (ap (λ k. is_number_sort (sort_by k p.class)) is
          ∙ sort) small (subst (λ c. Wider (kind_of_cell l c s) (kind_of l (sort_of p))) same wider)
      of_number k is sort (Refs names) same e small = cc
      of_number k is sort Unusable same e small = cc

      of_reference : (o : Option (Shape (List ℕ))) → sort_of p ≡ reference_to o → is_word_sort (reference_to o) ≡ true
          → (c : Cell) → cell ≡ c → is_of w p.class c ≡ true → IsPassed l p (kind_of_cell l c s)
      of_reference None is word c same e = cc
      of_reference (Some shape) is word Number same e = cc
      of_reference (Some shape) is word (Refs names) same e =
          reference shape is (subst (λ c. Wider (kind_of_cell l c s) (kind_of l (sort_of p))) same wider)
      of_reference (Some shape) is word Unusable same e = cc

      go : (k : PartKind) → p.kind ≡ k → is_word_sort (sort_by k p.class) ≡ true → is_value w k p.class cell ≡ true
          → IsPassed l p (kind_of_cell l cell s)
      go part_kinds.Bool is word e = of_number part_kinds.Bool is refl cell refl e (within_trans s boolean_range
          short_range (bounds 609 boolean_range (a_boolean is)) boolean_short)
      go part_kinds.Byte is word e = of_number part_kinds.Byte is refl cell refl e (within_trans s byte_range
          short_range (bounds 608 byte_range (a_byte is)) byte_short)
      go part_kinds.Short is word e = of_number part_kinds.Short is refl cell refl e (bounds 607 short_range
          (a_short is))
      go part_kinds.Int is word e = cc
      go part_kinds.Other is word e = cc
      go part_kinds.Ref is word e = of_reference (shape_named p.class) (ap (λ k. sort_by k p.class) is) word cell refl e
      go part_kinds.Void is word e = cc

-- ---- all of them

module _ (l : Named) where
  -- the cells of a stack for the last parameter first
  pub all_passed : (ps : List Part) (d : Part) (cells : List Cell) (s : List Span) (k : ℕ) → length ps ≡ length cells
      → ((j : ℕ) → j < length ps → IsPassed l (get_or ps j d) (kind_of_cell l (typed.operand cells j)
      (operand s (k + j)))) → AllZip (IsPassed l) ps (kinds_from l k cells s)
  all_passed [] d [] s k long h = tt
  all_passed [] d (c ∷ cells) s k long h = cc
  all_passed (p ∷ ps) d [] s k long h = cc
  all_passed (p ∷ ps) d (c ∷ cells) s k long h =
      let here : k + 0 ≡ k = omega arith in (
        subst (λ n. IsPassed l p (kind_of_cell l c (operand s n))) here (h 0 (omega arith)),
        all_passed ps d cells s (suc k) (omega (arith, long)) (λ j lt. (let e : k + suc j ≡ suc k + j = omega arith
            in subst (λ n. IsPassed l (get_or ps j d) (kind_of_cell l (typed.operand cells j) (operand s n))) e
            (h (suc j) (omega (arith, lt))))),
      )

  one_more : (ps : List Part) (ks : List Kind) (p : Part) (k : Kind) → AllZip (IsPassed l) ps ks → IsPassed l p k
      → AllZip (IsPassed l) (ps ++ p ∷ []) (ks ++ k ∷ [])
  one_more [] [] p k h e = (e, tt)
  one_more [] (j ∷ ks) p k h e = absurd h
  one_more (q ∷ ps) [] p k h e = absurd h
  one_more (q ∷ ps) (j ∷ ks) p k h e = (h.0, one_more ps ks p k h.1 e)

  turned : (ps : List Part) (ks : List Kind) → AllZip (IsPassed l) ps ks → AllZip (IsPassed l) (reverse ps) (reverse ks)
  turned [] [] h = tt
  turned [] (k ∷ ks) h = absurd h
  turned (p ∷ ps) [] h = absurd h
  turned (p ∷ ps) (k ∷ ks) h =
      subst (λ xs. AllZip (IsPassed l) xs (reverse (k ∷ ks))) (sym (reverse-append (p ∷ []) ps))
      (subst (λ ys. AllZip (IsPassed l) (reverse ps ++ p ∷ []) ys) (sym (reverse-append (k ∷ []) ks))
      (one_more (reverse ps) (reverse ks) p k (turned ps ks h.1) h.0))

  -- by the parameter that each is for
  pub passed_for : (ps : List Part) (d : Part) (cells : List Cell) (s : List Span) → length ps ≡ length cells
      → ((k : ℕ) → k < length ps → IsPassed l (get_or ps (length ps - 1 - k) d) (kind_of_cell l (typed.operand cells k)
      (operand s k))) → AllZip (IsPassed l) ps (reverse (kinds l cells s))
  passed_for ps d cells s long h =
      let size = length-reverse ps in
      subst (λ qs. AllZip (IsPassed l) qs (reverse (kinds l cells s))) (reverse-reverse ps)
      (turned (reverse ps) (kinds l cells s) (all_passed (reverse ps) d cells s 0 (omega (arith, size, long)) (λ j lt.
      (let low : j < length ps = omega (arith, lt, size) in
      let here : j ≡ 0 + j = omega arith in
      subst (λ q. IsPassed l q (kind_of_cell l (typed.operand cells j) (operand s (0 + j))))
      (sym (get_or-reverse ps j d low)) (subst (λ n. IsPassed l (get_or ps (length ps - 1 - j) d)
      (kind_of_cell l (typed.operand cells j) (operand s n))) here (h j low))))))

  -- ---- what follows

  pub passes_from : (ps : List Part) (ks : List Kind) → AllZip (IsPassed l) ps ks → Passes (map sort_of ps) ks
  passes_from [] [] h = no_parameter
  passes_from [] (k ∷ ks) h = absurd h
  passes_from (p ∷ ps) [] h = absurd h
  passes_from (p ∷ ps) (k ∷ ks) h = go h.0 (passes_from ps ks h.1)
    where
      go : {k : Kind} → IsPassed l p k → Passes (map sort_of ps) ks → Passes (map sort_of (p ∷ ps)) (k ∷ ks)
      go (number sort small wider) more = a_number sort more
      go (reference {within = within} kind is wider) more = subst (λ sort. Passes (sort ∷ map sort_of ps) (Refers within
          ∷ ks)) (sym is) (a_reference more)

  pub short_from : (ps : List Part) (ks : List Kind) → AllZip (IsPassed l) ps ks → AreShort ks
  short_from [] [] h = short.no_cell
  short_from [] (k ∷ ks) h = absurd h
  short_from (p ∷ ps) [] h = absurd h
  short_from (p ∷ ps) (k ∷ ks) h = go h.0 (short_from ps ks h.1)
    where
      go : {k : Kind} → IsPassed l p k → AreShort ks → AreShort (k ∷ ks)
      go (number sort small wider) more = short.a_number small more
      go (reference kind is wider) more = short.a_reference more

  pub long_from : (ps : List Part) (ks : List Kind) → AllZip (IsPassed l) ps ks → length ks ≡ length ps
  long_from [] [] h = refl
  long_from [] (k ∷ ks) h = absurd h
  long_from (p ∷ ps) [] h = absurd h
  long_from (p ∷ ps) (k ∷ ks) h = ap suc (long_from ps ks h.1)

  -- the kind of a parameter where its method begins
  declared_wider : (p : Part) → is_word_sort (sort_of p) ≡ true
      → Wider (kind_of l (sort_of p)) (kind_of_cell l (value_of p) (range_of p))
  declared_wider p word = go p.kind word
    where
      go : (k : PartKind) → is_word_sort (sort_by k p.class) ≡ true
          → Wider (kind_of l (sort_by k p.class)) (kind_of_cell l (cell_of k p.class) (range_of_kind k))
      go part_kinds.Bool word = more_numbers (within_refl boolean_range)
      go part_kinds.Byte word = more_numbers (within_refl byte_range)
      go part_kinds.Short word = more_numbers (within_refl short_range)
      go part_kinds.Int word = cc
      go part_kinds.Other word = cc
      go part_kinds.Void word = cc
      go part_kinds.Ref word = by_shape (shape_named p.class) refl word
        where
          by_shape : (o : Option (Shape (List ℕ))) → shape_named p.class ≡ o → is_word_sort (reference_to o) ≡ true
              → Wider (kind_of l (reference_to o)) (Refers (is_one_of l (p.class ∷ [])))
          by_shape None named word = cc
          by_shape (Some shape) named word = more_types (λ kind is. ap (λ o. is_of_some l kind o || false) named
              ∙ ap (λ b. b || false) is)

  -- each is known as its parameter is where the method begins
  pub begins_wider : (ps : List Part) (ks : List Kind) (s : List Span) (k : ℕ)
      → AllByRecursion (λ p. is_word_sort (sort_of p) ≡ true) ps → AllZip (IsPassed l) ps ks
      → ((j : ℕ) (d : Part) → j < length ps → operand s (k + j) ≡ range_of (get_or ps j d))
      → AllWider ks (kinds_from l k (map value_of ps) s)
  begins_wider [] [] s k words h e = none_wider
  begins_wider [] (j ∷ ks) s k words h e = absurd h
  begins_wider (p ∷ ps) [] s k words h e = absurd h
  begins_wider (p ∷ ps) (j ∷ ks) s k words h e =
      let here : k + 0 ≡ k = omega arith in
      let number_here : operand s k ≡ range_of p = ap (operand s) (sym here) ∙ e 0 p (omega arith) in
      one_wider (wider_through (passed_wider h.0)
      (subst (λ t. Wider (kind_of l (sort_of p)) (kind_of_cell l (value_of p) t)) (sym number_here)
      (declared_wider p words.0)))
      (begins_wider ps ks s (suc k) words.1 h.1 (λ i d lt. (let next : suc k + i ≡ k + suc i = omega arith
      in ap (operand s) next ∙ e (suc i) d (omega (arith, lt)))))
    where
      passed_wider : {k : Kind} → IsPassed l p k → Wider k (kind_of l (sort_of p))
      passed_wider (number sort small wider) = wider
      passed_wider (reference kind is wider) = wider

-- ---- results

-- what a call gives is known as its descriptor says
pub result_given : (l : Named) (p : Part) (rest : List Span) → is_word_result p.kind (sort_of p) ≡ true
    → AllWider (result_kinds l (result_by p.kind p)) (kinds l (result_of p) (result_ranges p ++ rest))
result_given l p rest word = go p.kind refl word
  where
    some : (k : PartKind) → p.kind ≡ k → is_word_sort (sort_of p) ≡ true → result_kinds l (result_by k p)
        ≡ kind_of l (sort_of p) ∷ [] → AllWider (result_kinds l (result_by p.kind p)) (kinds l (result_of p)
        (result_ranges p ++ rest))
    some k is word one = subst (λ ks. AllWider ks (kinds l (result_of p) (result_ranges p ++ rest)))
        (sym (ap (λ k. result_kinds l (result_by k p)) is ∙ one)) (given_wider l p rest word)

    none : p.kind ≡ part_kinds.Void → AllWider (result_kinds l (result_by p.kind p)) (kinds l (result_of p)
        (result_ranges p ++ rest))
    none is = subst (λ k. AllWider (result_kinds l (result_by k p)) (kinds l (result_of (record p { kind = k }))
        (result_ranges (record p { kind = k }) ++ rest))) (sym is) none_wider

    go : (k : PartKind) → p.kind ≡ k → is_word_result k (sort_of p) ≡ true
        → AllWider (result_kinds l (result_by p.kind p)) (kinds l (result_of p) (result_ranges p ++ rest))
    go part_kinds.Bool is word = some part_kinds.Bool is word refl
    go part_kinds.Byte is word = some part_kinds.Byte is word refl
    go part_kinds.Short is word = some part_kinds.Short is word refl
    go part_kinds.Int is word = some part_kinds.Int is word refl
    go part_kinds.Other is word = some part_kinds.Other is word refl
    go part_kinds.Ref is word = some part_kinds.Ref is word refl
    go part_kinds.Void is word = none is

-- and its sort is one word
pub word_result : (p : Part) → is_word_result p.kind (sort_of p) ≡ true → (sort : Sort) → result_by p.kind p ≡ Some sort
    → is_word_sort sort ≡ true
word_result p word sort e = go p.kind word e
  where
    some : is_word_sort (sort_of p) ≡ true → Some (sort_of p) ≡ Some sort → is_word_sort sort ≡ true
    some word e = let same : sort_of p ≡ sort = cc in ap is_word_sort (sym same) ∙ word

    go : (k : PartKind) → is_word_result k (sort_of p) ≡ true → result_by k p ≡ Some sort → is_word_sort sort ≡ true
    go part_kinds.Bool word e = some word e
    go part_kinds.Byte word e = some word e
    go part_kinds.Short word e = some word e
    go part_kinds.Int word e = some word e
    go part_kinds.Other word e = some word e
    go part_kinds.Ref word e = some word e
    go part_kinds.Void word e = cc
