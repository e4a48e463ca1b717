-- The place of an instruction by its offset, and what a binary search finds.
use Rattle.std.proofs.Common.{◌≡◌, ℕ, Bool, true, false, cond, nat_lt, ◌<◌, ◌≤◌, ◌==◌, List, length, slice_get, get_or}
use Rattle.std.proofs.Common.{position, Option, Some, None, Result, Ok, Err, sym, ◌∙◌, ap, refl, inl, inr, arith}
use Rattle.std.specs.List.{position_or_len}
use Rattle.std.specs.List.Sorted.{IsSearchInRange, IsBinarySearchResult, IsNonDecreasingBy}
use Rattle.std.specs.Ordering.{nat_cmp, ordering_index}
use Rattle.std.proofs.lemmas.Cmp.{ranked}
use Rattle.std.proofs.lemmas.Bool.{eq-eqb, eqb-true, ne_eqb, cases_lt, ltb-false}
use Rattle.std.proofs.lemmas.Bool.Decides.{nat_tests}
use Rattle.std.proofs.lemmas.List.Sorted.{IsNonDecreasingBy-from_default}
use Rattle.std.proofs.lemmas.List.Sums.{position_or_len_is}
use Rattle.std.proofs.lemmas.List.Quantifiers.{position-Some}
use Rattle.std.proofs.lemmas.Option.{slice_get_within, slice_get-get_or, get_or_from_slice_get}
use Rattle.cjc_code.specs.declared.insn.JInsn.{JInsn}
use Rattle.cjc_code.specs.declared.insn.JOp.TheVariants as jop
use Rattle.cjc_types.specs.Flow.{place_at}
use Rattle.cjc_types.specs.Index.{AreInOrder}

pub own_place : (insns : List JInsn) → AreInOrder insns → (k : ℕ) (i : JInsn) → slice_get insns k ≡ Some i
    → place_at insns i.at ≡ Some k
own_place insns up k i e = within (position_or_len_is (λ (x : JInsn). x.at == i.at) insns k i (omega (arith, inside))
    earlier here)
  where
    inside : k < length insns
    inside = slice_get_within insns k i e

    earlier : (j : ℕ) → j < k → ((get_or insns j i).at == i.at) ≡ false
    earlier j lt =
        let less = up j k (get_or insns j i) i (slice_get-get_or insns j i (omega (arith, lt, inside))) e lt in
        ne_eqb _ _ (λ same. omega (arith, less, same))

    here : k < length insns → ((get_or insns k i).at == i.at) ≡ true
    here lt = eq-eqb _ _ (ap (λ (x : JInsn). x.at) (get_or_from_slice_get insns k i i e))

    within : position_or_len (λ (x : JInsn). x.at == i.at) insns ≡ k → position (λ (x : JInsn). x.at == i.at) insns
        ≡ Some k
    within is = ap (λ n. cond (nat_lt n (length insns)) (Some n) None) is ∙ go (nat_lt k (length insns)) refl
      where
        go : (b : Bool) → nat_lt k (length insns) ≡ b → cond b (Some k) None ≡ Some k
        go true f = refl
        go false f = let le = ltb-false k (length insns) f in absurd (omega (arith, le, inside))

-- ---- a search

abbrev no_insn : JInsn
no_insn = record { at = 0; op = jop.Nop }

abbrev offset_at : List JInsn → ℕ → ℕ
offset_at insns k = (get_or insns k no_insn).at

module _ (insns : List JInsn) (order : AreInOrder insns) (offset : ℕ) where
  rises : (i j : ℕ) → i < j → j < length insns → offset_at insns i < offset_at insns j
  rises i j less lt = order i j (get_or insns i no_insn) (get_or insns j no_insn) (slice_get-get_or insns i no_insn
      (omega (arith, less, lt))) (slice_get-get_or insns j no_insn lt) less

  comparisons_rise : IsNonDecreasingBy (λ (i : JInsn). ordering_index (nat_cmp i.at offset)) insns
  comparisons_rise = IsNonDecreasingBy-from_default (λ (i : JInsn). ordering_index (nat_cmp i.at offset)) insns no_insn
      (λ i j le lt.
      let up : offset_at insns i ≤ offset_at insns j = grind (
        arith,
        rises i j,
        λ (same : i ≡ j). ap (offset_at insns)
            same,
      ) in
      grind (arith, nat_tests))

  -- no instruction stands at an offset between two of them
  none_there : ((k : ℕ) → k < length insns → offset_at insns k ≡ offset → ⊥) → place_at insns offset ≡ None
  none_there none = go (place_at insns offset) refl
    where
      go : (o : Option ℕ) → place_at insns offset ≡ o → o ≡ None
      go None e = refl
      go (Some p) e =
          let at = position-Some (λ (i : JInsn). i.at == offset) insns p no_insn e in
          absurd (none p at.0 (eqb-true (get_or insns p no_insn).at offset at.1))

  pub found_place : (k : ℕ) (r : Result ℕ ℕ) → IsSearchInRange r (length insns)
      → IsBinarySearchResult (λ (i : JInsn). nat_cmp i.at offset) insns r → r ≡ Ok k → (k < length insns)
      × (place_at insns offset ≡ Some k)
  found_place k (Ok p) inside at e =
      let same : p ≡ k = cc in
      let lt : k < length insns = rw (sym same) inside in
      let is : (get_or insns k no_insn).at ≡ offset = ap (λ (n : ℕ). (get_or insns n no_insn).at) (sym same)
      ∙ ranked _ offset _ (sym (at no_insn)) in (
        lt,
        ap (place_at insns) (sym is) ∙ own_place insns order k (get_or insns k no_insn) (slice_get-get_or insns k
            no_insn lt),
      )
  found_place k (Err p) inside at e = absurd cc

  pub missing_place : (k : ℕ) (r : Result ℕ ℕ) → IsSearchInRange r (length insns)
      → IsBinarySearchResult (λ (i : JInsn). nat_cmp i.at offset) insns r → r ≡ Err k → place_at insns offset ≡ None
  missing_place k (Ok p) inside at e = absurd cc
  missing_place k (Err p) inside parted e = none_there (λ i lt is. elim (cases_lt i p) [
    | inl less ↦ let low : (get_or insns i no_insn).at < offset =
        ranked _ offset _ (sym ((parted comparisons_rise).0 i no_insn (omega arith) less)) in omega (arith, low, is)
    | inr past ↦ let high : offset < (get_or insns i no_insn).at =
        ranked _ offset _ (sym ((parted comparisons_rise).1 i no_insn past lt)) in omega (arith, high, is)
  ])
