-- An index and its low word find the same item of an array, or are outside of it.
use Rattle.std.proofs.Common.{◌≡◌, ℕ, zero, suc, ◌≤◌, refl, sym, ap, subst, ◌∙◌, arith, List, [], ◌∷◌, length, All}
use Rattle.std.proofs.Common.{ℤ, pos, negsuc}
use Rattle.std.specs.Prelude.{Option, Some, None, slice_get, slice_set}
use Rattle.std.proofs.lemmas.Int.{ints}
use Rattle.cjc_range.specs.Words.{low_word, IsInside}
use Rattle.cjc_range.proofs.WordsLaws.Words.{low_word_same, index-low_word}
use Rattle.cjc_range.specs.Span.{Holds}
use Rattle.cjc_script.specs.declared.value.Value.{Value}
use Rattle.cjc_card_semantics.specs.Bytecode.Calculations
use Rattle.cjc_card_semantics.specs.Bytecode.Effects as narrow
use Rattle.cjc_card_semantics.specs.Bytecode.Renaming.{option_as}
use Rattle.cjc_jvm_semantics.specs.Effects as by_name
use Rattle.cjc_narrow_proof.specs.Selection.Rows.{NEffect}
use Rattle.cjc_narrow_proof.specs.Selection.Elements.{index_range}
use Rattle.cjc_bytes.proofs.Gets.{get_below, get_inside}

-- ---- items

-- and of all with another one of which it holds
pub all_with : {A : Type 0} (P : A → Type 0) (xs : List A) (n : ℕ) (y : A) → P y → All P xs → All P (slice_set xs n y)
all_with P [] n y p all k d low = absurd (omega arith)
all_with P (x ∷ xs) zero y p all zero d low = p
all_with P (x ∷ xs) zero y p all (suc k) d low = all (suc k) d (omega arith)
all_with P (x ∷ xs) (suc n) y p all zero d low = all zero d (omega arith)
all_with P (x ∷ xs) (suc n) y p all (suc k) d low = all_with P xs n y p (λ k d low. all (suc k) d (omega arith)) k d
    (omega arith)

-- ---- indices

-- nothing is there
data Out {A : Type 0} (xs : List A) : ℤ → Type 0 where
  behind : {n : ℕ} → slice_get xs n ≡ None → Out xs (pos n)
  below : {n : ℕ} → Out xs (negsuc n)

out_if : {A : Type 0} (xs : List A) (z : ℤ) → (IsInside (length xs) z → ⊥) → Out xs z
out_if xs (pos n) h = by (slice_get xs n) refl
  where
    by : (o : Option _) → slice_get xs n ≡ o → Out xs (pos n)
    by None e = behind e
    by (Some x) e = absurd (h (get_below xs n x e))
out_if xs (negsuc n) h = below

-- an index and its low word
data Index {A : Type 0} (xs : List A) : ℤ → ℤ → Type 0 where
  inside : (n : ℕ) (x : A) → slice_get xs n ≡ Some x → Index xs (pos n) (pos n)
  outside : {i j : ℤ} → Out xs i → Out xs j → Index xs i j

indexed : {A : Type 0} (xs : List A) → length xs ≤ 32767 → (i : ℤ) → Holds index_range i → Index xs i (low_word i)
indexed xs few (negsuc n) h =
    outside below (out_if xs (low_word (negsuc n)) (λ is. (index-low_word (length xs) (negsuc n) few h.above h.below).0
    is))
indexed xs few (pos n) h = by (slice_get xs n) refl
  where
    by : (o : Option _) → slice_get xs n ≡ o → Index xs (pos n) (low_word (pos n))
    by (Some x) e = let low = get_below xs n x e
        in subst (Index xs (pos n)) (sym (low_word_same (pos n) (omega (arith, ints)) (omega (arith, ints, few, low))))
        (inside n x e)
    by None e = outside (behind e) (out_if xs (low_word (pos n)) (λ is. let there = get_inside xs n
        ((index-low_word (length xs) (pos n) few h.above h.below).0 is) in let f = there.1 in cc))

-- The same item is found on both sides, or both raise.
module _ {A : Type 0} (Meets : by_name.Effect → NEffect → Type 0) (f : A → Value) (named : List Value) (items : List A)
    (same : (n : ℕ) → slice_get named n ≡ option_as f (slice_get items n)) (go : ℕ → Value → by_name.Effect) (go' : ℕ
    → A → NEffect) where
  named_outside : (i : ℤ) → Out items i → by_name.item_at named i go ≡ by_name.Raise by_name.IndexOutside
  named_outside _ (behind {n = n} e) = ap (λ o. by_name.item_if o (go n)) (same n ∙ ap (option_as f) e)
  named_outside _ below = refl

  narrow_outside : (i : ℤ) → Out items i → narrow.item_at (narrow.Raise Calculations.IndexOutside) items i go'
      ≡ narrow.Raise Calculations.IndexOutside
  narrow_outside _ (behind {n = n} e) = ap (λ o. narrow.with_some (narrow.Raise Calculations.IndexOutside) o (go' n)) e
  narrow_outside _ below = refl

  by_index : Meets (by_name.Raise by_name.IndexOutside) (narrow.Raise Calculations.IndexOutside)
      → ((n : ℕ) (x : A) → slice_get items n ≡ Some x → Meets (go n (f x)) (go' n x)) → (i j : ℤ) → Index items i j
      → Meets (by_name.item_at named i go) (narrow.item_at (narrow.Raise Calculations.IndexOutside) items j go')
  by_index raises meets _ _ (inside n x e) =
      subst (λ o. Meets (by_name.item_if o (go n)) (narrow.with_some (narrow.Raise Calculations.IndexOutside)
      (slice_get items n) (go' n))) (sym (same n ∙ ap (option_as f) e))
      (subst (λ o. Meets (go n (f x)) (narrow.with_some (narrow.Raise Calculations.IndexOutside) o (go' n))) (sym e)
      (meets n x e))
  by_index raises meets i j (outside a b) =
      subst (λ e. Meets e (narrow.item_at (narrow.Raise Calculations.IndexOutside) items j go'))
      (sym (named_outside i a))
      (subst (Meets (by_name.Raise by_name.IndexOutside)) (sym (narrow_outside j b)) raises)

  pub item_both : (i : ℤ) → length items ≤ 32767 → Holds index_range i
      → Meets (by_name.Raise by_name.IndexOutside) (narrow.Raise Calculations.IndexOutside)
      → ((n : ℕ) (x : A) → slice_get items n ≡ Some x → Meets (go n (f x)) (go' n x))
      → Meets (by_name.item_at named i go) (narrow.item_at (narrow.Raise Calculations.IndexOutside) items (low_word i)
      go')
  item_both i few h raises meets = by_index raises meets i (low_word i) (indexed items few i h)
