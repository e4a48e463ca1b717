-- The guard of an index: one word of the two of an index, by which an array is found to have the same item or none.
use Rattle.std.proofs.Common.{◌≡◌, ℕ, suc, ◌+◌, ◌≤◌, List, ◌∷◌, [], ◌++◌, length, refl, sym, ap}
use Rattle.std.proofs.Common.{◌∙◌, arith}
use Rattle.std.proofs.Common.{Bool, true, false, ℤ, pos, negsuc, ◌≤ℤ◌, ⊎_elim}
use Rattle.std.specs.Prelude.{Option, Some, slice_get, nat_le, int_le, ◌&&◌, take}
use Rattle.std.proofs.lemmas.Bool.Decides.{nat_tests}
use Rattle.std.proofs.lemmas.Bool.{cases_lt}
use Rattle.std.proofs.lemmas.Int.{ints}
use Rattle.std.proofs.lemmas.Option.{slice_get_past}
use Rattle.cjc_range.specs.Words.{low_word}
use Rattle.cjc_range.specs.Span.{Holds}
use Rattle.cjc_range.proofs.WordsLaws.Words.{low_word_same, low_word_ends}
use Rattle.cjc_script.specs.declared.value.Value.{Value}
use Rattle.cjc_script.specs.declared.value.Value.TheVariants.{Num}
use Rattle.cjc_card_semantics.specs.Bytecode.Calculations.{Fine, int_words}
use Rattle.cjc_card_semantics.specs.Bytecode.Calculations
use Rattle.cjc_card_semantics.specs.Bytecode.Numbers.{spelt_by, compared, is_zero, high_word}
use Rattle.cjc_card_semantics.specs.Bytecode.Meanings.{meaning}
use Rattle.cjc_card_semantics.specs.Bytecode.Effects as narrow
use Rattle.cjc_ncode.specs.declared.narrow.NInsn.{NInsn}
use Rattle.cjc_ncode.specs.declared.narrow.NInsn.TheVariants as insns
use Rattle.cjc_ncode.specs.declared.narrow.NMethod.{NMethod}
use Rattle.cjc_ncode.specs.ByLabel.{Named, by_label}
use Rattle.cjc_ncode.specs.IntCode.IntCode.{guard}
use Rattle.cjc_jvm_semantics.specs.Effects as by_name
use Rattle.cjc_int_proof.specs.Walks.{Within, and_then, walk}
use Rattle.cjc_int_proof.proofs.Walking.{walks_split}
use Rattle.cjc_narrow_proof.specs.Selection.Relation.{NMemory}
use Rattle.cjc_narrow_proof.specs.Selection.Rows.{NEffect}
use Rattle.cjc_narrow_proof.specs.Selection.Elements.{index_range}
use Rattle.cjc_int_runs.specs.Guards.{GuardedIndex, Guarded}
use Rattle.cjc_int_runs.specs.Steps.{StandAt, behind, NSpot, NWalked, spot}
use Rattle.cjc_int_runs.proofs.Spelling.{spelt_words, word_is_int}
use Rattle.cjc_int_runs.proofs.Stepping.{onward, asked, push_words}
use Rattle.cjc_int_runs.proofs.Jumps.{equals, solid}
use Rattle.cjc_int_runs.proofs.Stacks.{words_popped}

-- ---- code in parts

pub behind_is : (at : ℕ) (xs : List NInsn) → behind at xs ≡ at + length xs
behind_is at [] = omega arith
behind_is at (x ∷ xs) = let e = behind_is (at + 1) xs in omega (arith, e)

pub behind_both : (at : ℕ) (xs ys : List NInsn) → behind at (xs ++ ys) ≡ behind (behind at xs) ys
behind_both at [] ys = refl
behind_both at (x ∷ xs) ys = behind_both (at + 1) xs ys

pub stand_front : (code : NMethod) (at : ℕ) (xs ys : List NInsn) → StandAt code at (xs ++ ys) → StandAt code at xs
stand_front code at [] ys is = tt
stand_front code at (x ∷ xs) ys is = (is.0, stand_front code (at + 1) xs ys is.1)

pub stand_back : (code : NMethod) (at : ℕ) (xs ys : List NInsn) → StandAt code at (xs ++ ys)
    → StandAt code (behind at xs) ys
stand_back code at [] ys is = is
stand_back code at (x ∷ xs) ys is = stand_back code (at + 1) xs ys is.1

-- some instructions and then others
pub and_onward : (l : Named) (code : NMethod) (n k : ℕ) (from mid : NSpot) (w : NWalked)
    → walk (by_label l) code n from ≡ Within mid → walk (by_label l) code k mid ≡ w
    → walk (by_label l) code (n + k) from ≡ w
and_onward l code n k from mid w e rest = walks_split (by_label l) code n k from
    ∙ ap (λ v. and_then v (walk (by_label l) code k)) e ∙ rest

-- ---- what is found

-- an index within the range is found by its low word
pub near_index : (i : ℤ) → Holds index_range i → GuardedIndex i (low_word i)
near_index i h = record { near = i; in_range = h; word = refl; same = λ items go few. refl }

-- one outside of 16 bits finds nothing, as -1 does
outside_finds : (i : ℤ) → ((negsuc 32767 ≤ℤ i) → (i ≤ℤ pos 32767) → ⊥) → (items : List Value)
    (go : ℕ → Value → by_name.Effect) → length items ≤ 32767 → by_name.item_at items i go
    ≡ by_name.Raise by_name.IndexOutside
outside_finds (pos n) out items go few = ⊎_elim
    (λ lt. absurd (out (omega (arith, ints)) (omega (arith, ints, lt))))
    (λ ge. ap (λ o. by_name.item_if o (go n)) (slice_get_past items n (omega (arith, few, ge)))) (cases_lt n 32768)
outside_finds (negsuc n) out items go few = refl

outside_index : (i : ℤ) → ((negsuc 32767 ≤ℤ i) → (i ≤ℤ pos 32767) → ⊥) → GuardedIndex i (negsuc 0)
outside_index i out = record {
  near = negsuc 0;
  in_range = record { above = omega (arith, ints); below = omega (arith, ints) };
  word = sym (low_word_same (negsuc 0) (omega (arith, ints)) (omega (arith, ints)));
  same = λ items go few. outside_finds i out items go few;
}

-- ---- words that are words already

same_true : (x y : ℤ) → x ≡ y → (int_le x y && int_le y x) ≡ true
same_true x y e = ap (λ t. t && int_le y x) (solid (int_le x y) (λ h. grind (arith, ints, e, h)))
    ∙ solid (int_le y x) (λ h. grind (arith, ints, e, h))

same_is : (x y : ℤ) → (int_le x y && int_le y x) ≡ true → x ≡ y
same_is x y e = go (int_le x y) refl (int_le y x) refl e
  where
    go : (a : Bool) → int_le x y ≡ a → (b : Bool) → int_le y x ≡ b → (int_le x y && int_le y x) ≡ true → x ≡ y
    go true f true g h = grind (arith, ints, f, g)
    go true f false g h = let q = sym (ap (λ t. t && int_le y x) f ∙ g) ∙ h in absurd cc
    go false f b g h = let q = sym (ap (λ t. t && int_le y x) f) ∙ h in absurd cc

-- ---- the guard

module _ (l : Named) (code : NMethod) (here : ℕ) (i high low : ℤ) (ws : List Value) (words : List (Option Value))
    (memory : NMemory) (spelt : i ≡ spelt_by high low) where
  abbrev onto : List Value
  onto = Num low ∷ Num high ∷ ws

  -- i2s alone
  within_range : Holds index_range i → StandAt code here (guard true here)
      → Guarded l code here (guard true here) i onto ws words memory
  unfolding meaning
  within_range h is = record {
    j = low_word i;
    index = near_index i h;
    steps = 1;
    few = omega arith;
    some = omega arith;
    leads = onward l code 0 here (here + 1) (insns.Op 0x5E) onto (Num (low_word (spelt_by high low)) ∷ ws) words words
        memory memory _ is.0 refl (ap (λ x. Within (spot (here + 1) (Num (low_word x) ∷ ws) words memory))
        (sym spelt));
  }

  -- the last i2s
  cut_last : (at : ℕ) (high' low' j : ℤ) → slice_get code.insns at ≡ Some (insns.Op 0x5E)
      → low_word (spelt_by high' low') ≡ j
      → walk (by_label l) code 1 (spot at (Num low' ∷ Num high' ∷ ws) words memory)
      ≡ Within (spot (at + 1) (Num j ∷ ws) words memory)
  unfolding meaning
  cut_last at high' low' j there e = onward l code 0 at (at + 1) (insns.Op 0x5E) (Num low' ∷ Num high' ∷ ws)
      (Num (low_word (spelt_by high' low')) ∷ ws) words words memory memory _ there refl
      (ap (λ x. Within (spot (at + 1) (Num x ∷ ws) words memory)) e)

  -- dup2
  dup2_asks : (at : ℕ) (a b : Value) (xs : List Value) → length xs + 4 ≤ code.max_stack
      → asked l code (insns.Op 0x3E) at (a ∷ b ∷ xs) words memory
      ≡ narrow.Go (at + 1) (a ∷ b ∷ a ∷ b ∷ xs) words memory
  unfolding meaning
  dup2_asks at a b xs room =
      let has : nat_le 2 (length (a ∷ b ∷ xs)) ≡ true = grind (arith, nat_tests) in
      let has' : nat_le (length (take 2 (a ∷ b ∷ xs) ++ (a ∷ b ∷ xs))) code.max_stack ≡ true =
      grind (arith, nat_tests, room) in
      ap (λ t. let e : NEffect = narrow.effect_of_result (Calculations.if_so t (Calculations.if_so
      (nat_le (length (take 2 (a ∷ b ∷ xs) ++ (a ∷ b ∷ xs))) code.max_stack) (Fine (a ∷ b ∷ a ∷ b ∷ xs) words))) (at +
      1)
      memory in e) has
      ∙ ap (λ t. let e : NEffect = narrow.effect_of_result (Calculations.if_so t (Fine (a ∷ b ∷ a ∷ b ∷ xs) words))
      (at + 1) memory in e) has'

  module _ (is : StandAt code here (guard false here)) (room : length ws + 6 ≤ code.max_stack) where
    abbrev order : ℤ
    order = compared i (low_word i)

    -- up to the comparison
    first_five : (n : ℕ) (w : NWalked) → walk (by_label l) code n (spot (here + 1 + 1 + 1 + 1 + 1) (Num order ∷ onto)
        words memory) ≡ w → walk (by_label l) code (suc (suc (suc (suc (suc n))))) (spot here onto words memory) ≡ w
    unfolding meaning
    first_five n w rest =
        let x = low_word (spelt_by high low) in
        let d = compared (spelt_by high low) (spelt_by (high_word x) (low_word x)) in
        let same : d ≡ order = ap (compared (spelt_by high low)) (spelt_words x (word_is_int (spelt_by high low)))
        ∙ ap (λ a. compared a (low_word a)) (sym spelt) in
        onward l code (suc (suc (suc (suc n)))) here (here + 1) (insns.Op 0x3E) onto (Num low ∷ Num high ∷ onto) words
        words memory memory w is.0 (dup2_asks here (Num low) (Num high) ws (omega (arith, room)))
        (onward l code (suc (suc (suc n))) (here + 1) (here + 1 + 1) (insns.Op 0x3E) (Num low ∷ Num high ∷ onto)
        (Num low ∷ Num high ∷ Num low ∷ Num high ∷ onto) words words memory memory w is.1.0
        (dup2_asks (here + 1) (Num low) (Num high) onto (omega (arith, room)))
        (onward l code (suc (suc n)) (here + 1 + 1) (here + 1 + 1 + 1) (insns.Op 0x5E) (Num low ∷ Num high ∷ Num low
        ∷ Num high ∷ onto) (Num x ∷ Num low ∷ Num high ∷ onto) words words memory memory w is.1.1.0 refl
        (onward l code (suc n) (here + 1 + 1 + 1) (here + 1 + 1 + 1 + 1) (insns.Op 0x5C) (Num x ∷ Num low ∷ Num high
        ∷ onto) (int_words x ++ (Num low ∷ Num high ∷ onto)) words words memory memory w is.1.1.1.0
        (push_words (int_words x) code.max_stack (here + 1 + 1 + 1 + 1) (Num low ∷ Num high ∷ onto) words memory
        (omega (arith, room)))
        (onward l code n (here + 1 + 1 + 1 + 1) (here + 1 + 1 + 1 + 1 + 1) (insns.Op 0x5F) (int_words x
        ++ (Num low ∷ Num high ∷ onto)) (Num d ∷ onto) words words memory memory w is.1.1.1.1.0 refl
        (ap (λ a. walk (by_label l) code n (spot (here + 1 + 1 + 1 + 1 + 1) (Num a ∷ onto) words memory)) same
        ∙ rest)))))

    -- ifeq
    decides : (t : Bool) → is_zero order ≡ t → asked l code (insns.Jump 0x60 (here + 8)) (here + 1 + 1 + 1 + 1 + 1)
        (Num order ∷ onto) words memory ≡ narrow.chosen (Calculations.Takes t onto) (here + 8)
        (here + 1 + 1 + 1 + 1 + 1 + 1) words memory
    unfolding meaning
    decides t e = ap (λ b. let e : NEffect = narrow.chosen (Calculations.Takes b onto) (here + 8)
        (here + 1 + 1 + 1 + 1 + 1 + 1) words memory in e) e

    -- an index of 16 bits stays
    stays : is_zero order ≡ true → Guarded l code here (guard false here) i onto ws words memory
    stays zero_is =
        let same : i ≡ low_word i = same_is i (low_word i) (sym (equals i (low_word i)) ∙ zero_is) in
        let ends = low_word_ends i in let a = ends.0 in let b = ends.1 in
        let at : here + 8 ≡ here + 1 + 1 + 1 + 1 + 1 + 1 + 1 + 1 = omega arith in
        record {
          j = low_word i;
          index = near_index i (record { above = omega (arith, ints, a, same); below = omega (arith, ints, b, same) });
          steps = 7;
          few = omega arith;
          some = omega arith;
          leads = first_five 2 _ (onward l code 1 (here + 1 + 1 + 1 + 1 + 1) (here + 8) (insns.Jump 0x60 (here + 8))
              (Num order ∷ onto) onto words words memory memory _ is.1.1.1.1.1.0 (decides true zero_is)
              (ap (λ k. walk (by_label l) code 1 (spot k onto words memory)) at
              ∙ cut_last (here + 1 + 1 + 1 + 1 + 1 + 1 + 1 + 1) high low (low_word i) is.1.1.1.1.1.1.1.1.0
              (ap low_word (sym spelt))));
        }

    -- another becomes -1
    goes_out : is_zero order ≡ false → Guarded l code here (guard false here) i onto ws words memory
    unfolding meaning
    goes_out zero_is =
        let not_same : i ≡ low_word i → ⊥ = λ e. let q = sym (equals i (low_word i) ∙ same_true i (low_word i) e)
        ∙ zero_is in absurd cc in
        let last : low_word (spelt_by (high_word (negsuc 0)) (low_word (negsuc 0))) ≡ negsuc 0 =
        ap low_word (spelt_words (negsuc 0) (record { sfits = omega arith }))
        ∙ low_word_same (negsuc 0) (omega (arith, ints)) (omega (arith, ints)) in
        record {
          j = negsuc 0;
          index = outside_index i (λ a b. not_same (sym (low_word_same i a b)));
          steps = 9;
          few = omega arith;
          some = omega arith;
          leads = first_five 4 _ (onward l code 3 (here + 1 + 1 + 1 + 1 + 1) (here + 1 + 1 + 1 + 1 + 1 + 1)
              (insns.Jump 0x60 (here + 8)) (Num order ∷ onto) onto words words memory memory _ is.1.1.1.1.1.0
              (decides false zero_is)
              (onward l code 2 (here + 1 + 1 + 1 + 1 + 1 + 1) (here + 1 + 1 + 1 + 1 + 1 + 1 + 1) (insns.Op 0x3C) onto ws
              words words memory memory _ is.1.1.1.1.1.1.0 (words_popped 2 code.max_stack
              (here + 1 + 1 + 1 + 1 + 1 + 1 + 1) (Num low ∷ Num high ∷ []) ws words memory refl)
              (onward l code 1 (here + 1 + 1 + 1 + 1 + 1 + 1 + 1) (here + 1 + 1 + 1 + 1 + 1 + 1 + 1 + 1) (insns.Op 0x09)
              ws (int_words (negsuc 0) ++ ws) words words memory memory _ is.1.1.1.1.1.1.1.0
              (push_words (int_words (negsuc 0)) code.max_stack (here + 1 + 1 + 1 + 1 + 1 + 1 + 1 + 1) ws words memory
              (omega (arith, room)))
              (cut_last (here + 1 + 1 + 1 + 1 + 1 + 1 + 1 + 1) (high_word (negsuc 0)) (low_word (negsuc 0)) (negsuc 0)
              is.1.1.1.1.1.1.1.1.0 last))));
        }

    any_index : Guarded l code here (guard false here) i onto ws words memory
    any_index = by_test (is_zero order) refl
      where
        by_test : (t : Bool) → is_zero order ≡ t → Guarded l code here (guard false here) i onto ws words memory
        by_test true e = stays e
        by_test false e = goes_out e

  -- The guard of an index gives a word that finds the same item or none.
  pub guard_leads : (inside : Bool) → (inside ≡ true → Holds index_range i) → StandAt code here (guard inside here)
      → length ws + 6 ≤ code.max_stack → Guarded l code here (guard inside here) i onto ws words memory
  guard_leads true range is room = within_range (range refl) is
  guard_leads false range is room = any_index is room
