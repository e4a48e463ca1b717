-- Cells are dropped and exchanged alike; and what is not written changes no word.
use Rattle.std.proofs.Common.{◌≡◌, ℕ, ◌+◌, refl, sym, subst, ◌∙◌, arith, true, List, [], ◌∷◌, ◌++◌, length, drop}
use Rattle.std.specs.Prelude.{Option, nat_le}
use Rattle.std.proofs.lemmas.Bool.Decides.{nat_tests}
use Rattle.cjc_range.specs.Words.{low_word}
use Rattle.cjc_range.proofs.WordsLaws.Words.{low_word_fits, low_word_fixed}
use Rattle.cjc_range.specs.Span.{Span}
use Rattle.cjc_range.specs.Rows.{to_short_row}
use Rattle.cjc_range.proofs.Spans.{to_short_holds}
use Rattle.cjc_code.specs.declared.insn.JOp.TheVariants as jop
use Rattle.cjc_script.specs.declared.value.Value.{Value}
use Rattle.cjc_script.specs.declared.value.Value.TheVariants.{Num}
use Rattle.cjc_card_semantics.specs.Bytecode.Calculations.{popped}
use Rattle.cjc_card_semantics.specs.Bytecode.Calculations
use Rattle.cjc_card_semantics.specs.Bytecode.Meanings.{meaning}
use Rattle.cjc_card_semantics.specs.Bytecode.Effects as narrow
use Rattle.cjc_ncode.specs.declared.narrow.NInsn.TheVariants as insns
use Rattle.cjc_ncode.specs.Written.{Resolution}
use Rattle.cjc_ncode.specs.ByLabel.{Named}
use Rattle.cjc_jvm_semantics.specs.Linked.{Method, Linked}
use Rattle.cjc_jvm_semantics.specs.Effects.{Store, effect}
use Rattle.cjc_jvm_semantics.specs.Effects as by_name
use Rattle.cjc_narrow_proof.specs.Selection.Relation.{Kind, Range, OnBoth, no_cell, a_range, a_reference, an_unused}
use Rattle.cjc_narrow_proof.specs.Selection.Relation.{NMemory, Agrees, number, Stacks, cell, Locals, Stores}
use Rattle.cjc_narrow_proof.specs.Selection.Rows.{Same, RowAgrees, GoesOn, IsNotWritten, goes}
use Rattle.cjc_narrow_proof.proofs.SelectionLaws.Plain.{RowIs, as_written}
use Rattle.cjc_narrow_proof.proofs.SelectionLaws.Gets.{heights}
use Rattle.cjc_narrow_proof.proofs.SelectionLaws.Passed.{here_before, dropped, high_enough, drop_all, length_both}

module _ (by : Linked) (l : Named) (r : Resolution) (m : Method) where
  drop_both : (tops : List Kind) → OnBoth tops → (at next : ℕ) (ks ls : List Kind) (room : ℕ) (vs ws : List Value)
      (locals words : List (Option Value)) (store : Store) (memory : NMemory) → Stores l store memory
      → Locals memory.heap ls locals words → Stacks memory.heap (tops ++ ks) vs ws
      → Same l ks ls (at + 1) next (by_name.after_pop by m at locals store (length tops) vs) (narrow.effect_of_result
      (popped (length tops) room words ws) next memory)
  drop_both tops plain at next ks ls room vs ws locals words store memory stores held s =
      let b = length tops in
      let h = heights s in let e = h.by_name in
      let both = length_both tops ks in
      let enough = high_enough (here_before ks plain) s in
      let left : nat_le b (length vs) ≡ true = grind (arith, nat_tests) in
      let right : nat_le b (length ws) ≡ true = grind (arith, nat_tests) in
      let below = subst (λ k. Stacks memory.heap k (drop b vs) (drop b ws)) (drop_all tops ks)
      (dropped (here_before ks plain) s) in
      subst (λ t. Same l ks ls (at + 1) next (by_name.only_if t (by_name.onward by m at locals store (drop b vs)))
      (narrow.effect_of_result (popped b room words ws) next memory)) (sym left)
      (subst (λ t. Same l ks ls (at + 1) next (by_name.onward by m at locals store (drop b vs)) (narrow.effect_of_result
      (Calculations.if_so t (Calculations.Fine (drop b ws) words)) next memory)) (sym right)
      (goes below held stores))

  pop_is : (a : Kind) → OnBoth (a ∷ []) → RowIs by l m (jop.Stack 0x57) (insns.Op 0x3B) (a ∷ []) []
  unfolding effect meaning
  pop_is a plain room at next ks ls vs ws locals words store memory roomy stores held s =
      drop_both (a ∷ []) plain at next ks ls room vs ws locals words store memory stores held s

  pub pop : (a : Kind) → OnBoth (a ∷ []) → RowAgrees by l r m (jop.Stack 0x57) (a ∷ []) []
  pop a plain = as_written by l r m (jop.Stack 0x57) (insns.Op 0x3B) (a ∷ []) [] (λ place. refl) (pop_is a plain)

  pop2_is : (a b : Kind) → OnBoth (a ∷ b ∷ []) → RowIs by l m (jop.Stack 0x58) (insns.Op 0x3C) (a ∷ b ∷ []) []
  unfolding effect meaning
  pop2_is a b plain room at next ks ls vs ws locals words store memory roomy stores held s =
      drop_both (a ∷ b ∷ []) plain at next ks ls room vs ws locals words store memory stores held s

  pub pop2 : (a b : Kind) → OnBoth (a ∷ b ∷ []) → RowAgrees by l r m (jop.Stack 0x58) (a ∷ b ∷ []) []
  pop2 a b plain = as_written by l r m (jop.Stack 0x58) (insns.Op 0x3C) (a ∷ b ∷ []) [] (λ place. refl)
      (pop2_is a b plain)

  -- two cells change places
  swapped : {k j : Kind} {v w x y : Value} {ks ls : List Kind} {vs ws : List Value} (at next : ℕ) {locals words :
      List (Option Value)} {store : Store} {memory : NMemory} → Stores l store memory
      → Locals memory.heap ls locals words → Agrees memory.heap k v w → Agrees memory.heap j x y
      → Stacks memory.heap ks vs ws
      → Same l (j ∷ k ∷ ks) ls (at + 1) next (by_name.onward by m at locals store (x ∷ v ∷ vs)) (narrow.effect_of_result
      (Calculations.if_so (nat_le 2 (length (w ∷ y ∷ ws))) (Calculations.Fine (y ∷ w ∷ ws) words)) next memory)
  swapped {k = k} {j = j} {v = v} {w = w} {x = x} {y = y} {ks = ks} {ls = ls} {vs = vs} {ws = ws} at next
      {locals = locals} {words = words} {store = store} {memory = memory} stores held a b s =
      let enough : nat_le 2 (length (w ∷ y ∷ ws)) ≡ true = grind (arith, nat_tests) in
      subst (λ t. Same l (j ∷ k ∷ ks) ls (at + 1) next (by_name.onward by m at locals store (x ∷ v ∷ vs))
      (narrow.effect_of_result (Calculations.if_so t (Calculations.Fine (y ∷ w ∷ ws) words)) next memory))
      (sym enough)
      (goes (cell b (cell a s)) held stores)

  swap_is : (a b : Kind) → OnBoth (a ∷ b ∷ []) → RowIs by l m (jop.Stack 0x5F) (insns.Words 0x40 1 1) (a ∷ b ∷ []) (b
      ∷ a ∷ [])
  unfolding effect meaning
  swap_is _ _ (a_range (a_range no_cell)) room at next ks ls _ _ locals words store memory roomy stores held
      (cell a (cell b s)) = swapped at next stores held a b s
  swap_is _ _ (a_range (a_reference no_cell)) room at next ks ls _ _ locals words store memory roomy stores held
      (cell a (cell b s)) = swapped at next stores held a b s
  swap_is _ _ (a_range (an_unused no_cell)) room at next ks ls _ _ locals words store memory roomy stores held
      (cell a (cell b s)) = swapped at next stores held a b s
  swap_is _ _ (a_reference (a_range no_cell)) room at next ks ls _ _ locals words store memory roomy stores held
      (cell a (cell b s)) = swapped at next stores held a b s
  swap_is _ _ (a_reference (a_reference no_cell)) room at next ks ls _ _ locals words store memory roomy stores held
      (cell a (cell b s)) = swapped at next stores held a b s
  swap_is _ _ (a_reference (an_unused no_cell)) room at next ks ls _ _ locals words store memory roomy stores held
      (cell a (cell b s)) = swapped at next stores held a b s
  swap_is _ _ (an_unused (a_range no_cell)) room at next ks ls _ _ locals words store memory roomy stores held
      (cell a (cell b s)) = swapped at next stores held a b s
  swap_is _ _ (an_unused (a_reference no_cell)) room at next ks ls _ _ locals words store memory roomy stores held
      (cell a (cell b s)) = swapped at next stores held a b s
  swap_is _ _ (an_unused (an_unused no_cell)) room at next ks ls _ _ locals words store memory roomy stores held
      (cell a (cell b s)) = swapped at next stores held a b s

  pub swap : (a b : Kind) → OnBoth (a ∷ b ∷ []) → RowAgrees by l r m (jop.Stack 0x5F) (a ∷ b ∷ []) (b ∷ a ∷ [])
  swap a b plain = as_written by l r m (jop.Stack 0x5F) (insns.Words 0x40 1 1) (a ∷ b ∷ []) (b ∷ a ∷ []) (λ place. refl)
      (swap_is a b plain)

-- ---- what is not written

module _ (by : Linked) (r : Resolution) (m : Method) where
  pub nop : IsNotWritten by r m jop.Nop [] []
  unfolding effect
  nop = record {
    is_left_out = λ place. refl;
    does = λ at ks vs ws locals store memory s. record {
      stack = vs;
      goes_on = refl;
      agree = s;
    };
  }

  short_goes : (s : Span) (at : ℕ) (ks : List Kind) (vs ws : List Value) (locals : List (Option Value)) (store : Store)
      (memory : NMemory) → Stacks memory.heap (Range s ∷ ks) vs ws → GoesOn by m (jop.Narrow 0x93) at locals store
      memory (Range (to_short_row s) ∷ ks) vs ws
  unfolding effect
  short_goes s at ks _ _ locals store memory (cell {vs = vs} (number {x = x} e h) rest) =
      record {
        stack = Num (low_word x) ∷ vs;
        goes_on = refl;
        agree = cell (number (e ∙ sym (low_word_fixed (low_word x) (low_word_fits x))) (to_short_holds s x h)) rest;
      }

  pub i2s : (s : Span) → IsNotWritten by r m (jop.Narrow 0x93) (Range s ∷ []) (Range (to_short_row s) ∷ [])
  i2s s = record {
    is_left_out = λ place. refl;
    does = λ at ks vs ws locals store memory st. short_goes s at ks vs ws
        locals store memory st;
  }
