-- Instructions that move cells of the stack do the same on both sides.
use Rattle.std.proofs.Common.{◌≡◌, ℕ, zero, suc, ◌+◌, ◌≤◌, refl, sym, ap, subst, arith, true, List, [], ◌∷◌, ◌++◌}
use Rattle.std.proofs.Common.{length, take, drop}
use Rattle.std.specs.Prelude.{Option, nat_le, ◌&&◌}
use Rattle.std.proofs.lemmas.Bool.Decides.{nat_tests}
use Rattle.cjc_code.specs.declared.insn.JOp.TheVariants as jop
use Rattle.cjc_script.specs.declared.value.Value.{Value}
use Rattle.cjc_card_semantics.specs.Bytecode.Calculations.{copied}
use Rattle.cjc_card_semantics.specs.Bytecode.Calculations
use Rattle.cjc_card_semantics.specs.Bytecode.Meanings.{meaning}
use Rattle.cjc_card_semantics.specs.Bytecode.Effects as narrow
use Rattle.cjc_ncode.specs.declared.narrow.NInsn.TheVariants as insns
use Rattle.cjc_ncode.specs.Written.{Resolution}
use Rattle.cjc_ncode.specs.ByLabel.{Named}
use Rattle.cjc_jvm_semantics.specs.Linked.{Method, Linked}
use Rattle.cjc_jvm_semantics.specs.Effects.{Store, effect}
use Rattle.cjc_jvm_semantics.specs.Effects as by_name
use Rattle.cjc_narrow_proof.specs.Selection.Relation.{Kind, OnBoth, no_cell, a_range, a_reference, an_unused, NMemory}
use Rattle.cjc_narrow_proof.specs.Selection.Relation.{Stacks, Locals, Stores}
use Rattle.cjc_narrow_proof.specs.Selection.Rows.{HasRoom, Same, RowAgrees, goes}
use Rattle.cjc_narrow_proof.proofs.SelectionLaws.Plain.{RowIs, as_written}
use Rattle.cjc_narrow_proof.proofs.SelectionLaws.Gets.{heights}
use Rattle.cjc_narrow_proof.proofs.SelectionLaws.Passed.{Here, nothing, range, refers, unread, here_before, taken}
use Rattle.cjc_narrow_proof.proofs.SelectionLaws.Passed.{dropped, high_enough, joined, length_both, take_all, drop_all}
use Rattle.cjc_narrow_proof.proofs.SelectionLaws.Passed.{append_in_turn}
use Rattle.cjc_bytes.proofs.Gets.{taken_length}

here_fewer : {tops : List Kind} (ks : List Kind) (n : ℕ) → OnBoth tops → n ≤ length tops → Here n (tops ++ ks)
here_fewer ks zero p h = nothing
here_fewer ks (suc n) no_cell h = absurd (omega arith)
here_fewer ks (suc n) (a_range p) h = range (here_fewer ks n p (omega arith))
here_fewer ks (suc n) (a_reference p) h = refers (here_fewer ks n p (omega arith))
here_fewer ks (suc n) (an_unused p) h = unread (here_fewer ks n p (omega arith))

take_few : {A : Type 0} (n : ℕ) (xs ys : List A) → n ≤ length xs → take n (xs ++ ys) ≡ take n xs
take_few zero xs ys h = refl
take_few (suc n) [] ys h = absurd (omega arith)
take_few (suc n) (x ∷ xs) ys h = ap (λ l. x ∷ l) (take_few n xs ys (omega arith))

module _ (by : Linked) (l : Named) (r : Resolution) (m : Method) (tops : List Kind) (plain : OnBoth tops) (n : ℕ)
    (few : n ≤ length tops) where
  -- the top n cells are copied below all of `tops`
  copy_both : (room at next : ℕ) (ks ls : List Kind) (vs ws : List Value) (locals words : List (Option Value))
      (store : Store) (memory : NMemory) → HasRoom ((tops ++ take n tops) ++ ks) m.max_stack room
      → Stores l store memory → Locals memory.heap ls locals words → Stacks memory.heap (tops ++ ks) vs ws
      → Same l ((tops ++ take n tops) ++ ks) ls (at + 1) next (by_name.after_copy by m at locals store n (length tops)
      vs) (narrow.effect_of_result (copied n (length tops) room words ws) next memory)
  copy_both room at next ks ls vs ws locals words store memory roomy stores held s =
      let b = length tops in
      let heap = memory.heap in
      let h = heights s in let e = h.by_name in let g = h.narrow in let high = roomy.by_name in let high' = roomy.narrow
      in
      let both = length_both tops ks in let both' = length_both (tops ++ take n tops) ks in let both'' =
      length_both tops (take n tops) in let part = taken_length n tops few in
      let enough = high_enough (here_before ks plain) s in
      let words_long = taken_length n ws (omega arith) in
      let sum = length_both (take n ws) ws in
      let left : nat_le b (length vs) ≡ true = grind (arith, nat_tests) in
      let left' : nat_le (n + length vs) m.max_stack ≡ true = grind (arith, nat_tests) in
      let right : nat_le b (length ws) ≡ true = grind (arith, nat_tests) in
      let right' : nat_le (length (take n ws ++ ws)) room ≡ true = grind (arith, nat_tests) in
      let top = subst (λ k. Stacks heap k (take b vs) (take b ws)) (take_all tops ks) (taken (here_before ks plain) s)
      in
      let first = subst (λ k. Stacks heap k (take n vs) (take n ws)) (take_few n tops ks few)
      (taken (here_fewer ks n plain few) s) in
      let below = subst (λ k. Stacks heap k (drop b vs) (drop b ws)) (drop_all tops ks) (dropped (here_before ks plain)
      s) in
      let named' = take b vs ++ (take n vs ++ drop b vs) in
      let narrow' = take b ws ++ (take n ws ++ drop b ws) in
      let result = subst (λ k. Stacks heap k named' narrow') (sym (append_in_turn tops (take n tops) ks))
      (joined top (joined first below)) in
      subst (λ t. Same l ((tops ++ take n tops) ++ ks) ls (at + 1) next (by_name.only_if (t
      && nat_le (n + length vs) m.max_stack) (by_name.onward by m at locals store named')) (narrow.effect_of_result
      (copied n b room words ws) next memory)) (sym left)
      (subst (λ t. Same l ((tops ++ take n tops) ++ ks) ls (at + 1) next
      (by_name.only_if t (by_name.onward by m at locals store named')) (narrow.effect_of_result
      (copied n b room words ws) next memory)) (sym left')
      (subst (λ t. Same l ((tops ++ take n tops) ++ ks) ls (at + 1) next (by_name.onward by m at locals store named')
      (narrow.effect_of_result (Calculations.if_so t (Calculations.if_so (nat_le (length (take n ws ++ ws)) room)
      (Calculations.Fine narrow' words))) next memory)) (sym right)
      (subst (λ t. Same l ((tops ++ take n tops) ++ ks) ls (at + 1) next (by_name.onward by m at locals store named')
      (narrow.effect_of_result (Calculations.if_so t (Calculations.Fine narrow' words)) next memory)) (sym right')
      (goes result held stores))))

module _ (by : Linked) (l : Named) (r : Resolution) (m : Method) where
  dup_is : (a : Kind) → OnBoth (a ∷ []) → RowIs by l m (jop.Stack 0x59) (insns.Op 0x3D) (a ∷ []) (a ∷ a ∷ [])
  unfolding effect meaning
  dup_is a plain = copy_both by l r m (a ∷ []) plain 1 (omega arith)

  pub dup : (a : Kind) → OnBoth (a ∷ []) → RowAgrees by l r m (jop.Stack 0x59) (a ∷ []) (a ∷ a ∷ [])
  dup a plain = as_written by l r m (jop.Stack 0x59) (insns.Op 0x3D) (a ∷ []) (a ∷ a ∷ []) (λ place. refl)
      (dup_is a plain)

  dup_x1_is : (a b : Kind) → OnBoth (a ∷ b ∷ []) → RowIs by l m (jop.Stack 0x5A) (insns.Words 0x3F 1 2) (a ∷ b ∷ []) (a
      ∷ b ∷ a ∷ [])
  unfolding effect meaning
  dup_x1_is a b plain = copy_both by l r m (a ∷ b ∷ []) plain 1 (omega arith)

  pub dup_x1 : (a b : Kind) → OnBoth (a ∷ b ∷ []) → RowAgrees by l r m (jop.Stack 0x5A) (a ∷ b ∷ []) (a ∷ b ∷ a ∷ [])
  dup_x1 a b plain = as_written by l r m (jop.Stack 0x5A) (insns.Words 0x3F 1 2) (a ∷ b ∷ []) (a ∷ b ∷ a
      ∷ []) (λ place. refl) (dup_x1_is a b plain)

  dup_x2_is : (a b c : Kind) → OnBoth (a ∷ b ∷ c ∷ []) → RowIs by l m (jop.Stack 0x5B) (insns.Words 0x3F 1 3) (a ∷ b ∷ c
      ∷ []) (a ∷ b ∷ c ∷ a ∷ [])
  unfolding effect meaning
  dup_x2_is a b c plain = copy_both by l r m (a ∷ b ∷ c ∷ []) plain 1 (omega arith)

  pub dup_x2 : (a b c : Kind) → OnBoth (a ∷ b ∷ c ∷ []) → RowAgrees by l r m (jop.Stack 0x5B) (a ∷ b ∷ c ∷ []) (a ∷ b
      ∷ c ∷ a ∷ [])
  dup_x2 a b c plain = as_written by l r m (jop.Stack 0x5B) (insns.Words 0x3F 1 3) (a ∷ b ∷ c ∷ []) (a ∷ b ∷ c ∷ a
      ∷ []) (λ place. refl) (dup_x2_is a b c plain)

  dup2_is : (a b : Kind) → OnBoth (a ∷ b ∷ []) → RowIs by l m (jop.Stack 0x5C) (insns.Op 0x3E) (a ∷ b ∷ []) (a ∷ b ∷ a
      ∷ b ∷ [])
  unfolding effect meaning
  dup2_is a b plain = copy_both by l r m (a ∷ b ∷ []) plain 2 (omega arith)

  pub dup2 : (a b : Kind) → OnBoth (a ∷ b ∷ []) → RowAgrees by l r m (jop.Stack 0x5C) (a ∷ b ∷ []) (a ∷ b ∷ a ∷ b ∷ [])
  dup2 a b plain = as_written by l r m (jop.Stack 0x5C) (insns.Op 0x3E) (a ∷ b ∷ []) (a ∷ b ∷ a ∷ b
      ∷ []) (λ place. refl) (dup2_is a b plain)

  dup2_x1_is : (a b c : Kind) → OnBoth (a ∷ b ∷ c ∷ []) → RowIs by l m (jop.Stack 0x5D) (insns.Words 0x3F 2 3) (a ∷ b
      ∷ c ∷ []) (a ∷ b ∷ c ∷ a ∷ b ∷ [])
  unfolding effect meaning
  dup2_x1_is a b c plain = copy_both by l r m (a ∷ b ∷ c ∷ []) plain 2 (omega arith)

  pub dup2_x1 : (a b c : Kind) → OnBoth (a ∷ b ∷ c ∷ []) → RowAgrees by l r m (jop.Stack 0x5D) (a ∷ b ∷ c ∷ []) (a ∷ b
      ∷ c ∷ a ∷ b ∷ [])
  dup2_x1 a b c plain = as_written by l r m (jop.Stack 0x5D) (insns.Words 0x3F 2 3) (a ∷ b ∷ c ∷ []) (a ∷ b ∷ c ∷ a ∷ b
      ∷ []) (λ place. refl) (dup2_x1_is a b c plain)

  dup2_x2_is : (a b c d : Kind) → OnBoth (a ∷ b ∷ c ∷ d ∷ []) → RowIs by l m (jop.Stack 0x5E) (insns.Words 0x3F 2 4) (a
      ∷ b ∷ c ∷ d ∷ []) (a ∷ b ∷ c ∷ d ∷ a ∷ b ∷ [])
  unfolding effect meaning
  dup2_x2_is a b c d plain = copy_both by l r m (a ∷ b ∷ c ∷ d ∷ []) plain 2 (omega arith)

  pub dup2_x2 : (a b c d : Kind) → OnBoth (a ∷ b ∷ c ∷ d ∷ []) → RowAgrees by l r m (jop.Stack 0x5E) (a ∷ b ∷ c ∷ d
      ∷ []) (a ∷ b ∷ c ∷ d ∷ a ∷ b ∷ [])
  dup2_x2 a b c d plain = as_written by l r m (jop.Stack 0x5E) (insns.Words 0x3F 2 4) (a ∷ b ∷ c ∷ d ∷ []) (a ∷ b ∷ c
      ∷ d ∷ a ∷ b ∷ []) (λ place. refl) (dup2_x2_is a b c d plain)
