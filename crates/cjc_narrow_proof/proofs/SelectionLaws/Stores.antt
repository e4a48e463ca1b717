-- Locals are written and increased alike.
use Rattle.std.proofs.Common.{◌≡◌, ℕ, zero, suc, ◌+◌, ◌<◌, refl, sym, ap, subst, arith, Bool, true, false, List, []}
use Rattle.std.proofs.Common.{◌∷◌, length, ℤ, ◌+ℤ◌, pos}
use Rattle.std.specs.Prelude.{Option, Some, nat_le, nat_lt, slice_get, slice_set, if◌then◌else◌}
use Rattle.std.proofs.lemmas.Bool.Decides.{nat_tests}
use Rattle.std.proofs.lemmas.Int.{ints}
use Rattle.cjc_range.specs.Words.{low_word}
use Rattle.cjc_range.proofs.WordsLaws.Words.{low_word_same, low_word-add}
use Rattle.cjc_range.specs.Span.{Span, span, Holds, short_range}
use Rattle.cjc_range.specs.Rows.{add_row}
use Rattle.cjc_range.proofs.Spans.{add_holds}
use Rattle.cjc_code.specs.declared.insn.JOp.TheVariants as jop
use Rattle.cjc_script.specs.declared.value.Value.{Value}
use Rattle.cjc_script.specs.declared.value.Value.TheVariants.{Num, Null, Obj}
use Rattle.cjc_script.specs.Sorts.{Shape}
use Rattle.cjc_card_semantics.specs.Bytecode.Calculations.{store_if, is_number, is_reference, increased, there}
use Rattle.cjc_card_semantics.specs.Bytecode.Calculations.{number_in}
use Rattle.cjc_card_semantics.specs.Bytecode.Calculations
use Rattle.cjc_card_semantics.specs.Bytecode.Meanings.{meaning}
use Rattle.cjc_card_semantics.specs.Bytecode.Effects.{Do}
use Rattle.cjc_card_semantics.specs.Bytecode.Effects as narrow
use Rattle.cjc_ncode.specs.declared.narrow.NInsn.TheVariants as insns
use Rattle.cjc_ncode.specs.Written.{Resolution, is_byte}
use Rattle.cjc_ncode.specs.ByLabel.{Named, classes, operation}
use Rattle.cjc_jvm_semantics.specs.Linked.{Method, Linked}
use Rattle.cjc_jvm_semantics.specs.Effects.{Store, effect}
use Rattle.cjc_jvm_semantics.specs.Effects as by_name
use Rattle.cjc_narrow_proof.specs.Selection.Relation.{Kind, Range, Refers, Heap, NMemory, Agrees, number, null, object}
use Rattle.cjc_narrow_proof.specs.Selection.Relation.{Stacks, cell, Locals, no_more, local, unused, Stores}
use Rattle.cjc_narrow_proof.specs.Selection.Rows.{Same, RowOnLocals, goes}
use Rattle.cjc_narrow_proof.proofs.SelectionLaws.Plain.{of_both}
use Rattle.cjc_narrow_proof.proofs.SelectionLaws.Pushes.{local_at, one_insn}
use Rattle.cjc_bytes.proofs.Gets.{get_inside}

-- ---- locals

locals_long : {heap : Heap} {ls : List Kind} {vs ws : List (Option Value)} → Locals heap ls vs ws
    → (length vs ≡ length ls) × (length ws ≡ length ls)
locals_long no_more = (refl, refl)
locals_long (local a s) = let r = locals_long s in (ap suc r.0, ap suc r.1)
locals_long (unused s) = let r = locals_long s in (ap suc r.0, ap suc r.1)

locals_set : {heap : Heap} {ls : List Kind} {vs ws : List (Option Value)} {k : Kind} {v w : Value} (n : ℕ)
    → Locals heap ls vs ws → Agrees heap k v w → Locals heap (slice_set ls n k) (slice_set vs n (Some v))
    (slice_set ws n (Some w))
locals_set zero no_more a = no_more
locals_set (suc n) no_more a = no_more
locals_set zero (local b s) a = local a s
locals_set zero (unused s) a = local a s
locals_set (suc n) (local b s) a = local b (locals_set n s a)
locals_set (suc n) (unused s) a = unused (locals_set n s a)

-- ---- what is written

number_far : (n : ℕ) → nat_le n 3 ≡ false → operation (if nat_le n 3 then insns.Op (0x2F + n) else insns.Local 0x29 n)
    ≡ Do (store_if is_number n)
unfolding meaning
number_far n e = ap (λ b. operation (if b then insns.Op (0x2F + n) else insns.Local 0x29 n)) e

number_store_is : (n : ℕ) → operation (if nat_le n 3 then insns.Op (0x2F + n) else insns.Local 0x29 n)
    ≡ Do (store_if is_number n)
unfolding meaning
number_store_is zero = refl
number_store_is (suc zero) = refl
number_store_is (suc (suc zero)) = refl
number_store_is (suc (suc (suc zero))) = refl
number_store_is (suc (suc (suc (suc n)))) = number_far (suc (suc (suc (suc n))))
    (let e : nat_le (suc (suc (suc (suc n)))) 3 ≡ false = grind (arith, nat_tests) in e)

reference_far : (n : ℕ) → nat_le n 3 ≡ false → operation (if nat_le n 3 then insns.Op (0x2B + n)
    else insns.Local 0x28 n) ≡ Do (store_if is_reference n)
unfolding meaning
reference_far n e = ap (λ b. operation (if b then insns.Op (0x2B + n) else insns.Local 0x28 n)) e

reference_store_is : (n : ℕ) → operation (if nat_le n 3 then insns.Op (0x2B + n) else insns.Local 0x28 n)
    ≡ Do (store_if is_reference n)
unfolding meaning
reference_store_is zero = refl
reference_store_is (suc zero) = refl
reference_store_is (suc (suc zero)) = refl
reference_store_is (suc (suc (suc zero))) = refl
reference_store_is (suc (suc (suc (suc n)))) = reference_far (suc (suc (suc (suc n))))
    (let e : nat_le (suc (suc (suc (suc n)))) 3 ≡ false = grind (arith, nat_tests) in e)

inc_is : (b : Bool) (n : ℕ) (z : ℤ) → operation (insns.Inc (if b then 0x59 else 0x96) n z)
    ≡ Do (increased (pos n ∷ z ∷ []))
unfolding meaning
inc_is true n z = refl
inc_is false n z = refl

-- ---- stores

module _ (by : Linked) (l : Named) (r : Resolution) (m : Method) (ls : List Kind) (n : ℕ) (inside : n < length ls) where
  -- a value that agrees goes into a local
  stored_both : (at next : ℕ) (ks : List Kind) (k : Kind) (v w : Value) (vs ws : List Value) (locals words :
      List (Option Value)) (store : Store) (memory : NMemory) → Stores l store memory
      → Locals memory.heap ls locals words → Agrees memory.heap k v w → Stacks memory.heap ks vs ws
      → Same l ks (slice_set ls n k) (at + 1) next (by_name.only_if (nat_lt n (length locals)) (by_name.with_local by m
      at locals store n v vs)) (narrow.effect_of_result (there (slice_get words n)
      (Calculations.Fine ws (slice_set words n (Some w)))) next memory)
  stored_both at next ks k v w vs ws locals words store memory stores held agree rest =
      let long = locals_long held in let e = long.0 in let f = long.1 in
      let left : nat_lt n (length locals) ≡ true = grind (arith, nat_tests) in
      let old = get_inside words n (omega arith) in
      subst (λ b. Same l ks (slice_set ls n k) (at + 1) next (by_name.only_if b (by_name.with_local by m at locals store
      n v vs)) (narrow.effect_of_result (there (slice_get words n)
      (Calculations.Fine ws (slice_set words n (Some w)))) next memory)) (sym left)
      (subst (λ o. Same l ks (slice_set ls n k) (at + 1) next (by_name.with_local by m at locals store n v vs)
      (narrow.effect_of_result (there o (Calculations.Fine ws (slice_set words n (Some w)))) next memory))
      (sym old.1)
      (goes rest (locals_set n held agree) stores))

  pub istore : (s : Span) → RowOnLocals by l r m (jop.Store false n) (Range s ∷ []) [] ls (slice_set ls n (Range s))
  unfolding effect
  istore s place insn is room at next ks _ _ locals words store memory roomy stores held (cell {vs = vs} {ws = ws}
      (number {x = x} {y = y} e h) rest) =
      subst (λ i. Same l ks (slice_set ls n (Range s)) (at + 1) next (by_name.after_store by m at locals store false n
      (Num x ∷ vs)) (narrow.effect (classes l) (operation i) room next words memory (Num y ∷ ws))) (one_insn is)
      (subst (λ o. Same l ks (slice_set ls n (Range s)) (at + 1) next (by_name.after_store by m at locals store false n
      (Num x ∷ vs)) (narrow.effect (classes l) o room next words memory (Num y ∷ ws))) (sym (number_store_is n))
      (stored_both at next ks (Range s) (Num x) (Num y) vs ws locals words store memory stores held (number e h) rest))

  pub astore : (within : Shape (List ℕ) → Bool) → RowOnLocals by l r m (jop.Store true n) (Refers within ∷ []) [] ls
      (slice_set ls n (Refers within))
  unfolding effect
  astore within place insn is room at next ks _ _ locals words store memory roomy stores held
      (cell {v = v} {w = w} {vs = vs} {ws = ws} agree rest) =
      subst (λ i. Same l ks (slice_set ls n (Refers within)) (at + 1) next (by_name.after_store by m at locals store
      true n (v ∷ vs)) (narrow.effect (classes l) (operation i) room next words memory (w ∷ ws))) (one_insn is)
      (subst (λ o. Same l ks (slice_set ls n (Refers within)) (at + 1) next (by_name.after_store by m at locals store
      true n (v ∷ vs)) (narrow.effect (classes l) o room next words memory (w ∷ ws))) (sym (reference_store_is n))
      (by_value v w agree))
    where
      by_value : (v w : Value) → Agrees memory.heap (Refers within) v w
          → Same l ks (slice_set ls n (Refers within)) (at + 1) next (by_name.after_store by m at locals store true n (v
          ∷ vs)) (narrow.effect (classes l) (Do (store_if is_reference n)) room next words memory (w ∷ ws))
      by_value _ _ null = stored_both at next ks (Refers within) Null Null vs ws locals words store memory stores held
          null rest
      by_value _ _ (object {k = k} thing there e) = stored_both at next ks (Refers within) (Obj k) (Obj k) vs ws locals
          words store memory stores held (object thing there e) rest

-- ---- an increase

pub holds_itself : (z : ℤ) → Holds (span z z) z
holds_itself z = record { above = omega (arith, ints); below = omega (arith, ints) }

pub iinc : (by : Linked) (l : Named) (r : Resolution) (m : Method) (ls : List Kind) (n : ℕ) (s : Span) (z : ℤ)
    → slice_get ls n ≡ Some (Range s) → Holds short_range z
    → RowOnLocals by l r m (jop.Inc n z) [] [] ls (slice_set ls n (Range (add_row s (span z z))))
unfolding effect
iinc by l r m ls n s z has small place insn is room at next ks vs ws locals words store memory roomy stores held rest =
    let result = slice_set ls n (Range (add_row s (span z z))) in
    let h = local_at (Range s) n held has refl in
    subst (λ i. Same l ks result (at + 1) next (by_name.local_value (slice_get locals n) (λ v. by_name.after_increase by
    m at locals store n z v vs)) (narrow.effect (classes l) (operation i) room next words memory ws)) (one_insn is)
    (subst (λ o. Same l ks result (at + 1) next (by_name.local_value (slice_get locals n) (λ v. by_name.after_increase
    by m at locals store n z v vs)) (narrow.effect (classes l) o room next words memory ws))
    (sym (inc_is (is_byte z) n z))
    (subst (λ o. Same l ks result (at + 1) next (by_name.local_value o (λ v. by_name.after_increase by m at locals store
    n z v vs)) (narrow.effect (classes l) (Do (increased (pos n ∷ z ∷ []))) room next words memory ws))
    (sym h.by_name)
    (subst (λ o. Same l ks result (at + 1) next (by_name.after_increase by m at locals store n z h.v vs)
    (narrow.effect_of_result
    (number_in o (λ x. Calculations.Fine ws (slice_set words n (Some (Num (low_word (x +ℤ z))))))) next memory))
    (sym h.narrow)
    (by_value h.v h.w h.agree))))
  where
    by_value : (v w : Value) → Agrees memory.heap (Range s) v w
        → Same l ks (slice_set ls n (Range (add_row s (span z z)))) (at + 1) next (by_name.after_increase by m at locals
        store n z v vs) (narrow.effect_of_result (number_in (Some (Some w)) (λ x. Calculations.Fine ws
        (slice_set words n (Some (Num (low_word (x +ℤ z))))))) next memory)
    by_value _ _ (number {x = x} {y = y} e h) =
        let as_word : z ≡ low_word z = sym (low_word_same z small.above small.below) in
        goes rest (locals_set n held (number (of_both (λ a b. low_word (a +ℤ b)) x z e as_word (low_word-add x z))
        (add_holds s (span z z) x z h (holds_itself z)))) stores
