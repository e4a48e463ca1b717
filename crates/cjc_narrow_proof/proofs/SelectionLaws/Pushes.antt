-- Constants and locals are pushed alike.
use Rattle.std.proofs.Common.{◌≡◌, ℕ, zero, suc, ◌+◌, refl, sym, ap, subst, ◌∙◌, arith, Bool, true, false, List, []}
use Rattle.std.proofs.Common.{◌∷◌, length, ℤ, pos, negsuc}
use Rattle.cjc_bytes.specs.declared.fault.MemberId.{MemberId}
use Rattle.std.specs.Prelude.{Option, Some, nat_le, nat_lt, ◌==◌, slice_get, if◌then◌else◌}
use Rattle.std.proofs.lemmas.Bool.Decides.{nat_tests}
use Rattle.cjc_range.specs.Words.{low_word}
use Rattle.cjc_range.specs.Span.{Span, Holds}
use Rattle.cjc_code.specs.declared.insn.JOp.TheVariants as jop
use Rattle.cjc_script.specs.declared.value.Value.{Value}
use Rattle.cjc_script.specs.declared.value.Value.TheVariants.{Num}
use Rattle.cjc_script.specs.Sorts.{Shape}
use Rattle.cjc_card_semantics.specs.Bytecode.Calculations.{pushed, load_word, load_reference}
use Rattle.cjc_card_semantics.specs.Bytecode.Calculations
use Rattle.cjc_card_semantics.specs.Bytecode.Meanings.{meaning}
use Rattle.cjc_card_semantics.specs.Bytecode.Effects.{Do}
use Rattle.cjc_card_semantics.specs.Bytecode.Effects as narrow
use Rattle.cjc_ncode.specs.declared.narrow.NInsn.{NInsn}
use Rattle.cjc_ncode.specs.declared.narrow.NInsn.TheVariants as insns
use Rattle.cjc_ncode.specs.Written.{Resolution, pushed_word, static_by}
use Rattle.cjc_ncode.specs.ByLabel.{Named, classes, operation}
use Rattle.cjc_jvm_semantics.specs.Linked.{Method, Constant, Linked}
use Rattle.cjc_jvm_semantics.specs.Effects.{Store, effect}
use Rattle.cjc_jvm_semantics.specs.Effects as by_name
use Rattle.cjc_narrow_proof.specs.Selection.Relation.{Kind, Range, Refers, Free, Heap, NMemory, Agrees, number, null}
use Rattle.cjc_narrow_proof.specs.Selection.Relation.{object, Stacks, cell, Locals, no_more, local, unused, Stores}
use Rattle.cjc_narrow_proof.specs.Selection.Rows.{HasRoom, Same, RowAgrees, RowOnLocals, goes}
use Rattle.cjc_narrow_proof.specs.Selection.Objects.{class_of}
use Rattle.cjc_narrow_proof.specs.Selection.Cells.{IsConstant}
use Rattle.cjc_narrow_proof.proofs.SelectionLaws.Plain.{RowIs, as_written}
use Rattle.cjc_narrow_proof.proofs.SelectionLaws.Gets.{heights}

module _ (by : Linked) (l : Named) (m : Method) (room at next : ℕ) (ks ls : List Kind) (vs ws : List Value)
    (locals words : List (Option Value)) (store : Store) (memory : NMemory) (stores : Stores l store memory)
    (held : Locals memory.heap ls locals words) (rest : Stacks memory.heap ks vs ws) where
  -- a cell is pushed
  pub push_both : {k : Kind} {v w : Value} → HasRoom (k ∷ ks) m.max_stack room → Agrees memory.heap k v w
      → Same l (k ∷ ks) ls (at + 1) next (by_name.push by m at locals store v vs) (narrow.effect_of_result
      (pushed (w ∷ []) room words ws) next memory)
  push_both {k = k} {v = v} {w = w} roomy agree =
      let h = heights rest in let e = h.by_name in let g = h.narrow in let high = roomy.by_name in let high' =
      roomy.narrow in
      let left : nat_lt (length vs) m.max_stack ≡ true = grind (arith, nat_tests) in
      let right : nat_le (length (w ∷ ws)) room ≡ true = grind (arith, nat_tests) in
      subst (λ b. Same l (k ∷ ks) ls (at + 1) next (by_name.only_if b (by_name.onward by m at locals store (v ∷ vs)))
      (narrow.effect_of_result (pushed (w ∷ []) room words ws) next memory)) (sym left)
      (subst (λ b. Same l (k ∷ ks) ls (at + 1) next (by_name.onward by m at locals store (v ∷ vs))
      (narrow.effect_of_result (if b then Calculations.Fine (w ∷ ws) words else Calculations.Wrong) next memory))
      (sym right)
      (goes (cell agree rest) held stores))

-- ---- constants

module _ (by : Linked) (l : Named) (r : Resolution) (m : Method) where
  null_is : (within : Shape (List ℕ) → Bool) → RowIs by l m jop.Null (insns.Op 0x01) [] (Refers within ∷ [])
  unfolding effect meaning
  null_is within room at next ks ls vs ws locals words store memory roomy stores held rest =
      push_both by l m room at next ks ls vs ws locals words store memory stores held rest roomy null

  pub aconst_null : (within : Shape (List ℕ) → Bool) → RowAgrees by l r m jop.Null [] (Refers within ∷ [])
  aconst_null within = as_written by l r m jop.Null (insns.Op 0x01) [] (Refers within ∷ []) (λ place. refl)
      (null_is within)

-- a word that has no opcode of its own
either_form : (z : ℤ) (b : Bool) → operation (if b then insns.Push 0x10 z else insns.Push 0x11 z)
    ≡ Do (pushed (Num z ∷ []))
unfolding meaning
either_form z true = refl
either_form z false = refl

far_word : (n : ℕ) → nat_le n 5 ≡ false → operation (pushed_word (pos n)) ≡ Do (pushed (Num (pos n) ∷ []))
far_word n e = ap (λ b. operation (if b then insns.Op (0x03 + n) else (if nat_le n 127 then insns.Push 0x10 (pos n)
    else insns.Push 0x11 (pos n)))) e ∙ either_form (pos n) (nat_le n 127)

below_word : (n : ℕ) → (n == 0) ≡ false → operation (pushed_word (negsuc n)) ≡ Do (pushed (Num (negsuc n) ∷ []))
below_word n e = ap (λ b. operation (if b then insns.Op 0x02 else (if nat_le n 127 then insns.Push 0x10 (negsuc n)
    else insns.Push 0x11 (negsuc n)))) e ∙ either_form (negsuc n) (nat_le n 127)

-- the instruction of a word pushes it
pub word_is : (z : ℤ) → operation (pushed_word z) ≡ Do (pushed (Num z ∷ []))
unfolding meaning
word_is (pos zero) = refl
word_is (pos (suc zero)) = refl
word_is (pos (suc (suc zero))) = refl
word_is (pos (suc (suc (suc zero)))) = refl
word_is (pos (suc (suc (suc (suc zero))))) = refl
word_is (pos (suc (suc (suc (suc (suc zero)))))) = refl
word_is (pos (suc (suc (suc (suc (suc (suc n))))))) = far_word (suc (suc (suc (suc (suc (suc n))))))
    (let e : nat_le (suc (suc (suc (suc (suc (suc n)))))) 5 ≡ false = grind (arith, nat_tests) in e)
word_is (negsuc zero) = refl
word_is (negsuc (suc n)) = below_word (suc n) (let e : (suc n == 0) ≡ false = grind (arith, nat_tests) in e)

module _ (by : Linked) (l : Named) (r : Resolution) (m : Method) (z : ℤ) (s : Span) (inside : Holds s z) where
  number_is : RowIs by l m (jop.Number z) (pushed_word (low_word z)) [] (Range s ∷ [])
  unfolding effect
  number_is room at next ks ls vs ws locals words store memory roomy stores held rest =
      subst (λ o. Same l (Range s ∷ ks) ls (at + 1) next (by_name.push by m at locals store (Num z) vs)
      (narrow.effect (classes l) o room next words memory ws)) (sym (word_is (low_word z)))
      (push_both by l m room at next ks ls vs ws locals words store memory stores held rest roomy (number refl inside))

  pub constant : RowAgrees by l r m (jop.Number z) [] (Range s ∷ [])
  constant = as_written by l r m (jop.Number z) (pushed_word (low_word z)) [] (Range s ∷ []) (λ place. refl) number_is

  -- a static field that is a constant
  field_is : (named : MemberId) → by.field (class_of m) named ≡ Some (Constant z)
      → RowIs by l m (jop.Static false named) (pushed_word (low_word z)) [] (Range s ∷ [])
  unfolding effect
  field_is named is room at next ks ls vs ws locals words store memory roomy stores held rest =
      subst (λ o. Same l (Range s ∷ ks) ls (at + 1) next (by_name.static_get by m at locals store o vs)
      (narrow.effect (classes l) (operation (pushed_word (low_word z))) room next words memory ws)) (sym is)
      (number_is room at next ks ls vs ws locals words store memory roomy stores held rest)

  pub constant_field : (named : MemberId) → IsConstant by r m named z → RowAgrees by l r m (jop.Static false named) []
      (Range s ∷ [])
  constant_field named is = as_written by l r m (jop.Static false named) (pushed_word (low_word z)) [] (Range s
      ∷ []) (λ place. ap (static_by r false named) is.narrow) (field_is named is.by_name)

-- ---- locals

-- what a local that is read holds on both sides
pub record Held (heap : Heap) (kind : Kind) (n : ℕ) (locals words : List (Option Value)) : Type 0 where
  pub v : Value
  pub w : Value
  pub by_name : slice_get locals n ≡ Some (Some v)
  pub narrow : slice_get words n ≡ Some (Some w)
  pub agree : Agrees heap kind v w

abbrev pub is_read : Kind → Bool
is_read Free = false
is_read _ = true

pub local_at : {heap : Heap} {ls : List Kind} {locals words : List (Option Value)} (kind : Kind) (n : ℕ)
    → Locals heap ls locals words → slice_get ls n ≡ Some kind → is_read kind ≡ true → Held heap kind n locals words
local_at kind n no_more e r = cc
local_at {heap = heap} kind zero (local {k = k} {v = v} {w = w} a s) e r = let same : k ≡ kind = cc in record {
  v = v;
  w = w;
  by_name = refl;
  narrow = refl;
  agree = subst (λ x. Agrees heap x v w) same a;
}
local_at kind zero (unused s) e r = let same : Free ≡ kind = cc in let f = ap is_read same in cc
local_at kind (suc n) (local a s) e r = let h = local_at kind n s e r in record {
  v = h.v;
  w = h.w;
  by_name = h.by_name;
  narrow = h.narrow;
  agree = h.agree;
}
local_at kind (suc n) (unused s) e r = let h = local_at kind n s e r in record {
  v = h.v;
  w = h.w;
  by_name = h.by_name;
  narrow = h.narrow;
  agree = h.agree;
}

-- the forms for locals 0 to 3, and those for the others, load
number_far : (n : ℕ) → nat_le n 3 ≡ false → operation (if nat_le n 3 then insns.Op (0x1C + n) else insns.Local 0x16 n)
    ≡ Do (load_word n)
unfolding meaning
number_far n e = ap (λ b. operation (if b then insns.Op (0x1C + n) else insns.Local 0x16 n)) e

pub number_load_is : (n : ℕ) → operation (if nat_le n 3 then insns.Op (0x1C + n) else insns.Local 0x16 n)
    ≡ Do (load_word n)
unfolding meaning
number_load_is zero = refl
number_load_is (suc zero) = refl
number_load_is (suc (suc zero)) = refl
number_load_is (suc (suc (suc zero))) = refl
number_load_is (suc (suc (suc (suc n)))) = number_far (suc (suc (suc (suc n))))
    (let e : nat_le (suc (suc (suc (suc n)))) 3 ≡ false = grind (arith, nat_tests) in e)

reference_far : (n : ℕ) → nat_le n 3 ≡ false → operation (if nat_le n 3 then insns.Op (0x18 + n)
    else insns.Local 0x15 n) ≡ Do (load_reference n)
unfolding meaning
reference_far n e = ap (λ b. operation (if b then insns.Op (0x18 + n) else insns.Local 0x15 n)) e

pub reference_load_is : (n : ℕ) → operation (if nat_le n 3 then insns.Op (0x18 + n) else insns.Local 0x15 n)
    ≡ Do (load_reference n)
unfolding meaning
reference_load_is zero = refl
reference_load_is (suc zero) = refl
reference_load_is (suc (suc zero)) = refl
reference_load_is (suc (suc (suc zero))) = refl
reference_load_is (suc (suc (suc (suc n)))) = reference_far (suc (suc (suc (suc n))))
    (let e : nat_le (suc (suc (suc (suc n)))) 3 ≡ false = grind (arith, nat_tests) in e)

-- what is written is one instruction
pub one_insn : {one insn : NInsn} → one ∷ [] ≡ insn ∷ [] → one ≡ insn
one_insn e = cc

module _ (by : Linked) (l : Named) (r : Resolution) (m : Method) (ls : List Kind) (n : ℕ) where
  pub iload : (s : Span) → slice_get ls n ≡ Some (Range s) → RowOnLocals by l r m (jop.Load false n) [] (Range s
      ∷ []) ls ls
  unfolding effect
  iload s has place insn is room at next ks vs ws locals words store memory roomy stores held rest =
      let h = local_at (Range s) n held has refl in
      subst (λ i. Same l (Range s ∷ ks) ls (at + 1) next (by_name.after_load by m at locals store false n vs)
      (narrow.effect (classes l) (operation i) room next words memory ws)) (one_insn is)
      (subst (λ o. Same l (Range s ∷ ks) ls (at + 1) next (by_name.after_load by m at locals store false n vs)
      (narrow.effect (classes l) o room next words memory ws)) (sym (number_load_is n))
      (subst (λ o. Same l (Range s ∷ ks) ls (at + 1) next (by_name.local_value o
      (λ v. by_name.only_if (by_name.is_kind false v) (by_name.push by m at locals store v vs)))
      (narrow.effect (classes l) (Do (load_word n)) room next words memory ws)) (sym h.by_name)
      (subst (λ o. Same l (Range s ∷ ks) ls (at + 1) next (by_name.only_if (by_name.is_kind false h.v)
      (by_name.push by m at locals store h.v vs)) (narrow.effect_of_result (Calculations.set_local o
      (λ v. Calculations.if_so (Calculations.is_number v) (pushed (v ∷ []) room words ws))) next memory))
      (sym h.narrow)
      (by_value h.v h.w h.agree))))
    where
      by_value : (v w : Value) → Agrees memory.heap (Range s) v w
          → Same l (Range s ∷ ks) ls (at + 1) next (by_name.only_if (by_name.is_kind false v)
          (by_name.push by m at locals store v vs)) (narrow.effect_of_result
          (Calculations.if_so (Calculations.is_number w) (pushed (w ∷ []) room words ws)) next memory)
      by_value _ _ (number e h) = push_both by l m room at next ks ls vs ws locals words store memory stores held rest
          roomy (number e h)

  pub aload : (within : Shape (List ℕ) → Bool) → slice_get ls n ≡ Some (Refers within)
      → RowOnLocals by l r m (jop.Load true n) [] (Refers within ∷ []) ls ls
  unfolding effect
  aload within has place insn is room at next ks vs ws locals words store memory roomy stores held rest =
      let h = local_at (Refers within) n held has refl in
      subst (λ i. Same l (Refers within ∷ ks) ls (at + 1) next (by_name.after_load by m at locals store true n vs)
      (narrow.effect (classes l) (operation i) room next words memory ws)) (one_insn is)
      (subst (λ o. Same l (Refers within ∷ ks) ls (at + 1) next (by_name.after_load by m at locals store true n vs)
      (narrow.effect (classes l) o room next words memory ws)) (sym (reference_load_is n))
      (subst (λ o. Same l (Refers within ∷ ks) ls (at + 1) next (by_name.local_value o
      (λ v. by_name.only_if (by_name.is_kind true v) (by_name.push by m at locals store v vs)))
      (narrow.effect (classes l) (Do (load_reference n)) room next words memory ws)) (sym h.by_name)
      (subst (λ o. Same l (Refers within ∷ ks) ls (at + 1) next (by_name.only_if (by_name.is_kind true h.v)
      (by_name.push by m at locals store h.v vs)) (narrow.effect_of_result (Calculations.set_local o
      (λ v. Calculations.if_so (Calculations.is_reference v) (pushed (v ∷ []) room words ws))) next memory))
      (sym h.narrow)
      (by_value h.v h.w h.agree))))
    where
      by_value : (v w : Value) → Agrees memory.heap (Refers within) v w → Same l (Refers within ∷ ks) ls (at + 1) next
          (by_name.only_if (by_name.is_kind true v) (by_name.push by m at locals store v vs)) (narrow.effect_of_result
          (Calculations.if_so (Calculations.is_reference w) (pushed (w ∷ []) room words ws)) next memory)
      by_value _ _ null = push_both by l m room at next ks ls vs ws locals words store memory stores held rest roomy
          null
      by_value _ _ (object thing there e) = push_both by l m room at next ks ls vs ws locals words store memory stores
          held rest roomy (object thing there e)
