-- What the instructions take and give that are written in int mode for an instruction that names nothing: the acts of
-- its row, wherever they are laid.
use Rattle.std.proofs.Common.{◌≡◌, ℕ, suc, ◌+◌, ◌-◌, refl, sym, ap, subst, ◌∙◌, arith, Bool, true, false, List, []}
use Rattle.std.proofs.Common.{◌∷◌, ◌++◌, map, length, Option, Some}
use Rattle.std.specs.Prelude.{◌==◌, nat_le, if◌then◌else◌, ℤ, pos, ◌+ℤ◌, sum_by}
use Rattle.std.proofs.lemmas.Bool.Decides.{nat_tests}
use Rattle.cjc_types.specs.Bytecode.Jvm as jvm
use Rattle.cjc_types.specs.Bytecode.declared.insn.JCase.{JCase}
use Rattle.cjc_types.specs.Bytecode.declared.insn.JOp.TheVariants as jop
use Rattle.cjc_types.specs.Rules.{is_reference}
use Rattle.cjc_types.specs.Steps.{case_target}
use Rattle.cjc_types.specs.declared.cell.Cell.{Cell}
use Rattle.cjc_types.specs.declared.cell.Cell.TheVariants.{Number, Refs, Unusable}
use Rattle.cjc_check_proof.specs.CapRead.Opcodes.{form, forms}
use Rattle.cjc_check_proof.specs.CheckRules.Instructions.{pair_offsets}
use Rattle.cjc_check_proof.specs.NCode.Lowering.Laid.{distance, matches, offsets}
use Rattle.cjc_check_proof.specs.NCode.Lowering.Naming.{Naming}
use Rattle.cjc_check_proof.specs.NCode.Written.{Resolution, condition, pair_case}
use Rattle.cjc_check_proof.specs.NCode.declared.narrow.NInsn.{NInsn}
use Rattle.cjc_check_proof.specs.NCode.declared.narrow.NInsn.TheVariants.{Jump, Op, Switch, Words}
use Rattle.cjc_ncode.specs.IntCode.IntCode.{Before, Frame, dropped, element_read, first_word, guard}
use Rattle.cjc_ncode.specs.IntCode.IntCode.{on_stack, pushed, returned, table_cases, written}
use Rattle.cjc_frames.specs.declared.acts.Act.{Act}
use Rattle.cjc_frames.specs.declared.acts.Given.TheVariants.{ANull, ANumber}
use Rattle.cjc_frames.specs.declared.acts.Need.TheVariants.{NumberWord, ReferenceWord}
use Rattle.cjc_verify.specs.CardActs.CardTypes.{ValueType, needs_of}
use Rattle.cjc_verify.specs.CardActs.CardTypes as types
use Rattle.cjc_verify.specs.CardActs.Rows.{any_words, calculating, copying, increasing, loading, number_words, pushing}
use Rattle.cjc_verify.specs.CardActs.Rows.{row, storing, storing_item, swapping}
use Rattle.cjc_verify.specs.CardSemantics.Bytecode.Effects.{Letter}
use Rattle.cjc_verify.specs.CardSemantics.Bytecode.Effects as letters
use Rattle.cjc_verify.specs.CardSemantics.Bytecode.Meanings.{meaning}
use Rattle.cjc_verify.specs.CardSemantics.Machine.Operations.{moved}
use Rattle.cjc_verify.specs.Pairs.{Pair}
use Rattle.cjc_verify.specs.Script.Sorts.{Sort}
use Rattle.cjc_verify.specs.Script.Sorts as sorts
use Rattle.cjc_accepted_proof.specs.Plain.{act_laid, tested_words}
use Rattle.cjc_accepted_proof.proofs.InstructionsLaws.Acts.{by_six}
use Rattle.cjc_accepted_proof.proofs.InstructionsLaws.Leads.{moved_far}
use Rattle.cjc_accepted_proof.proofs.InstructionsLaws.Named.{IsBranch}
use Rattle.cjc_accepted_proof.proofs.InstructionsLaws.Named as named
use Rattle.cjc_int_accepted.specs.Acts.{dropping, guarding, indexing, letter_of_local, cutting, reading_item, taking}
use Rattle.cjc_int_accepted.specs.Acts.{writing_item}
use Rattle.cjc_int_accepted.specs.Frames.{count_of, words_of}
use Rattle.cjc_int_accepted.specs.Laid.{IsNumberAs, acts_laid, guard_of_store, letter_loaded, letter_stored}
use Rattle.cjc_int_accepted.specs.Laid.{references_in}
use Rattle.cjc_int_accepted.proofs.ActsLaws.{arithmetic_act, increase_act, load_act, negation_act, number_act}
use Rattle.cjc_int_accepted.proofs.ActsLaws.{store_act}

module _ (p : Pair) (result : ValueType) (n : Naming) (to : ℕ → ℕ) (wide : ℕ → Bool) where
  -- the acts of a list where it is laid
  abbrev acted : (here : ℕ) → List NInsn → List Act
  acted here insns = acts_laid p result n to wide here insns

  -- the act of one instruction
  abbrev one : (here : ℕ) → NInsn → Act
  one here insn = act_laid p result n to (to here) (wide here) insn

  pub acted_both : (here : ℕ) (xs ys : List NInsn) → acted here (xs ++ ys) ≡ acted here xs ++ acted (here + length xs)
      ys
  acted_both here [] ys = let same : here ≡ here + 0 = omega arith in ap (λ k. acted k ys) same
  acted_both here (x ∷ xs) ys =
      let same : here + 1 + length xs ≡ here + suc (length xs) = omega arith in
      ap (λ ys. one here x ∷ ys) (acted_both (here + 1) xs ys ∙ ap (λ k. acted (here + 1) xs ++ acted k ys) same)

  pub alone : (here : ℕ) (x : NInsn) (a : Act) → one here x ≡ a → acted here (x ∷ []) ≡ a ∷ []
  alone here x a e = ap (λ y. y ∷ []) e

  -- ---- jumps

  tested : (here label op : ℕ) → IsBranch p result n to (to here) op false false → one here (Jump op label)
      ≡ taking (NumberWord ∷ []) [] true (to label ∷ [])
  tested here label op act = act (wide here) label ∙ ap (λ t. taking (NumberWord ∷ []) [] true (t ∷ [])) (moved_far (to
      here) (to label))

  condition_act : (at k : ℕ) → nat_le k 5 ≡ true → IsBranch p result n to at (0x60 + k) false false
  condition_act at k e = by_six (λ j. IsBranch p result n to at (0x60 + j) false false) (named.ifeq_act p result n to
      at) (named.ifne_act p result n to at) (named.iflt_act p result n to at) (named.ifge_act p result n to at)
      (named.ifgt_act p result n to at) (named.ifle_act p result n to at) k e

  -- ---- elements

  pub guard_acts : (inside : Bool) (here at : ℕ) → acted at (guard inside here) ≡ guarding inside (to (here + 8) ∷ [])
  unfolding row
  guard_acts true here at = refl
  guard_acts false here at = ap (λ (a : Act). copying 2 2 ∷ copying 2 2 ∷ calculating 2 1 ∷ calculating 1 2
      ∷ calculating 4 1 ∷ a ∷ taking (any_words 2) [] true [] ∷ pushing (ANumber ∷ ANumber ∷ []) ∷ calculating 2 1
      ∷ []) (tested (at + 1 + 1 + 1 + 1 + 1) (here + 8) 0x60 (named.ifeq_act p result n to (to (at + 1 + 1 + 1 + 1
      + 1))))

  read_acts : (op at : ℕ) → acted at (element_read op) ≡ reading_item (letter_loaded op)
  unfolding row
  read_acts op at = go (op == jvm.iaload) (op == jvm.aaload) (op == jvm.baload)
    where
      go : (a b c : Bool) → acted at (if a then Op 0x27 ∷ [] else (if b then Op 0x24 ∷ [] else (if c then Op 0x25
          ∷ Op 0x5C ∷ [] else Op 0x26 ∷ Op 0x5C ∷ []))) ≡ reading_item (if a then letters.Int else (if b
          then letters.Reference else (if c then letters.Byte else letters.Short)))
      go true b c = refl
      go false true c = refl
      go false false true = refl
      go false false false = refl

  -- the guard of an index between what swaps the value, with what stands behind it
  around : (inside : Bool) (here : ℕ) (x y z : NInsn) (u v w : Act) → one here x ≡ u → ((at : ℕ) → one at y ≡ v)
      → ((at : ℕ) → one at z ≡ w) → acted here ((x ∷ (guard inside (here + 1) ++ y ∷ [])) ++ z ∷ [])
      ≡ (u ∷ (guarding inside (to (here + 1 + 8) ∷ []) ++ v ∷ [])) ++ w ∷ []
  around inside here x y z u v w e f g =
      let g_acts = guard_acts inside (here + 1) (here + 1) in
      let inner : acted (here + 1) (guard inside (here + 1) ++ y ∷ []) ≡ guarding inside (to (here + 1 + 8) ∷ []) ++ v
      ∷ [] = acted_both (here + 1) (guard inside (here + 1)) (y ∷ []) ∙ ap (λ xs. xs ++ acted (here + 1 + length
      (guard inside (here + 1))) (y ∷ [])) g_acts ∙ ap (λ a. guarding inside (to (here + 1 + 8) ∷ []) ++ a ∷ []) (f
      (here + 1 + length (guard inside (here + 1)))) in
      let first : acted here (x ∷ (guard inside (here + 1) ++ y ∷ [])) ≡ u ∷ (guarding inside (to (here + 1 + 8) ∷ [])
      ++ v ∷ []) = ap (λ a. a ∷ acted (here + 1) (guard inside (here + 1) ++ y ∷ [])) e ∙ ap (λ xs. u ∷ xs) inner in
      acted_both here (x ∷ (guard inside (here + 1) ++ y ∷ [])) (z ∷ [])
      ∙ ap (λ xs. xs ++ acted (here + length (x ∷ (guard inside (here + 1) ++ y ∷ []))) (z ∷ [])) first
      ∙ ap (λ a. (u ∷ (guarding inside (to (here + 1 + 8) ∷ []) ++ v ∷ [])) ++ a ∷ []) (g (here + length (x ∷ (guard
      inside (here + 1) ++ y ∷ []))))

  swap_act : (at : ℕ) → one at (Words 0x40 1 2) ≡ swapping 1 2
  unfolding row
  swap_act at = refl

  swap_two_act : (at : ℕ) → one at (Words 0x40 2 2) ≡ swapping 2 2
  unfolding row
  swap_two_act at = refl

  back_act : (at : ℕ) → one at (Words 0x40 1 1) ≡ swapping 1 1
  unfolding row
  back_act at = refl

  back_two_act : (at : ℕ) → one at (Words 0x40 1 2) ≡ swapping 1 2
  unfolding row
  back_two_act at = refl

  int_item_act : (at : ℕ) → one at (Op 0x3A) ≡ storing_item letters.Int
  unfolding row
  int_item_act at = refl

  reference_item_act : (at : ℕ) → one at (Op 0x37) ≡ storing_item letters.Reference
  unfolding row
  reference_item_act at = refl

  byte_item_act : (at : ℕ) → one at (Op 0x38) ≡ storing_item letters.Byte
  unfolding row
  byte_item_act at = refl

  short_item_act : (at : ℕ) → one at (Op 0x39) ≡ storing_item letters.Short
  unfolding row
  short_item_act at = refl

  cut_act : (at : ℕ) → one at (Op 0x5E) ≡ calculating 2 1
  unfolding row
  cut_act at = refl

  int_store : (inside : Bool) (here : ℕ) → acted here ((Words 0x40 2 2 ∷ (guard inside (here + 1) ++ Words 0x40 1 2
      ∷ [])) ++ Op 0x3A ∷ []) ≡ writing_item letters.Int inside (to (here + 1 + 8) ∷ [])
  int_store inside here = around inside here (Words 0x40 2 2) (Words 0x40 1 2) (Op 0x3A) (swapping 2 2) (swapping 1 2)
      (storing_item letters.Int) (swap_two_act here) back_two_act int_item_act

  one_store : (inside : Bool) (here op : ℕ) (a : Act) → ((at : ℕ) → one at (Op op) ≡ a) → acted here ((Words 0x40 1 2
      ∷ (guard inside (here + 1) ++ Words 0x40 1 1 ∷ [])) ++ Op op ∷ []) ≡ indexing 1 inside (to (here + 1 + 8) ∷ [])
      ++ a ∷ []
  one_store inside here op a e = around inside here (Words 0x40 1 2) (Words 0x40 1 1) (Op op) (swapping 1 2) (swapping 1
      1) a (swap_act here) back_act e

  module _ (f : Frame) (r : Resolution) (place : ℕ → ℕ) (b : Before) (here : ℕ) where
    pub nop_acts : acted here (written f r place b here jop.Nop) ≡ []
    nop_acts = refl

    pub null_acts : acted here (written f r place b here jop.Null) ≡ pushing (ANull ∷ []) ∷ []
    unfolding row
    null_acts = refl

    pub number_acts : (z : ℤ) → acted here (written f r place b here (jop.Number z)) ≡ pushing (ANumber ∷ ANumber ∷ [])
        ∷ []
    number_acts z = alone here (pushed z) (pushing (ANumber ∷ ANumber ∷ [])) (number_act p result n to (to here) (wide
        here) z)

    pub load_acts : (refs : Bool) (l : ℕ) → acted here (written f r place b here (jop.Load refs l)) ≡ loading
        (letter_of_local refs) (first_word f l) ∷ []
    load_acts true l = ap (λ y. y ∷ []) (load_act p result n to (to here) (wide here) true (first_word f l))
    load_acts false l = ap (λ y. y ∷ []) (load_act p result n to (to here) (wide here) false (first_word f l))

    pub store_acts : (refs : Bool) (l : ℕ) → acted here (written f r place b here (jop.Store refs l)) ≡ storing
        (letter_of_local refs) (first_word f l) ∷ []
    store_acts true l = ap (λ y. y ∷ []) (store_act p result n to (to here) (wide here) true (first_word f l))
    store_acts false l = ap (λ y. y ∷ []) (store_act p result n to (to here) (wide here) false (first_word f l))

    pub increase_acts : (l : ℕ) (z : ℤ) → acted here (written f r place b here (jop.Inc l z)) ≡ increasing letters.Int
        (first_word f l) ∷ []
    increase_acts l z = ap (λ y. y ∷ []) (increase_act p result n to (to here) (wide here) (first_word f l) z)

    pub negation_acts : acted here (written f r place b here (jop.Arith jvm.ineg)) ≡ calculating 2 2 ∷ []
    negation_acts = ap (λ y. y ∷ []) (negation_act p result n to (to here) (wide here))

    pub arithmetic_acts : (op : ℕ) → (op == jvm.ineg) ≡ false → acted here (written f r place b here (jop.Arith op))
        ≡ calculating 4 2 ∷ []
    arithmetic_acts op e = ap (λ y. y ∷ []) (arithmetic_act p result n to (to here) (wide here) op e)

    pub narrowing_acts : (op : ℕ) → acted here (written f r place b here (jop.Narrow op)) ≡ calculating 2 1
        ∷ calculating 1 2 ∷ []
    unfolding row
    narrowing_acts op = go (op == jvm.i2b)
      where
        go : (c : Bool) → acted here (Op (if c then 0x5D else 0x5E) ∷ Op 0x5C ∷ []) ≡ calculating 2 1 ∷ calculating 1 2
            ∷ []
        go true = refl
        go false = refl

    pub item_acts : (op : ℕ) → acted here (written f r place b here (jop.ArrayLoad op)) ≡ guarding b.is_index_inside (to
        (here + 8) ∷ []) ++ reading_item (letter_loaded op)
    item_acts op =
        acted_both here (guard b.is_index_inside here) (element_read op)
        ∙ ap (λ xs. xs ++ acted (here + length (guard b.is_index_inside here)) (element_read op)) (guard_acts
        b.is_index_inside here here)
        ∙ ap (λ xs. guarding b.is_index_inside (to (here + 8) ∷ []) ++ xs) (read_acts op (here + length (guard
        b.is_index_inside here)))

    pub item_store_acts : (op : ℕ) → acted here (written f r place b here (jop.ArrayStore op)) ≡ writing_item
        (letter_stored op) b.is_index_inside (to (guard_of_store (letter_stored op) here + 8) ∷ [])
    item_store_acts op = go (op == jvm.iastore) (op == jvm.aastore) (op == jvm.bastore)
      where
        inside : Bool
        inside = b.is_index_inside

        cut : (o : ℕ) (a : Act) → ((at : ℕ) → one at (Op o) ≡ a) → acted here (Op 0x5E ∷ ((Words 0x40 1 2 ∷ (guard
            inside
            (here + 1 + 1) ++ Words 0x40 1 1 ∷ [])) ++ Op o ∷ [])) ≡ calculating 2 1 ∷ (indexing 1 inside (to (here + 1
            + 1 + 8) ∷ []) ++ a ∷ [])
        cut o a e =
            ap (λ x. x ∷ acted (here + 1) ((Words 0x40 1 2 ∷ (guard inside (here + 1 + 1) ++ Words 0x40 1 1 ∷ [])) ++ Op
            o ∷ [])) (cut_act here) ∙ ap (λ xs. calculating 2 1 ∷ xs) (one_store inside (here + 1) o a e)

        go : (x y z : Bool) → acted here (if x then (Words 0x40 2 2 ∷ (guard inside (here + 1) ++ Words 0x40 1 2 ∷ []))
            ++ Op 0x3A ∷ [] else (if y then (Words 0x40 1 2 ∷ (guard inside (here + 1) ++ Words 0x40 1 1 ∷ [])) ++ Op
            0x37 ∷ [] else Op 0x5E ∷ ((Words 0x40 1 2 ∷ (guard inside (here + 1 + 1) ++ Words 0x40 1 1 ∷ [])) ++ Op (if
            z then 0x38 else 0x39) ∷ []))) ≡ (let l : Letter = if x then letters.Int else (if y then letters.Reference
            else (if z then letters.Byte else letters.Short)) in writing_item l inside (to (guard_of_store l here + 8)
            ∷ []))
        go true y z = int_store inside here
        go false true z = one_store inside here 0x37 (storing_item letters.Reference) reference_item_act
        go false false true = cut 0x38 (storing_item letters.Byte) byte_item_act
        go false false false = cut 0x39 (storing_item letters.Short) short_item_act

    -- ---- jumps and switches

    pub number_jump_acts : (op target : ℕ) → nat_le op jvm.ifle ≡ true → acted here (written f r place b here (jop.If op
        target)) ≡ pushing (ANumber ∷ ANumber ∷ []) ∷ calculating 4 1 ∷ taking (NumberWord ∷ []) [] true (to (place
        target) ∷ []) ∷ []
    unfolding row
    number_jump_acts op target e =
        let few : nat_le (op - jvm.ifeq) 5 ≡ true = grind (arith, nat_tests, e) in
        ap (λ (c : Bool). acted here (if c then Op 0x0A ∷ Op 0x5F ∷ Jump (0x60 + (op - jvm.ifeq)) (place target) ∷ []
        else (if nat_le op jvm.if_icmple then Op 0x5F ∷ Jump (0x60 + (op - jvm.if_icmpeq)) (place target) ∷ []
        else Jump (condition op) (place target) ∷ []))) e
        ∙ ap (λ (a : Act). pushing (ANumber ∷ ANumber ∷ []) ∷ calculating 4 1 ∷ a ∷ []) (tested (here + 1 + 1) (place
        target) (0x60 + (op - jvm.ifeq)) (condition_act (to (here + 1 + 1)) (op - jvm.ifeq) few))

    pub numbers_jump_acts : (op target : ℕ) → nat_le op jvm.ifle ≡ false → nat_le op jvm.if_icmple ≡ true → acted here
        (written f r place b here (jop.If op target)) ≡ calculating 4 1 ∷ taking (NumberWord ∷ []) [] true (to (place
        target) ∷ []) ∷ []
    unfolding row
    numbers_jump_acts op target d e =
        let few : nat_le (op - jvm.if_icmpeq) 5 ≡ true = grind (arith, nat_tests, e) in
        ap (λ (c : Bool). acted here (if c then Op 0x0A ∷ Op 0x5F ∷ Jump (0x60 + (op - jvm.ifeq)) (place target) ∷ []
        else (if nat_le op jvm.if_icmple then Op 0x5F ∷ Jump (0x60 + (op - jvm.if_icmpeq)) (place target) ∷ []
        else Jump (condition op) (place target) ∷ []))) d
        ∙ ap (λ (c : Bool). acted here (if c then Op 0x5F ∷ Jump (0x60 + (op - jvm.if_icmpeq)) (place target) ∷ []
        else Jump (condition op) (place target) ∷ [])) e
        ∙ ap (λ (a : Act). calculating 4 1 ∷ a ∷ []) (tested (here + 1) (place target) (0x60 + (op - jvm.if_icmpeq))
        (condition_act (to (here + 1)) (op - jvm.if_icmpeq) few))

    reference_jump : (two : Bool) (op label : ℕ) → IsBranch p result n to (to here) op two true → acted here (Jump op
        label ∷ []) ≡ taking (tested_words two true) [] true (to label ∷ []) ∷ []
    reference_jump two op label act = ap (λ a. a ∷ []) (act (wide here) label ∙ ap (λ t. taking (tested_words two true)
        [] true (t ∷ [])) (moved_far (to here) (to label)))

    pub if_acmpeq_acts : (target : ℕ) → acted here (written f r place b here (jop.If jvm.if_acmpeq target))
        ≡ taking (ReferenceWord ∷ ReferenceWord ∷ []) [] true (to (place target) ∷ []) ∷ []
    if_acmpeq_acts target = reference_jump true 0x68 (place target) (named.if_acmpeq_act p result n to (to here))

    pub if_acmpne_acts : (target : ℕ) → acted here (written f r place b here (jop.If jvm.if_acmpne target))
        ≡ taking (ReferenceWord ∷ ReferenceWord ∷ []) [] true (to (place target) ∷ []) ∷ []
    if_acmpne_acts target = reference_jump true 0x69 (place target) (named.if_acmpne_act p result n to (to here))

    pub ifnull_acts : (target : ℕ) → acted here (written f r place b here (jop.If jvm.ifnull target))
        ≡ taking (ReferenceWord ∷ []) [] true (to (place target) ∷ []) ∷ []
    ifnull_acts target = reference_jump false 0x66 (place target) (named.ifnull_act p result n to (to here))

    pub ifnonnull_acts : (target : ℕ) → acted here (written f r place b here (jop.If jvm.ifnonnull target))
        ≡ taking (ReferenceWord ∷ []) [] true (to (place target) ∷ []) ∷ []
    ifnonnull_acts target = reference_jump false 0x67 (place target) (named.ifnonnull_act p result n to (to here))

    pub goto_acts : (target : ℕ) → acted here (written f r place b here (jop.Goto target)) ≡ taking [] [] false (to
        (place target) ∷ []) ∷ []
    goto_acts target = ap (λ a. a ∷ []) (named.goto_act p result n to (to here) (wide here) (place target)
        ∙ ap (λ t. taking [] [] false (t ∷ [])) (moved_far (to here) (to (place target))))

    table_targets : (low : ℤ) (ts : List ℕ) → map (moved (to here)) (offsets n to (to here) (table_cases place low ts))
        ≡ map (λ t. to (place t)) ts
    table_targets low [] = refl
    table_targets low (t ∷ ts) = ap (λ x. x ∷ map (moved (to here)) (offsets n to (to here) (table_cases place (low
        +ℤ pos 1) ts))) (moved_far (to here) (to (place t))) ∙ ap (λ xs. to (place t) ∷ xs) (table_targets (low
        +ℤ pos 1) ts)

    pair_targets : (cases : List JCase) → map (moved (to here)) (pair_offsets (matches n to (to here) (map (pair_case
        place) cases))) ≡ map (λ t. to (place t)) (map case_target cases)
    pair_targets [] = refl
    pair_targets (c ∷ cases) = ap (λ x. x ∷ map (moved (to here)) (pair_offsets (matches n to (to here) (map (pair_case
        place) cases)))) (moved_far (to here) (to (place c.target))) ∙ ap (λ xs. to (place c.target) ∷ xs) (pair_targets
        cases)

    table_act : (low : ℤ) (other : ℕ) (ts : List ℕ) → one here (Switch 0x74 (place other) low (table_cases place low
        ts))
        ≡ taking (number_words 2) [] false (moved (to here) (distance (to here) (to (place other))) ∷ map (moved (to
        here)) (offsets n to (to here) (table_cases place low ts)))
    unfolding row meaning form forms
    table_act low other ts = refl

    lookup_act : (other : ℕ) (cases : List JCase) → one here (Switch 0x76 (place other) (pos 0) (map (pair_case place)
        cases)) ≡ taking (number_words 2) [] false (moved (to here) (distance (to here) (to (place other))) ∷ map (moved
        (to here)) (pair_offsets (matches n to (to here) (map (pair_case place) cases))))
    unfolding row meaning form forms
    lookup_act other cases = refl

    both_targets : (other : ℕ) (xs ys : List ℕ) → xs ≡ ys → taking (number_words 2) [] false (moved (to here) (distance
        (to here) (to (place other))) ∷ xs) ≡ taking (number_words 2) [] false (to (place other) ∷ ys)
    both_targets other xs ys e = ap (λ t. taking (number_words 2) [] false (t ∷ xs)) (moved_far (to here) (to (place
        other))) ∙ ap (λ ts. taking (number_words 2) [] false (to (place other) ∷ ts)) e

    pub table_acts : (other : ℕ) (low : ℤ) (ts : List ℕ) → acted here (written f r place b here (jop.TableSwitch other
        low ts)) ≡ taking (number_words 2) [] false (map (λ t. to (place t)) (other ∷ ts)) ∷ []
    table_acts other low ts = ap (λ a. a ∷ []) (table_act low other ts ∙ both_targets other (map (moved (to here))
        (offsets n to (to here) (table_cases place low ts))) (map (λ t. to (place t)) ts) (table_targets low ts))

    pub lookup_acts : (other : ℕ) (cases : List JCase) → acted here (written f r place b here (jop.LookupSwitch other
        cases)) ≡ taking (number_words 2) [] false (map (λ t. to (place t)) (other ∷ map case_target cases)) ∷ []
    lookup_acts other cases = ap (λ a. a ∷ []) (lookup_act other cases ∙ both_targets other (map (moved (to here))
        (pair_offsets (matches n to (to here) (map (pair_case place) cases)))) (map (λ t. to (place t)) (map case_target
        cases)) (pair_targets cases))

    -- ---- what ends a method

    pub nothing_acts : result ≡ types.Void → acted here (written f r place b here (jop.Return jvm.return)) ≡ taking []
        [] false [] ∷ []
    unfolding row
    nothing_acts e = ap (λ (t : ValueType). acts_laid p t n to wide here (Op 0x7A ∷ [])) e

    leaving_acts : (s : Sort) (t : ValueType) → IsNumberAs s t → acts_laid p t n to wide here (returned (Some s))
        ≡ cutting t ++ taking (needs_of t) [] false [] ∷ []
    unfolding row
    leaving_acts sorts.Boolean types.Boolean e = refl
    leaving_acts sorts.Byte types.Byte e = refl
    leaving_acts sorts.Short types.Short e = refl
    leaving_acts sorts.Int types.Int e = refl
    leaving_acts s t e = absurd e

    pub number_acts_returned : (s : Sort) → f.result ≡ Some s → IsNumberAs s result → acted here (written f r place b
        here (jop.Return jvm.ireturn)) ≡ cutting result ++ taking (needs_of result) [] false [] ∷ []
    number_acts_returned s e typed = ap (λ o. acted here (returned o)) e ∙ leaving_acts s result typed

    reference_leaves : (type : List ℕ) → acts_laid p (types.Reference type) n to wide here (Op 0x77 ∷ []) ≡ taking
        (needs_of (types.Reference type)) [] false [] ∷ []
    unfolding row
    reference_leaves type = refl

    pub reference_acts_returned : (type : List ℕ) → result ≡ types.Reference type → acted here (written f r place b here
        (jop.Return jvm.areturn)) ≡ cutting result ++ taking (needs_of result) [] false [] ∷ []
    reference_acts_returned type e = subst (λ (t : ValueType). acts_laid p t n to wide here (Op 0x77 ∷ []) ≡ cutting t
        ++ taking (needs_of t) [] false [] ∷ []) (sym e) (reference_leaves type)

    -- ---- the stack

    -- how many words references and numbers have
    abbrev wordy : List Bool → ℕ
    wordy rs = sum_by (λ (q : Bool). if q then 1 else 2) rs

    module _ (card_type : List ℕ → Option (List ℕ)) where
      counted_one : (x : Cell) → length (words_of card_type x) ≡ wordy (is_reference x ∷ [])
      counted_one Number = refl
      counted_one (Refs names) = refl
      counted_one Unusable = refl

      counted : (x : Cell) → count_of card_type (x ∷ []) ≡ wordy (is_reference x ∷ [])
      counted Number = refl
      counted (Refs names) = refl
      counted Unusable = refl

      counted_two : (x y : Cell) → count_of card_type (x ∷ y ∷ []) ≡ wordy (is_reference x ∷ is_reference y ∷ [])
      counted_two Number Number = refl
      counted_two Number (Refs others) = refl
      counted_two Number Unusable = refl
      counted_two (Refs names) Number = refl
      counted_two (Refs names) (Refs others) = refl
      counted_two (Refs names) Unusable = refl
      counted_two Unusable Number = refl
      counted_two Unusable (Refs others) = refl
      counted_two Unusable Unusable = refl

      -- the instructions of the stack by the words of their cells
      abbrev on : (op : ℕ) → List Bool → List Act
      on op rs = acted here (on_stack op rs)

      -- by what is known of the references
      from_references : (op : ℕ) (rs : List Bool) (acts : List Act) → b.references ≡ rs → on op rs ≡ acts → acted here
          (written f r place b here (jop.Stack op)) ≡ acts
      from_references op rs acts e g = ap (on op) e ∙ g

      -- so many words above so many
      abbrev copied_words : (above below : List Cell) → List Act
      copied_words above below = copying (count_of card_type above) (count_of card_type above + count_of card_type
          below) ∷ []

      by_words : (above below : List Cell) → count_of card_type above ≡ wordy (references_in above) → count_of card_type
          below ≡ wordy (references_in below) → copying (wordy (references_in above)) (wordy (references_in above)
          + wordy (references_in below)) ∷ [] ≡ copied_words above below
      by_words above below e g =
          ap (λ k. copying k (k + wordy (references_in below)) ∷ []) (sym e)
          ∙ ap (λ k. copying (count_of card_type above) (count_of card_type above + k) ∷ []) (sym g)

      dup_on : (x : Bool) (rs : List Bool) → on jvm.dup (x ∷ rs) ≡ copying (wordy (x ∷ [])) (wordy (x ∷ []) + 0) ∷ []
      unfolding row
      dup_on true rs = refl
      dup_on false rs = refl

      dup2_on : (x y : Bool) (rs : List Bool) → on jvm.dup2 (x ∷ y ∷ rs) ≡ copying (wordy (x ∷ y ∷ [])) (wordy (x ∷ y
          ∷ []) + 0) ∷ []
      unfolding row
      dup2_on true true rs = refl
      dup2_on true false rs = refl
      dup2_on false true rs = refl
      dup2_on false false rs = refl

      dup_x1_on : (x y : Bool) (rs : List Bool) → on jvm.dup_x1 (x ∷ y ∷ rs) ≡ copying (wordy (x ∷ [])) (wordy (x ∷ [])
          + wordy (y ∷ [])) ∷ []
      unfolding row
      dup_x1_on true true rs = refl
      dup_x1_on true false rs = refl
      dup_x1_on false true rs = refl
      dup_x1_on false false rs = refl

      dup_x2_on : (x y z : Bool) (rs : List Bool) → on jvm.dup_x2 (x ∷ y ∷ z ∷ rs) ≡ copying (wordy (x ∷ [])) (wordy (x
          ∷ []) + wordy (y ∷ z ∷ [])) ∷ []
      unfolding row
      dup_x2_on true true true rs = refl
      dup_x2_on true true false rs = refl
      dup_x2_on true false true rs = refl
      dup_x2_on true false false rs = refl
      dup_x2_on false true true rs = refl
      dup_x2_on false true false rs = refl
      dup_x2_on false false true rs = refl
      dup_x2_on false false false rs = refl

      dup2_x1_on : (x y z : Bool) (rs : List Bool) → on jvm.dup2_x1 (x ∷ y ∷ z ∷ rs) ≡ copying (wordy (x ∷ y ∷ []))
          (wordy (x ∷ y ∷ []) + wordy (z ∷ [])) ∷ []
      unfolding row
      dup2_x1_on true true true rs = refl
      dup2_x1_on true true false rs = refl
      dup2_x1_on true false true rs = refl
      dup2_x1_on true false false rs = refl
      dup2_x1_on false true true rs = refl
      dup2_x1_on false true false rs = refl
      dup2_x1_on false false true rs = refl
      dup2_x1_on false false false rs = refl

      dup2_x2_on : (x y z u : Bool) (rs : List Bool) → on jvm.dup2_x2 (x ∷ y ∷ z ∷ u ∷ rs) ≡ copying (wordy (x ∷ y
          ∷ [])) (wordy (x ∷ y ∷ []) + wordy (z ∷ u ∷ [])) ∷ []
      unfolding row
      dup2_x2_on true true true true rs = refl
      dup2_x2_on true true true false rs = refl
      dup2_x2_on true true false true rs = refl
      dup2_x2_on true true false false rs = refl
      dup2_x2_on true false true true rs = refl
      dup2_x2_on true false true false rs = refl
      dup2_x2_on true false false true rs = refl
      dup2_x2_on true false false false rs = refl
      dup2_x2_on false true true true rs = refl
      dup2_x2_on false true true false rs = refl
      dup2_x2_on false true false true rs = refl
      dup2_x2_on false true false false rs = refl
      dup2_x2_on false false true true rs = refl
      dup2_x2_on false false true false rs = refl
      dup2_x2_on false false false true rs = refl
      dup2_x2_on false false false false rs = refl

      swap_on : (x y : Bool) (rs : List Bool) → on jvm.swap (x ∷ y ∷ rs) ≡ swapping (wordy (x ∷ [])) (wordy (y ∷ []))
          ∷ []
      unfolding row
      swap_on true true rs = refl
      swap_on true false rs = refl
      swap_on false true rs = refl
      swap_on false false rs = refl

      dropped_act : (at : ℕ) (x : Bool) → one at (dropped x) ≡ taking (any_words (wordy (x ∷ []))) [] true []
      unfolding row
      dropped_act at true = refl
      dropped_act at false = refl

      dropping_act : (at : ℕ) (x : Cell) → one at (dropped (is_reference x)) ≡ dropping card_type x
      dropping_act at x = dropped_act at (is_reference x) ∙ ap (λ k. taking (any_words k) [] true []) (sym (counted_one
          x))

      pub pop_acts : (x : Cell) (rest : List Cell) → b.references ≡ references_in (x ∷ rest) → acted here (written f r
          place b here (jop.Stack jvm.pop)) ≡ dropping card_type x ∷ []
      pop_acts x rest e = from_references jvm.pop (references_in (x ∷ rest)) (dropping card_type x ∷ []) e (ap
          (λ a. a ∷ []) (dropping_act here x))

      pub pop2_acts : (x y : Cell) (rest : List Cell) → b.references ≡ references_in (x ∷ y ∷ rest) → acted here
          (written f r place b here (jop.Stack jvm.pop2)) ≡ dropping card_type x ∷ dropping card_type y ∷ []
      pop2_acts x y rest e = from_references jvm.pop2 (references_in (x ∷ y ∷ rest)) (dropping card_type x ∷ dropping
          card_type y ∷ []) e (ap (λ a. a ∷ one (here + 1) (dropped (is_reference y)) ∷ []) (dropping_act here x)
          ∙ ap (λ a. dropping card_type x ∷ a ∷ []) (dropping_act (here + 1) y))

      pub dup_acts : (x : Cell) (rest : List Cell) → b.references ≡ references_in (x ∷ rest) → acted here (written f r
          place b here (jop.Stack jvm.dup)) ≡ copied_words (x ∷ []) []
      dup_acts x rest e = from_references jvm.dup (references_in (x ∷ rest)) (copied_words (x ∷ []) []) e (dup_on
          (is_reference x) (references_in rest) ∙ by_words (x ∷ []) [] (counted x) refl)

      pub dup2_acts : (x y : Cell) (rest : List Cell) → b.references ≡ references_in (x ∷ y ∷ rest) → acted here
          (written f r place b here (jop.Stack jvm.dup2)) ≡ copied_words (x ∷ y ∷ []) []
      dup2_acts x y rest e = from_references jvm.dup2 (references_in (x ∷ y ∷ rest)) (copied_words (x ∷ y ∷ []) []) e
          (dup2_on (is_reference x) (is_reference y) (references_in rest) ∙ by_words (x ∷ y ∷ []) [] (counted_two x y)
          refl)

      pub dup_x1_acts : (x y : Cell) (rest : List Cell) → b.references ≡ references_in (x ∷ y ∷ rest) → acted here
          (written f r place b here (jop.Stack jvm.dup_x1)) ≡ copied_words (x ∷ []) (y ∷ [])
      dup_x1_acts x y rest e = from_references jvm.dup_x1 (references_in (x ∷ y ∷ rest)) (copied_words (x ∷ []) (y
          ∷ [])) e (dup_x1_on (is_reference x) (is_reference y) (references_in rest) ∙ by_words (x ∷ []) (y ∷ [])
          (counted x) (counted y))

      pub dup_x2_acts : (x y z : Cell) (rest : List Cell) → b.references ≡ references_in (x ∷ y ∷ z ∷ rest) → acted here
          (written f r place b here (jop.Stack jvm.dup_x2)) ≡ copied_words (x ∷ []) (y ∷ z ∷ [])
      dup_x2_acts x y z rest e = from_references jvm.dup_x2 (references_in (x ∷ y ∷ z ∷ rest)) (copied_words (x ∷ []) (y
          ∷ z ∷ [])) e (dup_x2_on (is_reference x) (is_reference y) (is_reference z) (references_in rest) ∙ by_words
          (x ∷ []) (y ∷ z ∷ []) (counted x) (counted_two y z))

      pub dup2_x1_acts : (x y z : Cell) (rest : List Cell) → b.references ≡ references_in (x ∷ y ∷ z ∷ rest) → acted
          here (written f r place b here (jop.Stack jvm.dup2_x1)) ≡ copied_words (x ∷ y ∷ []) (z ∷ [])
      dup2_x1_acts x y z rest e = from_references jvm.dup2_x1 (references_in (x ∷ y ∷ z ∷ rest)) (copied_words (x ∷ y
          ∷ []) (z ∷ [])) e (dup2_x1_on (is_reference x) (is_reference y) (is_reference z) (references_in rest)
          ∙ by_words (x ∷ y ∷ []) (z ∷ []) (counted_two x y) (counted z))

      pub dup2_x2_acts : (x y z u : Cell) (rest : List Cell) → b.references ≡ references_in (x ∷ y ∷ z ∷ u ∷ rest)
          → acted here (written f r place b here (jop.Stack jvm.dup2_x2)) ≡ copied_words (x ∷ y ∷ []) (z ∷ u ∷ [])
      dup2_x2_acts x y z u rest e = from_references jvm.dup2_x2 (references_in (x ∷ y ∷ z ∷ u ∷ rest)) (copied_words (x
          ∷ y ∷ []) (z ∷ u ∷ [])) e (dup2_x2_on (is_reference x) (is_reference y) (is_reference z) (is_reference u)
          (references_in rest) ∙ by_words (x ∷ y ∷ []) (z ∷ u ∷ []) (counted_two x y) (counted_two z u))

      pub swap_acts : (x y : Cell) (rest : List Cell) → b.references ≡ references_in (x ∷ y ∷ rest) → acted here
          (written f r place b here (jop.Stack jvm.swap)) ≡ swapping (count_of card_type (x ∷ [])) (count_of card_type
          (y ∷ [])) ∷ []
      swap_acts x y rest e = from_references jvm.swap (references_in (x ∷ y ∷ rest)) (swapping (count_of card_type (x
          ∷ [])) (count_of card_type (y ∷ [])) ∷ []) e (swap_on (is_reference x) (is_reference y) (references_in rest)
          ∙ ap (λ k. swapping k (wordy (is_reference y ∷ [])) ∷ []) (sym (counted x))
          ∙ ap (λ k. swapping (count_of card_type (x ∷ [])) k ∷ []) (sym (counted y)))
