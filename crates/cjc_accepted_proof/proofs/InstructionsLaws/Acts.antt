-- The acts of what is written for instructions that name nothing, as they are laid.
use Rattle.std.proofs.Common.{◌≡◌, ℕ, zero, suc, ◌+◌, refl, subst, ◌∙◌, arith, Bool, true, false, List, []}
use Rattle.std.proofs.Common.{◌∷◌, map}
use Rattle.std.specs.Prelude.{◌==◌, nat_le, if◌then◌else◌, ℤ, pos, negsuc}
use Rattle.std.proofs.lemmas.Bool.Decides.{nat_tests}
use Rattle.cjc_types.specs.Bytecode.Jvm as jvm
use Rattle.cjc_check_proof.specs.NCode.Lowering.Naming.{Naming}
use Rattle.cjc_types.specs.Bytecode.declared.insn.JOp.TheVariants as jop
use Rattle.cjc_types.specs.Range.Words.{low_word}
use Rattle.cjc_types.specs.Steps.{shuffled, stack_takes}
use Rattle.cjc_check_proof.specs.NCode.Written.{Resolution, arithmetic, is_byte, on_stack, pushed_word, written}
use Rattle.cjc_check_proof.specs.NCode.declared.narrow.NInsn.{NInsn}
use Rattle.cjc_check_proof.specs.NCode.declared.narrow.NInsn.TheVariants.{Inc, Local, Op, Push}
use Rattle.cjc_verify.specs.CardActs.CardTypes.{ValueType}
use Rattle.cjc_verify.specs.CardActs.Rows.{any_words, calculating}
use Rattle.cjc_verify.specs.CardActs.Rows.{idle, increasing, loading, pushing, row, storing}
use Rattle.cjc_verify.specs.CardSemantics.Bytecode.Effects as letters
use Rattle.cjc_frames.specs.declared.acts.Act.{Act}
use Rattle.cjc_frames.specs.declared.acts.Given.TheVariants.{ANull, ANumber, Operand}
use Rattle.cjc_verify.specs.Pairs.{Pair}
use Rattle.cjc_accepted_proof.specs.Plain.{IsStackOpcode, act_laid, dup, dup2, dup2_x1, dup2_x2, dup_x1, dup_x2}
use Rattle.cjc_accepted_proof.specs.Plain.{letter_moving, pop, pop2, swap}

-- what holds of the first numbers
pub by_four : (P : ℕ → Type 0) → P 0 → P 1 → P 2 → P 3 → (l : ℕ) → nat_le l 3 ≡ true → P l
by_four P a b c d zero e = a
by_four P a b c d (suc zero) e = b
by_four P a b c d (suc (suc zero)) e = c
by_four P a b c d (suc (suc (suc zero))) e = d
by_four P a b c d (suc (suc (suc (suc l)))) e = absurd (grind (arith, nat_tests, e))

pub by_six : (P : ℕ → Type 0) → P 0 → P 1 → P 2 → P 3 → P 4 → P 5 → (l : ℕ) → nat_le l 5 ≡ true → P l
by_six P a b c d f g zero e = a
by_six P a b c d f g (suc zero) e = b
by_six P a b c d f g (suc (suc zero)) e = c
by_six P a b c d f g (suc (suc (suc zero))) e = d
by_six P a b c d f g (suc (suc (suc (suc zero)))) e = f
by_six P a b c d f g (suc (suc (suc (suc (suc zero))))) e = g
by_six P a b c d f g (suc (suc (suc (suc (suc (suc l)))))) e = absurd (grind (arith, nat_tests, e))

module _ (p : Pair) (result : ValueType) (n : Naming) (to : ℕ → ℕ) (at : ℕ) (wide : Bool) where
  -- the act of an instruction where it is laid
  abbrev pub acted : NInsn → Act
  acted insn = act_laid p result n to at wide insn

  pub null_act : acted (Op 0x01) ≡ pushing (ANull ∷ [])
  unfolding row
  null_act = refl

  -- numbers
  small_number : (k : ℕ) → nat_le k 5 ≡ true → acted (Op (0x03 + k)) ≡ pushing (ANumber ∷ [])
  unfolding row
  small_number k e = by_six (λ j. acted (Op (0x03 + j)) ≡ pushing (ANumber ∷ [])) refl refl refl refl refl refl k e

  other_number : (b : Bool) (z : ℤ) → acted (if b then Push 0x10 z else Push 0x11 z) ≡ pushing (ANumber ∷ [])
  unfolding row
  other_number true z = refl
  other_number false z = refl

  minus_one : acted (Op 0x02) ≡ pushing (ANumber ∷ [])
  unfolding row
  minus_one = refl

  pub number_act : (z : ℤ) → acted (pushed_word z) ≡ pushing (ANumber ∷ [])
  number_act (pos k) = by (nat_le k 5) refl
    where
      by : (b : Bool) → nat_le k 5 ≡ b → acted (if b then Op (0x03 + k) else (if nat_le k 127 then Push 0x10 (pos k)
          else Push 0x11 (pos k))) ≡ pushing (ANumber ∷ [])
      by true e = small_number k e
      by false e = other_number (nat_le k 127) (pos k)
  number_act (negsuc k) = by (k == 0)
    where
      by : (b : Bool) → acted (if b then Op 0x02 else (if nat_le k 127 then Push 0x10 (negsuc k)
          else Push 0x11 (negsuc k))) ≡ pushing (ANumber ∷ [])
      by true = minus_one
      by false = other_number (nat_le k 127) (negsuc k)

  -- loads and stores of locals
  pub load_act : (refs : Bool) (l : ℕ) → acted (if nat_le l 3 then Op ((if refs then 0x18 else 0x1C) + l) else Local
      (if refs then 0x15 else 0x16) l) ≡ loading (letter_moving refs) l
  unfolding row
  load_act true l = by (nat_le l 3) refl
    where
      by : (b : Bool) → nat_le l 3 ≡ b → acted (if b then Op (0x18 + l) else Local 0x15 l) ≡ loading letters.Reference l
      by true e = by_four (λ j. acted (Op (0x18 + j)) ≡ loading letters.Reference j) refl refl refl refl l e
      by false e = refl
  load_act false l = by (nat_le l 3) refl
    where
      by : (b : Bool) → nat_le l 3 ≡ b → acted (if b then Op (0x1C + l) else Local 0x16 l) ≡ loading letters.Short l
      by true e = by_four (λ j. acted (Op (0x1C + j)) ≡ loading letters.Short j) refl refl refl refl l e
      by false e = refl

  pub store_act : (refs : Bool) (l : ℕ) → acted (if nat_le l 3 then Op ((if refs then 0x2B else 0x2F) + l) else Local
      (if refs then 0x28 else 0x29) l) ≡ storing (letter_moving refs) l
  unfolding row
  store_act true l = by (nat_le l 3) refl
    where
      by : (b : Bool) → nat_le l 3 ≡ b → acted (if b then Op (0x2B + l) else Local 0x28 l) ≡ storing letters.Reference l
      by true e = by_four (λ j. acted (Op (0x2B + j)) ≡ storing letters.Reference j) refl refl refl refl l e
      by false e = refl
  store_act false l = by (nat_le l 3) refl
    where
      by : (b : Bool) → nat_le l 3 ≡ b → acted (if b then Op (0x2F + l) else Local 0x29 l) ≡ storing letters.Short l
      by true e = by_four (λ j. acted (Op (0x2F + j)) ≡ storing letters.Short j) refl refl refl refl l e
      by false e = refl

  -- iinc, in its short form and its wide one
  pub increase_act : (l : ℕ) (by : ℤ) → acted (Inc (if is_byte by then 0x59 else 0x96) l by) ≡ increasing letters.Short
      l
  unfolding row
  increase_act l by = go (is_byte by)
    where
      go : (b : Bool) → acted (Inc (if b then 0x59 else 0x96) l by) ≡ increasing letters.Short l
      go true = refl
      go false = refl

  -- ineg, i2b, and arithmetic of two operands
  pub negation_act : acted (Op (arithmetic jvm.ineg)) ≡ calculating 1 1
  unfolding row
  negation_act = refl

  pub narrowing_act : acted (Op 0x5B) ≡ calculating 1 1
  unfolding row
  narrowing_act = refl

  pub arithmetic_act : (op : ℕ) → (op == jvm.ineg) ≡ false → acted (Op (arithmetic op)) ≡ calculating 2 1
  unfolding row
  arithmetic_act op other = go (op == jvm.iadd) (op == jvm.isub) (op == jvm.imul) (op == jvm.idiv) (op == jvm.irem)
      (op == jvm.ineg) other (op == jvm.ishl) (op == jvm.ishr) (op == jvm.iushr) (op == jvm.iand) (op == jvm.ior)
    where
      go : (a b c d e f : Bool) → f ≡ false → (g h i j k : Bool) → acted (Op (if a then 0x41 else (if b then 0x43
          else (if c then 0x45 else (if d then 0x47 else (if e then 0x49 else (if f then 0x4B else (if g then 0x4D
          else (if h then 0x4F else (if i then 0x51 else (if j then 0x53 else (if k then 0x55 else 0x57))))))))))))
          ≡ calculating 2 1
      go true b c d e f none g h i j k = refl
      go false true c d e f none g h i j k = refl
      go false false true d e f none g h i j k = refl
      go false false false true e f none g h i j k = refl
      go false false false false true f none g h i j k = refl
      go false false false false false true none g h i j k = absurd cc
      go false false false false false false none true h i j k = refl
      go false false false false false false none false true i j k = refl
      go false false false false false false none false false true j k = refl
      go false false false false false false none false false false true k = refl
      go false false false false false false none false false false false true = refl
      go false false false false false false none false false false false false = refl

  -- the stack's instructions put back the operands that those of the class file put back
  pub pop_act : acted (on_stack jvm.pop) ≡ record idle { takes = any_words 1; gives = map Operand [] }
  unfolding row
  pop_act = refl

  pub pop2_act : acted (on_stack jvm.pop2) ≡ record idle { takes = any_words 2; gives = map Operand [] }
  unfolding row
  pop2_act = refl

  pub dup_act : acted (on_stack jvm.dup) ≡ record idle { takes = any_words 1; gives = map Operand (0 ∷ 0 ∷ []) }
  unfolding row
  dup_act = refl

  pub dup2_act : acted (on_stack jvm.dup2) ≡ record idle {
    takes = any_words 2;
    gives = map Operand (0 ∷ 1 ∷ 0 ∷ 1 ∷ []);
  }
  unfolding row
  dup2_act = refl

  pub dup_x1_act : acted (on_stack jvm.dup_x1) ≡ record idle {
    takes = any_words 2;
    gives = map Operand (0 ∷ 1 ∷ 0 ∷ []);
  }
  unfolding row
  dup_x1_act = refl

  pub dup_x2_act : acted (on_stack jvm.dup_x2) ≡ record idle {
    takes = any_words 3;
    gives = map Operand (0 ∷ 1 ∷ 2 ∷ 0 ∷ []);
  }
  unfolding row
  dup_x2_act = refl

  pub dup2_x1_act : acted (on_stack jvm.dup2_x1) ≡ record idle {
    takes = any_words 3;
    gives = map Operand (0 ∷ 1 ∷ 2 ∷ 0 ∷ 1 ∷ []);
  }
  unfolding row
  dup2_x1_act = refl

  pub dup2_x2_act : acted (on_stack jvm.dup2_x2) ≡ record idle {
    takes = any_words 4;
    gives = map Operand (0 ∷ 1 ∷ 2 ∷ 3 ∷ 0 ∷ 1 ∷ []);
  }
  unfolding row
  dup2_x2_act = refl

  pub swap_act : acted (on_stack jvm.swap) ≡ record idle { takes = any_words 2; gives = map Operand (1 ∷ 0 ∷ []) }
  unfolding row
  swap_act = refl

  -- ---- of what is written

  -- the one instruction that is written has this act
  abbrev IsActOf : List NInsn → Act → Type 0
  IsActOf insns a = (insn : NInsn) → insns ≡ insn ∷ [] → act_laid p result n to at wide insn ≡ a

  one_act : (x : NInsn) (a : Act) → acted x ≡ a → IsActOf (x ∷ []) a
  one_act x a e insn f = let same : x ≡ insn = cc in subst (λ (y : NInsn). acted y ≡ a) same e

  module _ (r : Resolution) (place : ℕ → ℕ) where
    pub null_written : IsActOf (written r place jop.Null) (pushing (ANull ∷ []))
    null_written = one_act (Op 0x01) (pushing (ANull ∷ [])) null_act

    pub number_written : (z : ℤ) → IsActOf (written r place (jop.Number z)) (pushing (ANumber ∷ []))
    number_written z = one_act (pushed_word (low_word z)) (pushing (ANumber ∷ [])) (number_act (low_word z))

    pub load_written : (refs : Bool) (l : ℕ) → IsActOf (written r place (jop.Load refs l)) (loading (letter_moving refs)
        l)
    load_written true l = one_act (if nat_le l 3 then Op (0x18 + l) else Local 0x15 l) (loading letters.Reference l)
        (load_act true l)
    load_written false l = one_act (if nat_le l 3 then Op (0x1C + l) else Local 0x16 l) (loading letters.Short l)
        (load_act false l)

    pub store_written : (refs : Bool) (l : ℕ) → IsActOf (written r place (jop.Store refs l)) (storing (letter_moving
        refs) l)
    store_written true l = one_act (if nat_le l 3 then Op (0x2B + l) else Local 0x28 l) (storing letters.Reference l)
        (store_act true l)
    store_written false l = one_act (if nat_le l 3 then Op (0x2F + l) else Local 0x29 l) (storing letters.Short l)
        (store_act false l)

    pub increase_written : (l : ℕ) (by : ℤ) → IsActOf (written r place (jop.Inc l by)) (increasing letters.Short l)
    increase_written l by = one_act (Inc (if is_byte by then 0x59 else 0x96) l by) (increasing letters.Short l)
        (increase_act l by)

    pub negation_written : IsActOf (written r place (jop.Arith jvm.ineg)) (calculating 1 1)
    negation_written = one_act (Op (arithmetic jvm.ineg)) (calculating 1 1) negation_act

    pub arithmetic_written : (op : ℕ) → (op == jvm.ineg) ≡ false → IsActOf (written r place (jop.Arith op)) (calculating
        2 1)
    arithmetic_written op other = one_act (Op (arithmetic op)) (calculating 2 1) (arithmetic_act op other)

    pub narrowing_written : IsActOf (written r place (jop.Narrow jvm.i2b)) (calculating 1 1)
    narrowing_written = one_act (Op 0x5B) (calculating 1 1) narrowing_act

    -- of the stack's instructions
    pub stack_written : (op : ℕ) → IsStackOpcode op → IsActOf (written r place (jop.Stack op)) (record idle {
      takes = any_words (stack_takes op);
      gives = map Operand (shuffled op);
    })
    stack_written op pop = one_act (on_stack jvm.pop) _ pop_act
    stack_written op pop2 = one_act (on_stack jvm.pop2) _ pop2_act
    stack_written op dup = one_act (on_stack jvm.dup) _ dup_act
    stack_written op dup_x1 = one_act (on_stack jvm.dup_x1) _ dup_x1_act
    stack_written op dup_x2 = one_act (on_stack jvm.dup_x2) _ dup_x2_act
    stack_written op dup2 = one_act (on_stack jvm.dup2) _ dup2_act
    stack_written op dup2_x1 = one_act (on_stack jvm.dup2_x1) _ dup2_x1_act
    stack_written op dup2_x2 = one_act (on_stack jvm.dup2_x2) _ dup2_x2_act
    stack_written op swap = one_act (on_stack jvm.swap) _ swap_act
