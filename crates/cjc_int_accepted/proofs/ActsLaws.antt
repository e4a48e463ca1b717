-- What the instructions take and give that are written in int mode and name nothing, as they are laid.
use Rattle.std.proofs.Common.{◌≡◌, ℕ, ◌+◌, refl, subst, Bool, true, false, [], ◌∷◌}
use Rattle.std.specs.Prelude.{◌==◌, nat_le, if◌then◌else◌, ℤ, pos, negsuc}
use Rattle.cjc_types.specs.Bytecode.Jvm as jvm
use Rattle.cjc_check_proof.specs.NCode.Lowering.Naming.{Naming}
use Rattle.cjc_ncode.specs.IntCode.IntCode.{loads, pushed, stores}
use Rattle.cjc_check_proof.specs.NCode.Written.{arithmetic, is_byte}
use Rattle.cjc_check_proof.specs.NCode.declared.narrow.NInsn.{NInsn}
use Rattle.cjc_check_proof.specs.NCode.declared.narrow.NInsn.TheVariants.{Inc, Local, Op, Push}
use Rattle.cjc_verify.specs.CardActs.CardTypes.{ValueType}
use Rattle.cjc_verify.specs.CardActs.Rows.{calculating, increasing, loading, pushing, row, storing}
use Rattle.cjc_verify.specs.CardSemantics.Bytecode.Effects as letters
use Rattle.cjc_frames.specs.declared.acts.Act.{Act}
use Rattle.cjc_frames.specs.declared.acts.Given.TheVariants.{ANumber}
use Rattle.cjc_verify.specs.Pairs.{Pair}
use Rattle.cjc_accepted_proof.specs.Plain.{act_laid}
use Rattle.cjc_accepted_proof.proofs.InstructionsLaws.Acts.{by_four, by_six}
use Rattle.cjc_int_accepted.specs.Acts.{letter_of_local}

module _ (p : Pair) (result : ValueType) (n : Naming) (to : ℕ → ℕ) (at : ℕ) (wide : Bool) where
  -- the act of an instruction where it is laid
  abbrev pub acted : NInsn → Act
  acted insn = act_laid p result n to at wide insn

  -- ---- numbers

  small : (k : ℕ) → nat_le k 5 ≡ true → acted (Op (0x0A + k)) ≡ pushing (ANumber ∷ ANumber ∷ [])
  unfolding row
  small k e = by_six (λ j. acted (Op (0x0A + j)) ≡ pushing (ANumber ∷ ANumber ∷ [])) refl refl refl refl refl refl k e

  other : (b c : Bool) (z : ℤ) → acted (if b then Push 0x12 z else (if c then Push 0x13 z else Push 0x14 z)) ≡ pushing
      (ANumber ∷ ANumber ∷ [])
  unfolding row
  other true c z = refl
  other false true z = refl
  other false false z = refl

  minus_one : acted (Op 0x09) ≡ pushing (ANumber ∷ ANumber ∷ [])
  unfolding row
  minus_one = refl

  pub number_act : (z : ℤ) → acted (pushed z) ≡ pushing (ANumber ∷ ANumber ∷ [])
  number_act (pos k) = by (nat_le k 5) refl
    where
      by : (b : Bool) → nat_le k 5 ≡ b → acted (if b then Op (0x0A + k) else (if nat_le k 127 then Push 0x12 (pos k)
          else (if nat_le k 32767 then Push 0x13 (pos k) else Push 0x14 (pos k)))) ≡ pushing (ANumber ∷ ANumber ∷ [])
      by true e = small k e
      by false e = other (nat_le k 127) (nat_le k 32767) (pos k)
  number_act (negsuc k) = by (k == 0)
    where
      by : (b : Bool) → acted (if b then Op 0x09 else (if nat_le k 127 then Push 0x12 (negsuc k)
          else (if nat_le k 32767 then Push 0x13 (negsuc k) else Push 0x14 (negsuc k)))) ≡ pushing (ANumber ∷ ANumber ∷
          [])
      by true = minus_one
      by false = other (nat_le k 127) (nat_le k 32767) (negsuc k)

  -- ---- locals

  pub load_act : (refs : Bool) (l : ℕ) → acted (if nat_le l 3 then Op ((if refs then 0x18 else 0x20) + l) else Local
      (if refs then 0x15 else 0x17) l) ≡ loading (letter_of_local refs) l
  unfolding row
  load_act true l = by (nat_le l 3) refl
    where
      by : (b : Bool) → nat_le l 3 ≡ b → acted (if b then Op (0x18 + l) else Local 0x15 l) ≡ loading letters.Reference l
      by true e = by_four (λ j. acted (Op (0x18 + j)) ≡ loading letters.Reference j) refl refl refl refl l e
      by false e = refl
  load_act false l = by (nat_le l 3) refl
    where
      by : (b : Bool) → nat_le l 3 ≡ b → acted (if b then Op (0x20 + l) else Local 0x17 l) ≡ loading letters.Int l
      by true e = by_four (λ j. acted (Op (0x20 + j)) ≡ loading letters.Int j) refl refl refl refl l e
      by false e = refl

  pub store_act : (refs : Bool) (l : ℕ) → acted (if nat_le l 3 then Op ((if refs then 0x2B else 0x33) + l) else Local
      (if refs then 0x28 else 0x2A) l) ≡ storing (letter_of_local refs) l
  unfolding row
  store_act true l = by (nat_le l 3) refl
    where
      by : (b : Bool) → nat_le l 3 ≡ b → acted (if b then Op (0x2B + l) else Local 0x28 l) ≡ storing letters.Reference l
      by true e = by_four (λ j. acted (Op (0x2B + j)) ≡ storing letters.Reference j) refl refl refl refl l e
      by false e = refl
  store_act false l = by (nat_le l 3) refl
    where
      by : (b : Bool) → nat_le l 3 ≡ b → acted (if b then Op (0x33 + l) else Local 0x2A l) ≡ storing letters.Int l
      by true e = by_four (λ j. acted (Op (0x33 + j)) ≡ storing letters.Int j) refl refl refl refl l e
      by false e = refl

  pub increase_act : (l : ℕ) (z : ℤ) → acted (Inc (if is_byte z then 0x5A else 0x97) l z) ≡ increasing letters.Int l
  unfolding row
  increase_act l z = go (is_byte z)
    where
      go : (b : Bool) → acted (Inc (if b then 0x5A else 0x97) l z) ≡ increasing letters.Int l
      go true = refl
      go false = refl

  -- ---- arithmetic

  pub negation_act : acted (Op (arithmetic jvm.ineg + 1)) ≡ calculating 2 2
  unfolding row
  negation_act = refl

  pub arithmetic_act : (op : ℕ) → (op == jvm.ineg) ≡ false → acted (Op (arithmetic op + 1)) ≡ calculating 4 2
  unfolding row
  arithmetic_act op two = go (op == jvm.iadd) (op == jvm.isub) (op == jvm.imul) (op == jvm.idiv) (op == jvm.irem)
      (op == jvm.ineg) two (op == jvm.ishl) (op == jvm.ishr) (op == jvm.iushr) (op == jvm.iand) (op == jvm.ior)
    where
      go : (a b c d e f : Bool) → f ≡ false → (g h i j k : Bool) → acted (Op ((if a then 0x41 else (if b then 0x43
          else (if c then 0x45 else (if d then 0x47 else (if e then 0x49 else (if f then 0x4B else (if g then 0x4D
          else (if h then 0x4F else (if i then 0x51 else (if j then 0x53 else (if k then 0x55 else 0x57))))))))))) + 1))
          ≡ calculating 4 2
      go true b c d e f none g h i j k = refl
      go false true c d e f none g h i j k = refl
      go false false true d e f none g h i j k = refl
      go false false false true e f none g h i j k = refl
      go false false false false true f none g h i j k = refl
      go false false false false false true none g h i j k = absurd cc
      go false false false false false false none true h i j k = refl
      go false false false false false false none false true i j k = refl
      go false false false false false false none false false true j k = refl
      go false false false false false false none false false false true k = refl
      go false false false false false false none false false false false true = refl
      go false false false false false false none false false false false false = refl

  -- ---- of what is written

  one_act : (x : NInsn) (a : Act) → acted x ≡ a → (insn : NInsn) → x ∷ [] ≡ insn ∷ [] → act_laid p result n to at wide
      insn
      ≡ a
  one_act x a e insn f = let same : x ≡ insn = cc in subst (λ (y : NInsn). acted y ≡ a) same e

  pub loads_written : (refs : Bool) (word : ℕ) (insn : NInsn) → loads refs word ≡ insn ∷ [] → act_laid p result n to at
      wide
      insn ≡ loading (letter_of_local refs) word
  loads_written true word = one_act (if nat_le word 3 then Op (0x18 + word) else Local 0x15 word) (loading
      letters.Reference
      word) (load_act true word)
  loads_written false word = one_act (if nat_le word 3 then Op (0x20 + word) else Local 0x17 word) (loading letters.Int
      word)
      (load_act false word)

  pub stores_written : (refs : Bool) (word : ℕ) (insn : NInsn) → stores refs word ≡ insn ∷ [] → act_laid p result n to
      at
      wide insn ≡ storing (letter_of_local refs) word
  stores_written true word = one_act (if nat_le word 3 then Op (0x2B + word) else Local 0x28 word) (storing
      letters.Reference word) (store_act true word)
  stores_written false word = one_act (if nat_le word 3 then Op (0x33 + word) else Local 0x2A word) (storing letters.Int
      word) (store_act false word)
