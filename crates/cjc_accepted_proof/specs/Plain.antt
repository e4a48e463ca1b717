-- Letters of loads and stores, what a jump takes, and what the act of an instruction is where it is laid.
use Rattle.std.specs.Prelude.{ℕ, Bool, true, false, List, [], ◌∷◌}
use Rattle.cjc_types.specs.Bytecode.Jvm as jvm
use Rattle.cjc_check_proof.specs.NCode.Lowering.Laid.{laid}
use Rattle.cjc_check_proof.specs.NCode.Lowering.Naming.{Naming}
use Rattle.cjc_check_proof.specs.NCode.declared.narrow.NInsn.{NInsn}
use Rattle.cjc_verify.specs.CardActs.CardTypes.{ValueType}
use Rattle.cjc_verify.specs.CardSemantics.Bytecode.Effects.{Letter, Reference, Short}
use Rattle.cjc_frames.specs.declared.acts.Act.{Act}
use Rattle.cjc_frames.specs.declared.acts.Need.{Need}
use Rattle.cjc_frames.specs.declared.acts.Need.TheVariants.{NumberWord, ReferenceWord}
use Rattle.cjc_verify.specs.Instructions.{act}
use Rattle.cjc_verify.specs.Pairs.{Pair}

-- aload and astore move references, iload and istore numbers
abbrev pub letter_moving : (refs : Bool) → Letter
letter_moving true = Reference
letter_moving false = Short

-- a jump tests references or numbers
abbrev pub tested : (references : Bool) → Need
tested true = ReferenceWord
tested false = NumberWord

-- two of them, or one
abbrev pub tested_words : (two references : Bool) → List Need
tested_words true references = tested references ∷ tested references ∷ []
tested_words false references = tested references ∷ []

-- what a narrow instruction takes and gives where it is laid, in a method with this result
abbrev pub act_laid : Pair → (result : ValueType) → Naming → (to : ℕ → ℕ) → (at : ℕ) → (wide : Bool) → NInsn → Act
act_laid p result n to at wide insn = act p result (record { at = at; item = laid n to at wide insn })

-- an opcode of the stack's instructions
pub data IsStackOpcode : ℕ → Type 0 where
  pop : IsStackOpcode jvm.pop
  pop2 : IsStackOpcode jvm.pop2
  dup : IsStackOpcode jvm.dup
  dup_x1 : IsStackOpcode jvm.dup_x1
  dup_x2 : IsStackOpcode jvm.dup_x2
  dup2 : IsStackOpcode jvm.dup2
  dup2_x1 : IsStackOpcode jvm.dup2_x1
  dup2_x2 : IsStackOpcode jvm.dup2_x2
  swap : IsStackOpcode jvm.swap
