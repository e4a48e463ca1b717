-- Which numbers of a package and of class files fit the operands of narrow instructions.
use Rattle.std.specs.Int.RustNames.{int_lt}
use Rattle.std.specs.List.{Contains}
use Rattle.std.specs.Prelude.{◌≡◌, ℕ, ◌<◌, ◌≤◌, true, List, [], ◌∷◌, length, unwrap_or, Option, Some}
use Rattle.cjc_bytes.specs.declared.fault.MemberId.{MemberId}
use Rattle.cjc_card_semantics.specs.CapRead.Decode.{IsWithin}
use Rattle.cjc_card_semantics.specs.CapRead.Opcodes.{Fields, Form, Index1, form}
use Rattle.cjc_code.specs.declared.insn.JCase.{JCase}
use Rattle.cjc_code.specs.declared.insn.JOp.{JOp}
use Rattle.cjc_code.specs.declared.insn.JOp.TheVariants as jop
use Rattle.cjc_narrow.specs.Keys.Index.{index_of}
use Rattle.cjc_ncode.specs.Lowering.Naming.{Naming}
use Rattle.cjc_ncode.specs.declared.narrow.NInsn.{NInsn}
use Rattle.cjc_ncode.specs.declared.narrow.NInsn.TheVariants as insns
use Rattle.cjc_ncode.specs.declared.narrow.PoolKey.{PoolKey}
use Rattle.cjc_ncode.specs.declared.narrow.PoolKey.TheVariants as keys

-- an index of one byte or of two
abbrev pub IndexFits : Option Form → (index : ℕ) → Type 0
IndexFits (Some (Fields (Index1 ∷ []))) i = i < 256
IndexFits f i = i < 65536

-- The indices, words and tokens of what an instruction names fit its operands.
abbrev pub NumbersFit : Naming → NInsn → Type 0
NumbersFit n (insns.Named op key) = IndexFits (form op) (n.index key)
NumbersFit n (insns.Interface nargs m) = (nargs < 256) × (n.index (keys.Class m.class) < 65536)
    × (n.interface_token m < 256)
NumbersFit n (insns.TypeTest op kind (Some class)) = n.index (keys.Class class) < 65536
NumbersFit n _ = Unit {0}

-- each match is greater than those before
abbrev pub CasesAscend : List JCase → Type 0
CasesAscend [] = Unit {0}
CasesAscend (c ∷ cases) = ((d : JCase) → Contains cases d → int_lt c.value d.value ≡ true) × CasesAscend cases

-- One byte says the local of an instruction of a class file and two what is added to it, and the matches of a
-- lookupswitch ascend.
abbrev pub OperandsFit : JOp → Type 0
OperandsFit (jop.Load refs l) = l < 256
OperandsFit (jop.Store refs l) = l < 256
OperandsFit (jop.Inc l by) = (l < 256) × IsWithin 32768 by
OperandsFit (jop.LookupSwitch other cases) = (length cases < 65536) × CasesAscend cases
OperandsFit _ = Unit {0}

-- A naming has the indices of a pool of at most 16,383 keys, and a byte for the token of each method of an interface.
pub record IsSmall (n : Naming) (pool : List PoolKey) : Type 0 where
  pub few : length pool ≤ 16383
  pub index : (key : PoolKey) → n.index key ≡ unwrap_or (index_of pool key) 0
  pub token : (m : MemberId) → n.interface_token m < 256
