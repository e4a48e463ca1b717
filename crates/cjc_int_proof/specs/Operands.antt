-- Which numbers of class files fit the operands of what is written in int mode, and which instructions name nothing.
use Rattle.std.specs.Int.RustNames.{int_lt}
use Rattle.std.specs.Prelude.{◌≡◌, ℕ, ◌+◌, ◌-◌, ◌<◌, ◌≤◌, ◌^◌, Bool, true, false, List, [], ◌∷◌, length, Some}
use Rattle.std.specs.Prelude.{ℤ, pos, ◌+ℤ◌, ◌-ℤ◌}
use Rattle.cjc_layout.specs.CapRead.Decode.{IsWithin}
use Rattle.cjc_types.specs.Bytecode.declared.insn.JCase.{JCase}
use Rattle.cjc_types.specs.Bytecode.declared.insn.JOp.{JOp}
use Rattle.cjc_types.specs.Bytecode.declared.insn.JOp.TheVariants as jop
use Rattle.cjc_layout.specs.Script.Sorts.{signature_of}
use Rattle.cjc_ncode.specs.declared.narrow.NInsn.{NInsn}
use Rattle.cjc_ncode.specs.declared.narrow.NInsn.TheVariants as insns
use Rattle.cjc_ncode.specs.Written.{Resolution}
use Rattle.cjc_ncode.specs.IntCode.IntCode.{Frame, first_word, nargs, scratch, scratch_pairs_by}

-- four bytes say the number
abbrev pub IsInt : ℤ → Type 0
IsInt z = IsWithin (2 ^ 31) z

-- four bytes say each match, and each is greater than the one before
abbrev pub MatchesRise : List JCase → Type 0
MatchesRise [] = Unit {0}
MatchesRise (c ∷ []) = IsInt c.value
MatchesRise (c ∷ d ∷ cases) = IsInt c.value × (int_lt c.value d.value ≡ true) × MatchesRise (d ∷ cases)

-- a table has a match, and four bytes say its low and its high one
pub record TableFits (low : ℤ) (count : ℕ) : Type 0 where
  pub some : 0 < count
  pub low_fits : IsInt low
  pub high_fits : IsInt ((low +ℤ pos count) -ℤ pos 1)

-- One byte says the first word of a local and each of the scratch pairs of a call, two what is added to a local, four
-- each number that is pushed, and the matches of a switch ascend.
abbrev pub OperandsFit : Frame → Resolution → JOp → Type 0
OperandsFit f r (jop.Number z) = IsInt z
OperandsFit f r (jop.Load refs l) = first_word f l < 256
OperandsFit f r (jop.Store refs l) = first_word f l < 256
OperandsFit f r (jop.Inc l by) = (first_word f l < 256) × IsWithin 32768 by
OperandsFit f r (jop.TableSwitch other low targets) = TableFits low (length targets)
OperandsFit f r (jop.LookupSwitch other cases) = (length cases < 65536) × MatchesRise cases
OperandsFit f r (jop.Static put field) = (z : ℤ) → r.constant field ≡ Some z → IsInt z
OperandsFit f r (jop.Call op method) = scratch f (scratch_pairs_by (signature_of method.desc)) ≤ 256
OperandsFit f r _ = Unit {0}

-- an instruction without the index of a key
abbrev pub names_nothing : NInsn → Bool
names_nothing (insns.Named op key) = false
names_nothing (insns.Interface nargs method) = false
names_nothing (insns.TypeTest op kind class) = false
names_nothing _ = true
