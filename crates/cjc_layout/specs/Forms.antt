-- Narrow instructions whose opcodes are of the form that they stand in, whatever their names mean (Java Card Virtual
-- Machine Specification 2.2.2, chapter 7).
use Rattle.std.specs.Prelude.{◌≡◌, ℕ, List, Option, Some, None, Bool, ℤ}
use Rattle.cjc_ncode.specs.LowerBytes.declared.fault.MemberId.{MemberId}
use Rattle.cjc_ncode.specs.LowerScript.Sorts.{Element}
use Rattle.cjc_ncode.specs.LowerCardSemantics.Bytecode.Calculations.{Calculation, Test}
use Rattle.cjc_ncode.specs.LowerCardSemantics.Bytecode.Meanings.{Plain, Branches, Ranged, Paired, Uses, Casts, Asks}
use Rattle.cjc_ncode.specs.LowerCardSemantics.Bytecode.Meanings.{Use}
use Rattle.cjc_ncode.specs.LowerCardSemantics.Bytecode.Meanings.{meaning}
use Rattle.cjc_ncode.specs.declared.narrow.NCase.{NCase}
use Rattle.cjc_ncode.specs.declared.narrow.NInsn.{NInsn}
use Rattle.cjc_ncode.specs.declared.narrow.NInsn.TheVariants as insns
use Rattle.cjc_ncode.specs.declared.narrow.PoolKey.{PoolKey}
use Rattle.cjc_ncode.specs.Lowering.Laid.{element_number, wide_jump}

-- a type, and whether it needs a class
pub data IsTest : (kind : ℕ) → Option (List ℕ) → Type 0 where
  a_class : {c : List ℕ} → IsTest 0 (Some c)
  numbers : (element : Element) → IsTest (element_number element) None
  references : {c : List ℕ} → IsTest 14 (Some c)

-- An instruction whose opcode means what its form says.
pub data HasForm : NInsn → Type 0 where
  bare : {op : ℕ} → HasForm (insns.Op op)
  push : {op : ℕ} {value : ℤ} {calculation : List ℤ → Calculation} → meaning op ≡ Plain calculation
      → HasForm (insns.Push op value)
  local : {op index : ℕ} {calculation : List ℤ → Calculation} → meaning op ≡ Plain calculation
      → HasForm (insns.Local op index)
  increase : {op index : ℕ} {by : ℤ} {calculation : List ℤ → Calculation} → meaning op ≡ Plain calculation
      → HasForm (insns.Inc op index by)
  words : {op high low : ℕ} {calculation : List ℤ → Calculation} → meaning op ≡ Plain calculation
      → HasForm (insns.Words op high low)
  jump : {op target : ℕ} {test : Test} → meaning op ≡ Branches test → meaning (wide_jump op) ≡ Branches test
      → HasForm (insns.Jump op target)
  range : {op other : ℕ} {low : ℤ} {cases : List NCase} {is_int : Bool} → meaning op ≡ Ranged is_int
      → HasForm (insns.Switch op other low cases)
  lookup : {op other : ℕ} {low : ℤ} {cases : List NCase} {is_int : Bool} → meaning op ≡ Paired is_int
      → HasForm (insns.Switch op other low cases)
  named : {op : ℕ} {key : PoolKey} {how : Use} → meaning op ≡ Uses how → HasForm (insns.Named op key)
  by_interface : {nargs : ℕ} {m : MemberId} → HasForm (insns.Interface nargs m)
  new_array : {kind : ℕ} → HasForm (insns.NewArray kind)
  casts : {op kind : ℕ} {class : Option (List ℕ)} → meaning op ≡ Casts → IsTest kind class
      → HasForm (insns.TypeTest op kind class)
  asks : {op kind : ℕ} {class : Option (List ℕ)} → meaning op ≡ Asks → IsTest kind class
      → HasForm (insns.TypeTest op kind class)
