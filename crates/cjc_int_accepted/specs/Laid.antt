-- What a list of instructions takes and gives where it is laid, from a label on, and the letters and guards of what is
-- written for elements of arrays.
use Rattle.std.specs.Prelude.{ℕ, ◌+◌, ◌==◌, Bool, List, map, if◌then◌else◌}
use Rattle.cjc_types.specs.Bytecode.Jvm as jvm
use Rattle.cjc_types.specs.declared.cell.Cell.{Cell}
use Rattle.cjc_types.specs.Rules.{is_reference}
use Rattle.cjc_check_proof.specs.NCode.Lowering.Naming.{Naming}
use Rattle.cjc_check_proof.specs.NCode.declared.narrow.NInsn.{NInsn}
use Rattle.cjc_frames.specs.declared.acts.Act.{Act}
use Rattle.cjc_verify.specs.CardActs.CardTypes.{ValueType}
use Rattle.cjc_verify.specs.CardActs.CardTypes as types
use Rattle.cjc_verify.specs.CardSemantics.Bytecode.Effects.{Byte, Int, Letter, Reference, Short}
use Rattle.cjc_verify.specs.Pairs.{Pair}
use Rattle.cjc_verify.specs.Script.Sorts.{Sort}
use Rattle.cjc_verify.specs.Script.Sorts as sorts
use Rattle.cjc_accepted_proof.specs.Coded.{step_laid}
use Rattle.cjc_accepted_proof.specs.Methods.{steps_from}
use Rattle.cjc_int_accepted.specs.Methods.{acts_of}

-- the acts of instructions in a method with this result, whose labels stand at `to`, where these jumps are wide
abbrev pub acts_laid : Pair → (result : ValueType) → Naming → (to : ℕ → ℕ) → (wide : ℕ → Bool) → (here : ℕ)
    → List NInsn → List Act
acts_laid p result n to wide here insns = acts_of (steps_from (step_laid p result n to wide) here insns)

-- ---- elements

-- the letter of what is written for a load of an element
abbrev pub letter_loaded : (op : ℕ) → Letter
letter_loaded op = if op == jvm.iaload then Int else (if op == jvm.aaload then Reference else (if op == jvm.baload
    then Byte else Short))

-- for a store of one
abbrev pub letter_stored : (op : ℕ) → Letter
letter_stored op = if op == jvm.iastore then Int else (if op == jvm.aastore then Reference else (if op == jvm.bastore
    then Byte else Short))

-- the label of the guard of a store: behind what swaps the value, and behind what cuts it
abbrev pub guard_of_store : Letter → (here : ℕ) → ℕ
guard_of_store Reference here = here + 1
guard_of_store Byte here = here + 1 + 1
guard_of_store Short here = here + 1 + 1
guard_of_store Int here = here + 1

-- ---- cells

-- whether each is a reference
abbrev pub references_in : List Cell → List Bool
references_in cells = map is_reference cells

-- ---- results

-- a value of the card's type of numbers is one of a type of numbers
abbrev pub IsNumberAs : Sort → ValueType → Type 0
IsNumberAs sorts.Boolean types.Boolean = Unit {0}
IsNumberAs sorts.Byte types.Byte = Unit {0}
IsNumberAs sorts.Short types.Short = Unit {0}
IsNumberAs sorts.Int types.Int = Unit {0}
IsNumberAs s t = ⊥
