-- What the machine by name does at the instructions of an initialiser.
use Rattle.std.specs.Prelude.{◌≡◌, ℕ, ◌≤◌, List, [], ◌∷◌, ◌++◌, drop, length, map, slice_get, Option, Some}
use Rattle.cjc_bytes.specs.declared.fault.MemberId.{MemberId}
use Rattle.cjc_clinit.specs.Bytecode.declared.insn.JInsn.{JInsn}
use Rattle.cjc_clinit.specs.Bytecode.declared.insn.JOp.{JOp}
use Rattle.cjc_clinit.specs.Bytecode.declared.insn.JOp.TheVariants as jop
use Rattle.cjc_jvm_semantics.specs.LowerScript.declared.value.Value.{Value}
use Rattle.cjc_jvm_semantics.specs.LowerScript.declared.value.Value.TheVariants.{Num, Null, Obj}
use Rattle.cjc_clinit.specs.Fields.{Contents, ANumber, ANull, AnArray}
use Rattle.cjc_clinit.specs.Image.{array_in}
use Rattle.cjc_clinit.specs.Initialiser.{ops_of}
use Rattle.cjc_jvm_semantics.specs.Effects.{Go, Store, effect, values_with}
use Rattle.cjc_jvm_semantics.specs.Linked.{Linked, Method}
use Rattle.cjc_jvm_semantics.specs.OnePackage.{static_array}

-- what the instructions of a method are, from a place on
abbrev pub ops_from : Method → (at : ℕ) → List JOp
ops_from m at = ops_of (drop at m.insns)

-- the most operands that stand on the stack behind an instruction of an initialiser and until the one that puts or
-- stores them: four
-- behind a dup, those of a store into an array
abbrev pub operands_by : JOp → ℕ
operands_by (jop.Stack op) = 4
operands_by (jop.Number z) = 1
operands_by jop.Null = 1
operands_by op = 0

-- there is room for those of each of these
abbrev pub HaveRoomFor : (max_stack : ℕ) → List JOp → Type 0
HaveRoomFor n [] = Unit {0}
HaveRoomFor n (op ∷ ops) = (operands_by op ≤ n) × HaveRoomFor n ops

-- One instruction after another from a place on, by their effects: without a call, an exception, or a change of a
-- local.
pub data Reaches (l : Linked) (m : Method) (locals : List (Option Value)) : (at : ℕ) → (stack : List Value)
    → (before : Store) → (later : ℕ) → (left : List Value) → (after : Store) → Type 0 where
  here : {at : ℕ} {stack : List Value} {store : Store} → Reaches l m locals at stack store at stack store
  goes : {at next later : ℕ} {stack pushed left : List Value} {before mid after : Store} (i : JInsn)
      → slice_get m.insns at ≡ Some i → effect l m at locals before i.op stack ≡ Go next pushed locals mid
      → Reaches l m locals next pushed mid later left after → Reaches l m locals at stack before later left after

-- what a field holds into which this is put, where so many arrays and objects stand in the heap before
abbrev pub value_by : (size : ℕ) → Contents → Value
value_by size (ANumber z) = Num z
value_by size ANull = Null
value_by size (AnArray kind items) = Obj size

-- the heap and the static cells after this is put into a field
abbrev pub store_with : Store → MemberId → Contents → Store
store_with store field contents = record {
  heap = store.heap ++ map static_array (array_in field contents);
  statics = values_with store.statics field (value_by (length store.heap) contents);
}
