-- What inference answers: the least table of a method, or the first rule that it breaks.
use Rattle.std.specs.Prelude.{◌≡◌, ◌⊎◌, ◌<◌, ◌≤◌, ℕ, List, ◌++◌, map, length, slice_get, Option, Some, option_map}
use Rattle.std.specs.Prelude.{Result, Ok, Err}
use Rattle.cjc_bytes.specs.declared.fault.Fault.{Fault}
use Rattle.cjc_bytes.specs.declared.fault.Fault.TheVariants as faults
use Rattle.cjc_bytes.specs.declared.fault.Refusal.{Refusal}
use Rattle.cjc_classfile.specs.Code.{CodeTree}
use Rattle.cjc_classfile.specs.declared.tree.ClassTree.{ClassTree}
use Rattle.cjc_classfile.specs.declared.tree.MethodTree.{MethodTree}
use Rattle.cjc_code.specs.Decoded.{decoding_at}
use Rattle.cjc_bytes.specs.declared.breaks.BrokenAt.{BrokenAt}
use Rattle.cjc_code.specs.declared.insn.JInsn.{JInsn}
use Rattle.cjc_code.specs.declared.method_code.MethodCode.{MethodCode}
use Rattle.cjc_fixpoint.specs.Kept.{StandsForLeast, full}
use Rattle.cjc_fixpoint.specs.Tables.{HasRow, IsLeastClosed}
use Rattle.cjc_world.specs.Classes.{Class}
use Rattle.cjc_world.specs.Files.{Files}
use Rattle.cjc_types.specs.declared.inference.InferError.{InferError}
use Rattle.cjc_types.specs.declared.inference.InferError.TheVariants as errors
use Rattle.cjc_types.specs.declared.state.Stack.TheVariants.{Cells}
use Rattle.cjc_types.specs.declared.state.State.{State}
use Rattle.cjc_types.specs.declared.table.Frame.{Frame}
use Rattle.cjc_types.specs.declared.table.TypeTable.{TypeTable}
use Rattle.cjc_types.specs.Flow.{Body, type_flow}
use Rattle.cjc_types.specs.Marks.{marks_of}
use Rattle.cjc_types.specs.Rules.{Breaks}

-- ---- which method

-- A method of the package with its class, and the instructions that its code is.
pub record IsMethodOf (files : Files) (code : MethodCode) (class : ClassTree) (method : MethodTree) (tree : CodeTree) :
    Type 0 where
  pub is_class : slice_get files.classes code.class ≡ Some class
  pub is_method : slice_get class.methods code.method ≡ Some method
  pub is_code : method.code ≡ Some tree
  pub bytes : length tree.bytes ≤ 65535
  pub insns : decoding_at class code.method ≡ Ok code.insns

-- the code is that of some method of the package
abbrev pub IsOfPackage : Files → MethodCode → Type 0
IsOfPackage files code = (class : ClassTree) × (method : MethodTree) × (tree : CodeTree)
    × IsMethodOf files code class method tree

-- ---- tables

-- the state that a frame stands for, whose stack is no clash
abbrev pub state_of : Frame → State
state_of f = record { stack = Cells f.stack; locals = f.locals }

-- the states that the frames of a table are
abbrev pub states_of : List (Option Frame) → List (Option State)
states_of frames = map (option_map state_of) frames

-- The states before all instructions, which the frames at marked ones stand for: where an instruction has no mark, the
-- state is
-- what the instruction before hands on.
abbrev pub rows_of : Body → TypeTable → List (Option State)
rows_of b table = full (type_flow b) (length b.insns) table.marks (states_of table.frames)

-- the least table that is closed under the instructions of a method
abbrev pub IsLeastTable : Body → List (Option State) → Type 0
IsLeastTable b rows = IsLeastClosed (type_flow b) (length b.insns) rows

-- ---- broken rules

-- The instruction at this place is reached, and breaks the rule.
pub record Breach (w : List Class) (b : Body) (rows : List (Option State)) (place rule : ℕ) : Type 0 where
  pub insn : JInsn
  pub is_insn : slice_get b.insns place ≡ Some insn
  pub state : State
  pub reached : HasRow rows place state
  pub breaks : Breaks w b insn.op state rule

-- No breach stands before this one: at an earlier instruction, or by a lower rule at the same.
pub record FirstBreach (w : List Class) (b : Body) (rows : List (Option State)) (place rule : ℕ) : Type 0 where
  pub breach : Breach w b rows place rule
  pub first : (other_place other_rule : ℕ) → Breach w b rows other_place other_rule → (place < other_place)
      ⊎ ((place ≡ other_place) × (rule ≤ other_rule))

-- ---- what is answered

-- the refusal of a method's code
abbrev pub refusal_in : (file : List ℕ) → ClassTree → MethodTree → BrokenAt → Refusal
refusal_in file class method broken = record {
  rule = record { 0 = broken.rule };
  place = record { file = file; class = class.name; member = method.name ++ method.desc; offset = broken.offset };
}

-- The table has the marked places with their frames and stands for the least one, and no reached instruction breaks a
-- rule.
pub record IsTypeTable (w : List Class) (b : Body) (table : TypeTable) : Type 0 where
  pub marks : table.marks ≡ marks_of b
  pub stands : StandsForLeast (type_flow b) (length b.insns) table.marks (states_of table.frames)
  pub unbroken : (place rule : ℕ) → Breach w b (rows_of b table) place rule → ⊥

-- The rule is that of the first breach of the least table, and the offset that of its instruction.
pub record IsBrokenBy (w : List Class) (b : Body) (broken : BrokenAt) : Type 0 where
  pub rows : List (Option State)
  pub least : IsLeastTable b rows
  pub place : ℕ
  pub first : FirstBreach w b rows place broken.rule
  pub is : broken.offset ≡ first.breach.insn.at

-- The error is the first breach, or that memory ran out.
abbrev pub IsBroken : List Class → Body → InferError → Type 0
IsBroken w b e = (e ≡ errors.NoMemory) ⊎ ((broken : BrokenAt) × IsBrokenBy w b broken × (e ≡ errors.Broken broken))

-- The refusal is that of the first breach.
abbrev pub IsRefusedBy : List Class → (file : List ℕ) → ClassTree → MethodTree → Body → Refusal → Type 0
IsRefusedBy w file class method b r = (broken : BrokenAt) × IsBrokenBy w b broken
    × (r ≡ refusal_in file class method broken)

-- The error is the refusal of the first breach, or that memory ran out.
abbrev pub IsRefused : List Class → (file : List ℕ) → ClassTree → MethodTree → Body → Fault → Type 0
IsRefused w file class method b e = (e ≡ faults.NoMemory) ⊎ ((r : Refusal) × IsRefusedBy w file class method b r
    × (e ≡ faults.Refused r))

-- This is answered unless memory ran out.
abbrev pub IsAnswer : (wanted result : Result TypeTable InferError) → Type 0
IsAnswer wanted result = (result ≡ wanted) ⊎ (result ≡ Err errors.NoMemory)

-- A call answered the least table, or its first breach.
abbrev pub Answers : List Class → Body → Result TypeTable InferError → Type 0
Answers w b (Ok table) = IsTypeTable w b table
Answers w b (Err e) = IsBroken w b e
