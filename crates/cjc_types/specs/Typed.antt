-- What a table without a broken rule says of each instruction that it reaches.
use Rattle.std.specs.Prelude.{◌≡◌, ◌≤◌, ◌<◌, ℕ, true, false, List, length, slice_get, Option, Some}
use Rattle.std.specs.List.{Contains}
use Rattle.cjc_classfile.specs.declared.tree.Catch.{Catch}
use Rattle.cjc_code.specs.declared.insn.JInsn.{JInsn}
use Rattle.cjc_fixpoint.specs.Tables.{HasRow, Covers}
use Rattle.cjc_fixpoint.specs.Lattice.{IsListOf}
use Rattle.cjc_world.specs.Classes.{Class}
use Rattle.cjc_types.specs.declared.state.State.{State}
use Rattle.cjc_types.specs.declared.table.Frame.{Frame}
use Rattle.cjc_types.specs.declared.table.TypeTable.{TypeTable}
use Rattle.cjc_types.specs.Cells.{cells}
use Rattle.cjc_types.specs.Steps.{operand, takes, stack_behind, after}
use Rattle.cjc_types.specs.Flow.{Body, place_at, successors, covers, caught, type_flow}
use Rattle.cjc_types.specs.Rules.{accepts, has_wrong_local, is_wrong_return}
use Rattle.cjc_types.specs.Tables.{state_of, rows_of}

-- The rows reach the place with a state above this one.
abbrev pub Leads : Body → List (Option State) → (place : ℕ) → State → Type 0
Leads b rows place x = Covers (type_flow b) rows place x

-- The instruction at this place, before which the frame is this one, has what it takes, and hands on what it gives.
pub record IsTyped (w : List Class) (b : Body) (rows : List (Option State)) (place : ℕ) (insn : JInsn) (frame : Frame) :
    Type 0 where
  -- so many locals
  pub locals : IsListOf cells b.max_locals frame.locals
  -- the operands are there, and each is of its kind and class
  pub there : takes insn.op ≤ length frame.stack
  pub operands : (k : ℕ) → k < takes insn.op → accepts w b insn.op k (operand frame.stack k) ≡ true
  -- so is the local that is loaded or changed, and a return is that of the method
  pub local : has_wrong_local insn.op frame.locals ≡ false
  pub result : is_wrong_return b insn.op ≡ false
  -- the stack has its room
  pub room : length frame.stack ≤ b.max_stack
  pub room_behind : length (stack_behind insn.op frame.locals frame.stack) ≤ b.max_stack
  -- those that may follow and the handlers know of it
  pub next : (to : ℕ) → Contains (successors b.insns place insn.op) to
      → Leads b rows to (after insn.op (state_of frame))
  pub handled : (c : Catch) → Contains b.catches c → covers c insn.at ≡ true → (to : ℕ) → place_at b.insns c.target
      ≡ Some to → Leads b rows to (caught c (state_of frame))

-- Each instruction that the table reaches is so.
abbrev pub AreTyped : List Class → Body → TypeTable → Type 0
AreTyped w b table = (place : ℕ) (insn : JInsn) (frame : Frame) → slice_get b.insns place ≡ Some insn
    → HasRow (rows_of b table) place (state_of frame) → IsTyped w b (rows_of b table) place insn frame

-- Each row of these is a frame's state.
abbrev pub AreFrames : List (Option State) → Type 0
AreFrames rows = (place : ℕ) (x : State) → HasRow rows place x → (frame : Frame) × (x ≡ state_of frame)
