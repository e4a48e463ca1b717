-- Tables of a method that are closed under its instructions, with stacks of any height.
use Rattle.std.specs.Prelude.{◌≡◌, ◌<◌, ℕ, true, List, length, All, slice_get, Option, Some}
use Rattle.std.specs.List.{Contains}
use Rattle.cjc_classfile.specs.declared.tree.Catch.{Catch}
use Rattle.cjc_code.specs.declared.insn.JInsn.{JInsn}
use Rattle.cjc_code.specs.declared.insn.JOp.{JOp}
use Rattle.cjc_fixpoint.specs.Lattice.{IsListOf}
use Rattle.cjc_fixpoint.specs.Tables.{Covers, HasRow}
use Rattle.cjc_types.specs.declared.cell.Cell.{Cell}
use Rattle.cjc_types.specs.declared.state.Stack.{Stack}
use Rattle.cjc_types.specs.declared.state.Stack.TheVariants.{Cells, Clash}
use Rattle.cjc_types.specs.declared.state.State.{State}
use Rattle.cjc_types.specs.Cells.{IsCell, cells}
use Rattle.cjc_types.specs.Steps.{stack_behind, locals_after}
use Rattle.cjc_types.specs.Flow.{Body, entry, place_at, successors, covers, caught, type_flow}

-- cells, however many, or a clash
abbrev pub AreCells : Stack → Type 0
AreCells (Cells s) = All IsCell s
AreCells Clash = Unit {0}

-- a state of a method with so many locals, its stack however high
pub record IsState (max_locals : ℕ) (x : State) : Type 0 where
  pub stack : AreCells x.stack
  pub locals : IsListOf cells max_locals x.locals

-- the stack behind an instruction, however high
abbrev pub whole_stack : JOp → (locals : List Cell) → Stack → Stack
whole_stack op locals Clash = Clash
whole_stack op locals (Cells s) = Cells (stack_behind op locals s)

-- the state behind an instruction, its stack however high
abbrev pub whole_after : JOp → State → State
whole_after op x = record { stack = whole_stack op x.locals x.stack; locals = locals_after op x.locals x.stack }

-- the table reaches the place with a state above this one
abbrev pub Reaches : Body → List (Option State) → (place : ℕ) → State → Type 0
Reaches b rows place x = Covers (type_flow b) rows place x

-- The entry leads to the first instruction, and each instruction that is reached to those that may follow and to its
-- handlers.
pub record IsClosedTable (b : Body) (rows : List (Option State)) : Type 0 where
  pub sized : length rows ≡ length b.insns
  pub states : (place : ℕ) (x : State) → HasRow rows place x → IsState b.max_locals x
  pub first : 0 < length b.insns → Reaches b rows 0 (entry b)
  pub next : (place : ℕ) (x : State) (insn : JInsn) → HasRow rows place x → slice_get b.insns place ≡ Some insn
      → (to : ℕ) → Contains (successors b.insns place insn.op) to → Reaches b rows to (whole_after insn.op x)
  pub handled : (place : ℕ) (x : State) (insn : JInsn) → HasRow rows place x → slice_get b.insns place ≡ Some insn
      → (c : Catch) → Contains b.catches c → covers c insn.at ≡ true → (to : ℕ) → place_at b.insns c.target ≡ Some to
      → Reaches b rows to (caught c x)
