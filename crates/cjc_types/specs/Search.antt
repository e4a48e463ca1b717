-- The first broken rule, instruction by instruction.
use Rattle.std.specs.Prelude.{ℕ, ◌+◌, List, [], ◌∷◌, map, Option, Some, None, option_map}
use Rattle.cjc_code.specs.declared.insn.JInsn.{JInsn}
use Rattle.cjc_world.specs.Classes.{Class}
use Rattle.cjc_types.specs.declared.inference.FirstBroken.{FirstBroken}
use Rattle.cjc_types.specs.declared.state.Stack.{Stack}
use Rattle.cjc_types.specs.declared.state.Stack.TheVariants.{Cells, Clash}
use Rattle.cjc_types.specs.declared.state.State.{State}
use Rattle.cjc_types.specs.declared.table.Frame.{Frame}
use Rattle.cjc_types.specs.declared.cell.Cell.{Cell}
use Rattle.cjc_types.specs.Flow.{Body}
use Rattle.cjc_types.specs.Rules.{first_rule}

-- the first rule that an instruction breaks, where it is reached
abbrev pub row_rule : List Class → Body → JInsn → Option State → Option ℕ
row_rule w b insn None = None
row_rule w b insn (Some x) = first_rule w b insn.op x

-- this place with the rule that is broken there, or else what is found later
abbrev pub or_later : Option ℕ → (place : ℕ) → Option FirstBroken → Option FirstBroken
or_later (Some rule) place later = Some (record { place = place; rule = rule })
or_later None place later = later

-- of these instructions and their rows, the first of which has this place
abbrev pub first_from : List Class → Body → (place : ℕ) → List JInsn → List (Option State) → Option FirstBroken
first_from w b place [] rows = None
first_from w b place (insn ∷ insns) [] = None
first_from w b place (insn ∷ insns) (row ∷ rows) = or_later (row_rule w b insn row) place (first_from w b (place + 1)
    insns rows)

-- the cells of a stack; of a clash none
abbrev pub cells_of : Stack → List Cell
cells_of (Cells cells) = cells
cells_of Clash = []

-- the frame with the cells of the state's stack, none for a clash, and its locals
abbrev pub frame_of : State → Frame
frame_of x = record { stack = cells_of x.stack; locals = x.locals }

-- the frame of each place that is reached
abbrev pub frames_of : List (Option State) → List (Option Frame)
frames_of rows = map (option_map frame_of) rows
