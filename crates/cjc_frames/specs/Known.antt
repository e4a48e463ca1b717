-- What is known of words and stacks as it is kept.
use Rattle.std.specs.Prelude.{List, Option, Some, None}
use Rattle.cjc_types.specs.declared.cell.Cell.{Cell}
use Rattle.cjc_types.specs.declared.cell.Cell.TheVariants as known
use Rattle.cjc_types.specs.declared.state.Stack.{Stack}
use Rattle.cjc_types.specs.declared.state.Stack.TheVariants.{Cells, Clash}
use Rattle.cjc_frames.specs.declared.cells.Word.{Word}
use Rattle.cjc_frames.specs.declared.cells.Word.TheVariants.{Number, Refs, Unusable}

-- what a cell knows
abbrev pub cell_in : Word → Cell
cell_in Number = known.Number
cell_in (Refs types) = known.Refs types
cell_in Unusable = known.Unusable

-- a stack of these cells, or a clash where none is kept
abbrev pub stack_in : Option (List Cell) → Stack
stack_in None = Clash
stack_in (Some cells) = Cells cells
