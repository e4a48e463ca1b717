-- Rule 417: what is written for a method has no room.
use Rattle.std.specs.Prelude.{◌≡◌, ◌<◌, ℕ, ◌+◌, Bool, true, false, List, slice_get, Option, Some}
use Rattle.cjc_flow.specs.LowerFixpoint.Tables.{HasRow}
use Rattle.cjc_flow.specs.LowerTypes.declared.cell.Cell.TheVariants.{Unusable}
use Rattle.cjc_flow.specs.LowerTypes.declared.state.State.{State}
use Rattle.cjc_flow.specs.LowerTypes.Flow.{Body}
use Rattle.cjc_flow.specs.LowerTypes.Search.{cells_of}
use Rattle.cjc_int_mode.specs.declared.modes.Mode.{Mode}
use Rattle.cjc_int_mode.specs.declared.modes.Mode.TheVariants as modes
use Rattle.cjc_int_mode.specs.Written.{argument_words, local_words, stack_words}

-- One byte says each number of words, and in int mode the words of each cell of a stack are known.
pub data LacksRoom (b : Body) (types : List (Option State)) : Mode → Type 0 where
  -- the parameters, with the receiver, need more than 255 words
  many_arguments : {mode : Mode} → 255 < argument_words b → LacksRoom b types mode
  -- a method in int mode needs more than 255 words of arguments and locals together
  many_words : 255 < argument_words b + local_words b types → LacksRoom b types modes.Int
  -- its operand stack needs more than 255 words
  high_stack : 255 < stack_words b → LacksRoom b types modes.Int
  -- a cell of a stack of its least type table is unusable
  an_unusable_cell : (place k : ℕ) (x : State) → HasRow types place x → slice_get (cells_of x.stack) k ≡ Some Unusable
      → LacksRoom b types modes.Int

-- what is answered: whether there is room
abbrev pub IsRoom : Body → List (Option State) → Mode → (has_room : Bool) → Type 0
IsRoom b types mode true = LacksRoom b types mode → ⊥
IsRoom b types mode false = LacksRoom b types mode
