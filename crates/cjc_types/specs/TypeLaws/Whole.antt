-- The types that a table knows of: those of its cells.
use Rattle.std.specs.Prelude.{◌⊎◌, ℕ, List}
use Rattle.std.specs.List.{Contains}
use Rattle.cjc_types.specs.declared.cell.Cell.TheVariants.{Refs}
use Rattle.cjc_types.specs.declared.state.Stack.{Stack}
use Rattle.cjc_types.specs.declared.state.Stack.TheVariants.{Cells, Clash}
use Rattle.cjc_types.specs.declared.state.State.{State}

-- a cell of the stack has these types
abbrev pub IsOnStack : List (List ℕ) → Stack → Type 0
IsOnStack types (Cells s) = Contains s (Refs types)
IsOnStack types Clash = ⊥

-- a cell of the state has these types
abbrev pub HasTypes : State → (types : List (List ℕ)) → Type 0
HasTypes x types = IsOnStack types x.stack ⊎ Contains x.locals (Refs types)
