-- The names that a method's cells may have.
use Rattle.std.specs.Prelude.{◌≡◌, ℕ, List, [], ◌∷◌, slice_get, Some}
use Rattle.std.specs.List.{Contains}
use Rattle.cjc_classfile.specs.declared.tree.Catch.{Catch}
use Rattle.cjc_code.specs.declared.insn.JInsn.{JInsn}
use Rattle.cjc_types.specs.declared.cell.Cell.{Cell}
use Rattle.cjc_types.specs.declared.cell.Cell.TheVariants.{Number, Refs, Unusable}
use Rattle.cjc_types.specs.declared.state.Stack.{Stack}
use Rattle.cjc_types.specs.declared.state.Stack.TheVariants.{Cells, Clash}
use Rattle.cjc_types.specs.declared.state.State.{State}
use Rattle.cjc_types.specs.Names.{In, IsWithin}
use Rattle.cjc_types.specs.Types.{held}
use Rattle.cjc_types.specs.Steps.{gives}
use Rattle.cjc_types.specs.Flow.{Body, arguments, caught_type}

-- each type of the cell is one of these
abbrev pub IsAmong : List (List ℕ) → Cell → Type 0
IsAmong names Number = Unit {0}
IsAmong names (Refs types) = IsWithin types names
IsAmong names Unusable = Unit {0}

-- each type of each of the cells is one of these
abbrev pub AreAmong : List (List ℕ) → List Cell → Type 0
AreAmong names [] = Unit {0}
AreAmong names (x ∷ xs) = IsAmong names x × AreAmong names xs

-- each type of the stack's cells is one of these; a clash has none
abbrev pub IsStackAmong : List (List ℕ) → Stack → Type 0
IsStackAmong names (Cells s) = AreAmong names s
IsStackAmong names Clash = Unit {0}

-- each type of the stack's cells and of the locals is one of these
abbrev pub IsStateAmong : List (List ℕ) → State → Type 0
IsStateAmong names x = IsStackAmong names x.stack × AreAmong names x.locals

-- The names are those of a method: of its arguments, of what its instructions give, of what it catches, and of the
-- elements of their arrays.
pub record HasNames (names : List (List ℕ)) (b : Body) : Type 0 where
  pub arguments : AreAmong names (arguments b)
  pub given : (place : ℕ) (insn : JInsn) → slice_get b.insns place ≡ Some insn → AreAmong names (gives insn.op [] [])
  pub caught : (c : Catch) → Contains b.catches c → In (caught_type c.class) names
  pub held : (n m : List ℕ) → In n names → held n ≡ Some m → In m names
