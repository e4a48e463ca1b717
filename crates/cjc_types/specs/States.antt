-- What is known of a frame: its operand stack, or that ways with stacks of different heights meet, and its locals.
use Rattle.std.specs.Prelude.{ℕ, suc, ◌*◌, ◌≤◌, ◌==◌, List, length, sum_by, All, nat_le, if◌then◌else◌}
use Rattle.std.specs.List.{AllZip}
use Rattle.cjc_fixpoint.specs.Lattice.{Lattice, joined, lists_of, parts_of}
use Rattle.cjc_types.specs.declared.cell.Cell.{Cell}
use Rattle.cjc_types.specs.declared.state.Stack.{Stack}
use Rattle.cjc_types.specs.declared.state.Stack.TheVariants.{Cells, Clash}
use Rattle.cjc_types.specs.declared.state.State.{State}
use Rattle.cjc_types.specs.Cells.{most_names, IsCell, IsCellBelow, joined_cell, cell_rank, cells}

-- Six cells for each of 65,536 instructions. An instruction adds six at most, so no stack of a least table is as high
-- unless a code has more instructions than its bytes allow.
unfoldable pub most_cells : ℕ
most_cells = 393216

-- a stack of these cells; one that no least table has counts as a clash
abbrev pub stack_of : List Cell → Stack
stack_of xs = if nat_le (length xs) most_cells then Cells xs else Clash

-- cells of the order, no more than a stack of a least table has
pub record IsCellStack (xs : List Cell) : Type 0 where
  pub few : length xs ≤ most_cells
  pub own : All IsCell xs

-- a stack of the order: such cells, or a clash
abbrev pub IsStack : Stack → Type 0
IsStack (Cells xs) = IsCellStack xs
IsStack Clash = Unit {0}

-- a stack as high as these cells, and below them cell by cell; a clash is not
abbrev pub IsBelowCells : List Cell → Stack → Type 0
IsBelowCells ys (Cells xs) = AllZip IsCellBelow xs ys
IsBelowCells ys Clash = ⊥

-- Stacks of one height are ordered cell by cell, and a clash is above every stack.
abbrev pub IsStackAbove : Stack → Stack → Type 0
IsStackAbove (Cells ys) x = IsBelowCells ys x
IsStackAbove Clash x = Unit {0}

-- the first stack is below the second, or the same
abbrev pub IsStackBelow : Stack → Stack → Type 0
IsStackBelow x y = IsStackAbove y x

-- the least stack above both; stacks of unlike heights join to a clash
abbrev pub joined_stack : Stack → Stack → Stack
joined_stack (Cells xs) (Cells ys) = if length xs == length ys then Cells (joined joined_cell xs ys) else Clash
joined_stack (Cells xs) Clash = Clash
joined_stack Clash y = Clash

-- how high a clash stands in the order: above all stacks of cells
abbrev pub clash_rank : ℕ
clash_rank = suc (most_cells * suc most_names)

-- how high a stack stands in the order: the sum of its cells' ranks, or above all for a clash
abbrev pub stack_rank : Stack → ℕ
stack_rank (Cells xs) = sum_by cell_rank xs
stack_rank Clash = clash_rank

-- the stacks as an order with joins of bounded height
abbrev pub stacks : Lattice Stack
stacks = record { Own = IsStack; Below = IsStackBelow; join = joined_stack; rank = stack_rank; height = clash_rank }

-- the states of a method with so many locals
abbrev pub states : ℕ → Lattice State
states max_locals = parts_of stacks (lists_of cells max_locals) (λ (s : State). s.stack) (λ (s : State). s.locals)
    (λ stack locals. record { stack = stack; locals = locals })
