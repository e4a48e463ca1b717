-- Operand stacks of cells of any kind that form an order with joins.
use Rattle.std.specs.Prelude.{ℕ, suc, ◌*◌, ◌≤◌, ◌==◌, List, length, sum_by, All, nat_le, if◌then◌else◌}
use Rattle.std.specs.List.{AllZip}
use Rattle.cjc_fixpoint.specs.Lattice.{Lattice, joined}
use Rattle.cjc_types.specs.States.{most_cells}

-- the cells, the top first, or that ways with stacks of different heights meet
pub data StackOf (Cell : Type 0) : Type 0 where
  Cells : List Cell → StackOf Cell
  Clash : StackOf Cell

-- a stack of these cells; one that is higher than any of a least type table counts as a clash
abbrev pub stack_of : {Cell : Type 0} → List Cell → StackOf Cell
stack_of xs = if nat_le (length xs) most_cells then Cells xs else Clash

module _ {Cell : Type 0} (cells : Lattice Cell) where
  -- no more cells than a type table may have in a stack, each of them an own one
  pub record IsCellStack (xs : List Cell) : Type 0 where
    pub few : length xs ≤ most_cells
    pub own : All cells.Own xs

  -- a stack of such cells, or a clash
  abbrev pub IsStack : StackOf Cell → Type 0
  IsStack (Cells xs) = IsCellStack xs
  IsStack Clash = Unit {0}

  -- The stack has as many cells as there are here, each below the one at its place; a clash is below no cells.
  abbrev pub IsBelowCells : List Cell → StackOf Cell → Type 0
  IsBelowCells ys (Cells xs) = AllZip cells.Below xs ys
  IsBelowCells ys Clash = ⊥

  -- Stacks of one height are ordered cell by cell, and a clash is above every stack.
  abbrev pub IsStackAbove : StackOf Cell → StackOf Cell → Type 0
  IsStackAbove (Cells ys) x = IsBelowCells ys x
  IsStackAbove Clash x = Unit {0}

  -- the order of stacks, the lower one first
  abbrev pub IsStackBelow : StackOf Cell → StackOf Cell → Type 0
  IsStackBelow x y = IsStackAbove y x

  -- the least stack above both; stacks of unlike heights join to a clash
  abbrev pub joined_stack : StackOf Cell → StackOf Cell → StackOf Cell
  joined_stack (Cells xs) (Cells ys) = if length xs == length ys then Cells (joined cells.join xs ys) else Clash
  joined_stack (Cells xs) Clash = Clash
  joined_stack Clash y = Clash

  -- one more than the rank that any stack of cells can have
  abbrev pub clash_rank : ℕ
  clash_rank = suc (most_cells * cells.height)

  -- the ranks of the cells added up; a clash has the highest
  abbrev pub stack_rank : StackOf Cell → ℕ
  stack_rank (Cells xs) = sum_by cells.rank xs
  stack_rank Clash = clash_rank

  -- the stacks of such cells in their order, with their joins
  abbrev pub stacks_of : Lattice (StackOf Cell)
  stacks_of = record {
    Own = IsStack;
    Below = IsStackBelow;
    join = joined_stack;
    rank = stack_rank;
    height = clash_rank;
  }
