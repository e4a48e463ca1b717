-- Cells: their order, and the least cell above two.
use Rattle.std.specs.Prelude.{ℕ, suc, ◌≤◌, List, length, nat_le, if◌then◌else◌}
use Rattle.cjc_fixpoint.specs.Lattice.{Lattice}
use Rattle.cjc_types.specs.declared.cell.Cell.{Cell}
use Rattle.cjc_types.specs.declared.cell.Cell.TheVariants.{Number, Refs, Unusable}
use Rattle.cjc_types.specs.Names.{IsSet, IsWithin, union}

-- A class file has fewer names than 32 bits count, the elements of arrays among them.
unfoldable pub most_names : ℕ
most_names = 4294967295

-- a cell with these types; where 32 bits did not count them it would be unusable
abbrev pub refs : List (List ℕ) → Cell
refs names = if nat_le (length names) most_names then Refs names else Unusable

-- a set of no more names than 32 bits count
pub record IsNameSet (names : List (List ℕ)) : Type 0 where
  pub set : IsSet names
  pub few : length names ≤ most_names

-- a cell of the order: the types of a reference are such a set
abbrev pub IsCell : Cell → Type 0
IsCell Number = Unit {0}
IsCell (Refs names) = IsNameSet names
IsCell Unusable = Unit {0}

-- only a number is below a number
abbrev pub IsBelowNumber : Cell → Type 0
IsBelowNumber Number = Unit {0}
IsBelowNumber (Refs names) = ⊥
IsBelowNumber Unusable = ⊥

-- below a reference are only references, of no other types
abbrev pub IsBelowRefs : List (List ℕ) → Cell → Type 0
IsBelowRefs names Number = ⊥
IsBelowRefs names (Refs less) = IsWithin less names
IsBelowRefs names Unusable = ⊥

-- Sets are ordered by inclusion, and an unusable cell is above every cell.
abbrev pub IsCellAbove : Cell → Cell → Type 0
IsCellAbove Number x = IsBelowNumber x
IsCellAbove (Refs names) x = IsBelowRefs names x
IsCellAbove Unusable x = Unit {0}

-- the first cell is below the second, or the same
abbrev pub IsCellBelow : Cell → Cell → Type 0
IsCellBelow x y = IsCellAbove y x

-- the least cell above both
abbrev pub joined_cell : Cell → Cell → Cell
joined_cell Number Number = Number
joined_cell Number (Refs names) = Unusable
joined_cell Number Unusable = Unusable
joined_cell (Refs names) Number = Unusable
joined_cell (Refs names) (Refs others) = refs (union names others)
joined_cell (Refs names) Unusable = Unusable
joined_cell Unusable y = Unusable

-- how high a cell stands in the order: a reference by the number of its types, an unusable cell above all
abbrev pub cell_rank : Cell → ℕ
cell_rank Number = 0
cell_rank (Refs names) = length names
cell_rank Unusable = suc most_names

-- the cells as an order with joins of bounded height
abbrev pub cells : Lattice Cell
cells = record { Own = IsCell; Below = IsCellBelow; join = joined_cell; rank = cell_rank; height = suc most_names }
