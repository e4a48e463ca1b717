-- Of which types the arrays are whose elements rows read and write.
use Rattle.std.specs.Prelude.{ℕ, List}
use Rattle.cjc_script.specs.Sorts.{Ints, Shape, OfNumbers}

-- arrays of ints
pub data IsInts : Shape (List ℕ) → Type 0 where
  ints_of : IsInts (OfNumbers Ints)
