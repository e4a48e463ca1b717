-- Export by the offsets that code holds in rows: where classes, fields and methods stand.
use Rattle.std.specs.Prelude.{ℕ, List, [], unwrap_or, option_map, slice_get}
use Rattle.cjc_components.specs.LowerCapRead.declared.tree.ClassRef.{ClassRef}
use Rattle.cjc_components.specs.LowerCapRead.declared.tree.ClassRef.TheVariants.{Inside, Outside}

-- the offset of a class of the package
abbrev pub offset_in : ClassRef → ℕ
offset_in (Inside offset) = offset
offset_in (Outside file token) = 0

-- that of a class by its number
abbrev pub ref_offset : List ClassRef → (class : ℕ) → ℕ
ref_offset refs n = unwrap_or (option_map offset_in (slice_get refs n)) 0

-- the row of a class
abbrev pub row_at : List (List ℕ) → (class : ℕ) → List ℕ
row_at rows n = unwrap_or (slice_get rows n) []
