-- Which laid out methods have numbers that the bytes of Method can say, wherever they stand.
use Rattle.std.specs.Prelude.{◌≡◌, ℕ, List, slice_get, Some}
use Rattle.cjc_ncode.specs.Lowering.Naming.{Naming}
use Rattle.cjc_pool.specs.Emit.Emitted.{CanBeWritten, placed_at}
use Rattle.cjc_components.specs.Package.{LaidMethod}

-- each of these methods can be written, wherever it stands
abbrev pub AllWritable : Naming → List LaidMethod → Type 0
AllWritable n ms = (k : ℕ) (m : LaidMethod) → slice_get ms k ≡ Some m → CanBeWritten n (placed_at 0 m.code m.wide)
