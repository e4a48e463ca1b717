-- Classes that have names of their own.
use Rattle.std.specs.Prelude.{◌≡◌, ℕ, List, Some, slice_get, position}
use Rattle.std.specs.Str.{bytes_eq}
use Rattle.cjc_world.specs.Classes.{Class}

-- No class of the list stands behind another one of its name.
abbrev pub HaveOwnNames : List Class → Type 0
HaveOwnNames classes = (k : ℕ) (c : Class) → slice_get classes k ≡ Some c
    → position (λ d. bytes_eq d.name c.name) classes ≡ Some k
