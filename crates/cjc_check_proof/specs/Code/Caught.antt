-- Handlers of a package's methods that can stand in the table.
use Rattle.std.specs.Prelude.{◌≡◌, ℕ, List, length, slice_get, Some}
use Rattle.cjc_pool.specs.Layout.Handlers.{AllLie}
use Rattle.cjc_components.specs.Package.{LaidMethod}

-- the bounds and the targets of the handlers of each of these methods are places of its code
abbrev pub HandlersLie : List LaidMethod → Type 0
HandlersLie ms = (k : ℕ) (m : LaidMethod) → slice_get ms k ≡ Some m
    → (let code = m.code in AllLie (length code.insns) code.catches)
