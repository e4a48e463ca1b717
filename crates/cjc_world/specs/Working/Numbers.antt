-- The index from numbers of look-ups to places in the list, and what it answers.
use Rattle.std.specs.Prelude.{◌≡◌, ℕ, ◌+◌, List, [], ◌∷◌, Bool, not, if◌then◌else◌, Some}
use Rattle.cjc_world.specs.declared.numbers.Numbers.{Numbers}
use Rattle.cjc_world.specs.declared.spot.ClassPlace.{ClassPlace}
use Rattle.cjc_world.specs.Classes.{Class, class_at}

-- of one kind
abbrev pub is_of_kind : (imported : Bool) → Bool → Bool
is_of_kind imported b = if b then imported else not imported

-- the places of the spots of one kind, where so many stand before
unfoldable pub places_of : (imported : Bool) → ℕ → List ClassPlace → List ℕ
places_of imported n [] = []
places_of imported n (s ∷ ss) = if is_of_kind imported s.imported then n ∷ places_of imported (n + 1) ss
    else places_of imported (n + 1) ss

-- the noted places of one kind
abbrev pub places_in : Bool → Numbers → List ℕ
places_in imported n = if imported then n.imported else n.declared

-- A class is the one that a look-up finds by its number.
abbrev pub IsListed : List Class → Class → Type 0
IsListed w c = class_at w c.is_imported c.number ≡ Some c

-- Each of these classes is.
unfoldable pub AreListed : List Class → List Class → Type 0
AreListed w [] = Unit {0}
AreListed w (c ∷ cs) = IsListed w c × AreListed w cs
