-- What a world keeps of its classes where no class is its own super, and how it is made, supers first.
use Rattle.std.specs.Prelude.{◌≡◌, ◌⊎◌, ℕ, ◌<◌, ◌≤◌, List, [], ◌∷◌, ◌++◌, length, slice_get, Bool, true, false, ◌&&◌}
use Rattle.std.specs.Prelude.{if◌then◌else◌, Option, Some, None}
use Rattle.std.specs.List.{list_all}
use Rattle.cjc_world.specs.declared.tables.Above.{Above}
use Rattle.cjc_world.specs.declared.tables.Order.{Order}
use Rattle.cjc_world.specs.declared.tables.Order.TheVariants as orders
use Rattle.cjc_world.specs.Classes.{Class}
use Rattle.cjc_world.specs.Supertypes.{Supertypes, End, Unknown, Known, AreSupertypes, IsAcyclic, supertypes, upwards}
use Rattle.cjc_world.specs.Supertypes.{Above as StandsAbove}
use Rattle.cjc_world.specs.Interfaces.{gathered, known}
use Rattle.cjc_world.specs.Working.Places.{place_named, places_of, is_in, joined}

-- The classes in which a field is looked up, in order: each, then those of its interfaces, then those of its supers.
abbrev pub in_field_order : Supertypes → List Class
in_field_order End = []
in_field_order (Unknown name next) = in_field_order next
in_field_order (Known c supers interfaces next) = c ∷ in_field_order interfaces ++ in_field_order supers
    ++ in_field_order next

-- what is kept of a class, of whose name this is the tree
unfoldable pub told : List Class → Supertypes → Above
told w tree = record {
  line = joined [] (places_of w (upwards tree));
  interfaces = joined [] (places_of w (known (gathered false tree)));
  fields = joined [] (places_of w (in_field_order tree));
}

-- No class of this name or above it is its own super.
abbrev pub IsClear : List Class → List ℕ → Type 0
IsClear w x = (z : List ℕ) → (x ≡ z) ⊎ StandsAbove w x z → StandsAbove w z z → ⊥

-- No class is its own super, and of the class of each name is kept what stands above it.
pub record IsTable (w : List Class) (rows : List (Option Above)) : Type 0 where
  pub acyclic : IsAcyclic w
  pub tells : (x : List ℕ) (p : ℕ) → place_named w x ≡ Some p
      → slice_get rows p ≡ Some (Some (told w (supertypes w (x ∷ []))))

-- ---- while it is made

-- one of the lists of what is kept
abbrev pub row_in : Order → Above → List ℕ
row_in orders.Line a = a.line
row_in orders.Interfaces a = a.interfaces
row_in orders.Fields a = a.fields

-- that list of a row, empty where the row is not there
abbrev pub row_at : Order → Option (Option Above) → List ℕ
row_at order None = []
row_at order (Some None) = []
row_at order (Some (Some a)) = row_in order a

-- what a name adds: the list of its class, followed by the class where it is a listed interface
abbrev pub piece : Order → (listed : Bool) → List (Option Above) → Option ℕ → List ℕ
piece order listed rows None = []
piece order listed rows (Some q) = row_at order (slice_get rows q) ++ (if listed then q ∷ [] else [])

-- what these names add, one after the other
unfoldable pub pieces : List Class → Order → (listed : Bool) → List (Option Above) → List (List ℕ) → List ℕ
pieces w order listed rows [] = []
pieces w order listed rows (x ∷ xs) = piece order listed rows (place_named w x) ++ pieces w order listed rows xs

-- what is kept of the class at a place, where it is there for its supers and interfaces
unfoldable pub above_at : List Class → List (Option Above) → ℕ → Class → Above
above_at w rows p c = record {
  line = joined (p ∷ []) (pieces w orders.Line false rows c.supers);
  interfaces = joined (joined [] (pieces w orders.Interfaces false rows c.supers)) (pieces w orders.Interfaces true rows
      c.interfaces);
  fields = joined (joined (p ∷ []) (pieces w orders.Fields false rows c.interfaces)) (pieces w orders.Fields false rows
      c.supers);
}

-- the row is there
abbrev pub is_row : Option (Option Above) → Bool
is_row None = false
is_row (Some None) = false
is_row (Some (Some a)) = true

-- there is no class, or its row is there
abbrev pub is_ready_at : List (Option Above) → Option ℕ → Bool
is_ready_at rows None = true
is_ready_at rows (Some q) = is_row (slice_get rows q)

-- the name is of no class, or its row is there
abbrev pub is_ready : List Class → List (Option Above) → List ℕ → Bool
is_ready w rows x = is_ready_at rows (place_named w x)

-- each super and interface that the class lists is of no class, or its row is there
unfoldable pub are_ready : List Class → List (Option Above) → Class → Bool
are_ready w rows c = list_all (λ x. is_ready w rows x) c.supers && list_all (λ x. is_ready w rows x) c.interfaces

-- each row that is there is right
abbrev pub AreRight : List Class → List (Option Above) → Type 0
AreRight w rows = (x : List ℕ) (p : ℕ) (a : Above) → place_named w x ≡ Some p → slice_get rows p ≡ Some (Some a)
    → (tree : Supertypes) × AreSupertypes w (x ∷ []) tree × (a ≡ told w tree)

-- Each row that is there is right, and a class has its row where no cycle is at it or above it.
pub record IsPart (w : List Class) (rows : List (Option Above)) : Type 0 where
  pub right : AreRight w rows
  pub there : (x : List ℕ) (p : ℕ) → place_named w x ≡ Some p → IsClear w x → is_row (slice_get rows p) ≡ true

-- Where there is a mark for a place, it says whether the place is among these.
abbrev pub AreMarked : List Bool → List ℕ → Type 0
AreMarked marks places = (p : ℕ) (mark : Bool) → slice_get marks p ≡ Some mark → mark ≡ is_in p places

-- One pass over these places: rows stay, and each class has one that was ready for it.
pub record Closer (w : List Class) (old new : List (Option Above)) (from to : ℕ) : Type 0 where
  pub count : length new ≡ length old
  pub right : AreRight w old → AreRight w new
  pub stays : (p : ℕ) → is_row (slice_get old p) ≡ true → is_row (slice_get new p) ≡ true
  pub settles : (p : ℕ) (c : Class) → from ≤ p → p < to → slice_get w p ≡ Some c → are_ready w old c ≡ true
      → is_row (slice_get new p) ≡ true
