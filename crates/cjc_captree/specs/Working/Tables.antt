-- Where methods stand, one after the other and by their classes.
use Rattle.std.specs.Prelude.{ℕ, Bool, ◌+◌, ◌==◌, ◌&&◌, not, List, [], ◌∷◌, length, map, if◌then◌else◌}
use Rattle.std.specs.List.{range_with_len}
use Rattle.cjc_classes.specs.Layout.declared.layout.Layout.{Layout}
use Rattle.cjc_exported.specs.World.declared.found.Found.{Found}
use Rattle.cjc_exported.specs.World.Classes.{Class, all_classes}
use Rattle.cjc_exported.specs.World.Files.{Files}
use Rattle.cjc_exported.specs.World.Lookup.{member_at}
use Rattle.cjc_methods.specs.declared.layouts.laid.Laid.{Laid}
use Rattle.cjc_classes.specs.Descriptor.Made.{member_count, numbered}
use Rattle.cjc_classes.specs.declared.descriptor.parts.Extent.{Extent}

-- of what is not in Method
abbrev pub nowhere : Extent
nowhere = record { offset = 0; bytecode_count = 0; handler_count = 0; first_handler = 0 }

-- a method by its layout, at an offset and behind so many handlers
abbrev pub extent_by_layout : (at handlers : ℕ) → Layout → Extent
extent_by_layout at k l = record {
  offset = at;
  bytecode_count = l.length;
  handler_count = length l.handlers;
  first_handler = if length l.handlers == 0 then 0 else k;
}

-- of methods at these offsets, the first behind so many handlers
abbrev pub extents_by : (handlers : ℕ) → List ℕ → List Laid → List Extent
extents_by k [] laid = []
extents_by k (at ∷ offsets) [] = []
extents_by k (at ∷ offsets) (l ∷ laid) = let layout = l.layout in extent_by_layout at k layout
    ∷ extents_by (k + length layout.handlers) offsets laid

-- a member is the one at a place of the class of a number
abbrev pub is_own : (class member : ℕ) → Found → Bool
is_own class member f = not f.imported && f.class == class && f.member == member

-- of the first that is a member
abbrev pub found_in : List Laid → List Extent → Found → Extent
found_in [] extents f = nowhere
found_in (l ∷ laid) [] f = nowhere
found_in (l ∷ laid) (e ∷ extents) f = let g = l.member in if is_own g.class g.member f then e
    else found_in laid extents f

-- of each member of a class
abbrev pub row_of : Files → (Found → Extent) → Class → List Extent
row_of files g c = map (λ k. g (member_at c k)) (range_with_len 0 (member_count (all_classes files) c))

-- of each class by its number
abbrev pub table_of : Files → (Found → Extent) → List (List Extent)
table_of files g = map (row_of files g) (numbered 0 files.classes)
