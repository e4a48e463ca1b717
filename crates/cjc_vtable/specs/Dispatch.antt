-- Dispatch by token (Java Card Virtual Machine Specification 2.2.2, sections 6.8 and 7.5): below a base and at an
-- entry 0xFFFF it goes on at the superclass; at an imported class it asks that class's export file and its supers'.
use Rattle.std.specs.Prelude.{ℕ, ◌+◌, ◌-◌, ◌==◌, List, [], ◌∷◌, length, position, ◌&&◌, nat_lt, Option, Some, None}
use Rattle.std.specs.Prelude.{option_map, if◌then◌else◌, slice_get}
use Rattle.std.specs.Str.{bytes_eq}
use Rattle.cjc_world.specs.declared.found.Found.{Found}
use Rattle.cjc_world.specs.Classes.{Class}
use Rattle.cjc_world.specs.Supertypes.{Supertypes, End, Unknown, Known, supertypes, upwards}
use Rattle.cjc_world.specs.Lookup.{first, member_at}
use Rattle.cjc_tokens.specs.Members.{is_virtual}
use Rattle.cjc_vtable.specs.declared.table.ClassTable.{ClassTable}
use Rattle.cjc_vtable.specs.declared.table.InterfaceMap.{InterfaceMap}
use Rattle.cjc_vtable.specs.Tables.{table_of}

-- What the card has of a class and its superclasses.
pub data Tower : Type 0 where
  Missing : Tower
  -- an imported class and its supers going upwards
  Exported : (classes : List Class) → Tower
  -- a class of the package by its tables
  Info : (table : ClassTable) (above : Tower) → Tower

-- of the first class of a tree
abbrev pub tower_in : List Class → Supertypes → Tower
tower_in w End = Missing
tower_in w (Unknown name next) = Missing
tower_in w (Known c supers interfaces next) = if c.is_imported then Exported (c ∷ upwards supers)
    else Info (table_of w c) (tower_in w supers)

abbrev pub tower_of : List Class → List ℕ → Tower
tower_of w name = tower_in w (supertypes w (name ∷ []))

-- a virtual method of a class by the token of its export file
unfoldable pub own_by_token : ℕ → Class → Option Found
own_by_token t c = option_map (λ i. member_at c (length c.fields + i)) (position (λ m. is_virtual m && (m.token == t))
    c.methods)

-- at an entry; 0xFFFF goes on above, and past the table there is no method
abbrev pub held : Option (Option Found) → Option Found → Option Found
held None above = None
held (Some None) above = above
held (Some (Some f)) above = Some f

abbrev pub at_table : (base : ℕ) → List (Option Found) → ℕ → Option Found → Option Found
at_table base entries t above = if nat_lt t base then above else held (slice_get entries (t - base)) above

-- A public or protected method, or one that an export file lists, by its token.
abbrev pub dispatched : Tower → ℕ → Option Found
dispatched Missing t = None
dispatched (Exported classes) t = first (own_by_token t) classes
dispatched (Info table above) t = at_table table.public_base table.public t (dispatched above t)

-- A package-visible method by its token without the high bit.
abbrev pub dispatched_hidden : Tower → ℕ → Option Found
dispatched_hidden Missing t = None
dispatched_hidden (Exported classes) t = None
dispatched_hidden (Info table above) t = if nat_lt t table.package_base then dispatched_hidden above t
    else slice_get table.package (t - table.package_base)

-- the map of an interface, in this class or the nearest above that lists it
abbrev pub map_in : List InterfaceMap → List ℕ → Option InterfaceMap → Option InterfaceMap
map_in [] interface above = above
map_in (m ∷ ms) interface above = if bytes_eq m.interface interface then Some m else map_in ms interface above

abbrev pub map_of : Tower → List ℕ → Option InterfaceMap
map_of Missing interface = None
map_of (Exported classes) interface = None
map_of (Info table above) interface = map_in table.maps interface (map_of above interface)

abbrev pub at_index : Tower → Option ℕ → Option Found
at_index tower None = None
at_index tower (Some t) = dispatched tower t

abbrev pub at_map : Tower → Option InterfaceMap → ℕ → Option Found
at_map tower None k = None
at_map tower (Some m) k = at_index tower (slice_get m.index k)

-- A method of an interface by its token.
abbrev pub dispatched_interface : Tower → (interface : List ℕ) → ℕ → Option Found
dispatched_interface tower interface k = at_map tower (map_of tower interface) k
