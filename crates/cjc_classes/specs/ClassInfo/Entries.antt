-- Infos by the class files, the tables, and functions that give class_refs and offsets (Java Card Virtual Machine
-- Specification 2.2.2, section 6.8).
use Rattle.std.specs.Prelude.{◌≡◌, ℕ, List, [], ◌∷◌, ◌++◌, map, get_or, Option, Some, None, option_to_list, slice_get}
use Rattle.std.specs.Prelude.{if◌then◌else◌}
use Rattle.cjc_components.specs.LowerCapRead.declared.tree.ClassRef.{ClassRef}
use Rattle.cjc_components.specs.LowerCapRead.declared.tree.ClassEntry.{ClassEntry}
use Rattle.cjc_components.specs.LowerCapRead.declared.tree.InterfaceEntry.{InterfaceEntry}
use Rattle.cjc_world.specs.ClassFile.declared.tree.ClassTree.{ClassTree}
use Rattle.cjc_world.specs.declared.found.Found.{Found}
use Rattle.cjc_world.specs.Files.{Files}
use Rattle.cjc_world.specs.Classes.{Class, all_classes, declared}
use Rattle.cjc_tokens.specs.Fields.{instance_cells}
use Rattle.cjc_components.specs.LowerVTable.declared.table.ClassTable.{ClassTable}
use Rattle.cjc_components.specs.Package.{Package}
use Rattle.cjc_components.specs.Methods.{method_offset}
use Rattle.cjc_components.specs.Class.{first_reference_token, implemented, info_flags, interface_entry, reference_count}
use Rattle.cjc_components.specs.LowerClassOrder.Classes.Numbers.{declared_at}

-- ---- offsets of methods

-- of a method of the package, by the number of its class and its place there; 0 where it has none
abbrev pub offset_in : List (List ℕ) → Found → ℕ
offset_in offsets f = if f.imported then 0 else get_or (get_or offsets f.class []) f.member 0

-- an entry of a public table
abbrev pub entry_by_offset : (Found → ℕ) → Option Found → ℕ
entry_by_offset offset None = 0xFFFF
entry_by_offset offset (Some f) = offset f

-- an entry of a public table by the offsets of methods; 0xFFFF where no implementation is given
abbrev pub entry_offset : List (List ℕ) → Option Found → ℕ
entry_offset offsets f = entry_by_offset (offset_in offsets) f

-- They are those of a package.
abbrev pub AreOffsets : Package → List (List ℕ) → Type 0
AreOffsets p offsets = (f : Found) → offset_in offsets f ≡ method_offset p f

-- ---- infos

-- the classes of the package of these numbers
abbrev pub with_numbers : List ClassTree → List ℕ → List Class
with_numbers trees [] = []
with_numbers trees (n ∷ ns) = option_to_list (declared_at trees n) ++ with_numbers trees ns

module _ (ref : List ℕ → ClassRef) where
  -- of the interfaces of these numbers
  abbrev pub interface_entries : Files → List ℕ → List InterfaceEntry
  interface_entries files ns = map (interface_entry ref (all_classes files)) (with_numbers files.classes ns)

  module _ (offset : Found → ℕ) where
    -- of a class by its tables and its class file
    abbrev pub entry_by : List Class → ClassTable → ClassTree → ClassEntry
    entry_by w t c = record {
      flags = info_flags w (declared t.class c);
      superclass = ref c.superclass;
      declared_instance_size = instance_cells c.fields;
      first_reference_token = first_reference_token c.fields;
      reference_count = reference_count c.fields;
      public_base = t.public_base;
      package_base = t.package_base;
      public_methods = map (entry_by_offset offset) t.public;
      package_methods = map offset t.«package»;
      interfaces = map (implemented ref) t.maps;
    }

    -- the entry of a class with its table, if there is such a class
    abbrev pub entry_where : List Class → ClassTable → Option ClassTree → List ClassEntry
    entry_where w t None = []
    entry_where w t (Some c) = entry_by w t c ∷ []

    -- the entry of the class that a table is of
    abbrev pub entries_of_table : Files → ClassTable → List ClassEntry
    entries_of_table files t = entry_where (all_classes files) t (slice_get files.classes t.class)

    -- of the classes of these tables
    abbrev pub entries_by : Files → List ClassTable → List ClassEntry
    entries_by files [] = []
    entries_by files (t ∷ ts) = entries_of_table files t ++ entries_by files ts
