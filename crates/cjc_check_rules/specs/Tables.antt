-- The tables and the interface maps of classes (Java Card Virtual Machine Specification 2.2.2, 6.8.2).
use Rattle.std.specs.Prelude.{ℕ, ◌+◌, ◌*◌, List, [], ◌∷◌, ◌++◌, length, reverse, Bool, true, false, nat_lt, ◌==◌, ◌&&◌}
use Rattle.std.specs.Prelude.{◌||◌, not, if◌then◌else◌, Option, Some, None}
use Rattle.std.specs.List.{list_all}
use Rattle.cjc_capread.specs.declared.tree.ClassRef.{ClassRef}
use Rattle.cjc_capread.specs.declared.tree.ClassRef.TheVariants.{Inside, Outside}
use Rattle.cjc_capread.specs.declared.tree.ClassEntry.{ClassEntry}
use Rattle.cjc_capread.specs.declared.tree.ImplementedInterface.{ImplementedInterface}
use Rattle.cjc_capread.specs.declared.tree.ClassDescriptor.{ClassDescriptor}
use Rattle.cjc_capread.specs.ClassRefs.{is_inside}
use Rattle.cjc_export.specs.declared.tree.ExportClass.{ExportClass}
use Rattle.cjc_export.specs.declared.tree.ExportTree.{ExportTree}
use Rattle.cjc_check_rules.specs.Spots.{ComponentPlace, in_info, unless, along, Placed}
use Rattle.cjc_check_rules.specs.Complete.{Complete, map_size, class_size}
use Rattle.cjc_check_rules.specs.Classes.{classes_at, first_class, imported}
use Rattle.cjc_check_rules.specs.ClassRefs.{maps_begin}
use Rattle.cjc_check_rules.specs.Members.{is_method_start, has_virtual}

-- ---- tables, of two bytes an entry

-- a class_ref names an imported class
abbrev pub is_outside : ClassRef → Bool
is_outside (Inside offset) = false
is_outside (Outside import class) = true

-- upwards from a superclass some class is imported; the classes are given with the last first
unfoldable pub leaves : List (Placed ClassEntry) → ClassRef → Bool
leaves [] class = is_outside class
leaves (p ∷ earlier) class = if is_inside class p.at then leaves earlier p.item.superclass else leaves earlier class

-- 0xFFFF is an implementation that is imported
abbrev pub is_public_entry : Complete → ClassEntry → ℕ → Bool
is_public_entry c x entry = if entry == 0xFFFF then leaves (reverse (classes_at c.class)) x.superclass
    else is_method_start c entry

-- an entry of a package table is the start of a method, and not 0xFFFF
abbrev pub is_package_entry : Complete → ℕ → Bool
is_package_entry c entry = not (entry == 0xFFFF) && is_method_start c entry

-- an entry of a table that stands at this offset
abbrev pub public_spot : Complete → ClassEntry → (at entry : ℕ) → List ComponentPlace
public_spot c x at entry = unless (is_public_entry c x entry) (in_info 6 at)

-- an entry of a package table that stands at this offset
abbrev pub package_spot : Complete → (at entry : ℕ) → List ComponentPlace
package_spot c at entry = unless (is_package_entry c entry) (in_info 6 at)

-- the tables of a class that begins at this offset
abbrev pub in_tables : Complete → (at : ℕ) → ClassEntry → List ComponentPlace
in_tables c at x =
    along (λ e. 2) (public_spot c x) (at + 10) x.public_methods
    ++ along (λ e. 2) (package_spot c) (at + 10 + 2 * length x.public_methods) x.package_methods

-- 706. The entries of tables are method starts. 0xFFFF stands in public tables alone, and only where some superclass is
-- imported.
-- Broken is the entry.
abbrev pub table_spots : Complete → List ComponentPlace
table_spots c = along class_size (in_tables c) (first_class c.class) c.class.classes

-- ---- interface maps

-- an imported interface has this many methods
abbrev pub has_methods : Option ExportClass → (count : ℕ) → Bool
has_methods None count = false
has_methods (Some i) count = length i.methods == count

-- this many indices hold every token that Descriptor gives a method of the interface; 0xFF is none
abbrev pub holds_tokens : (count : ℕ) → ClassDescriptor → Bool
holds_tokens count d = list_all (λ m. m.token == 0xFF || nat_lt m.token count) d.methods

-- a map of this many indices fits the interface: it holds each token of one of the package, and has an index for
-- each method of an imported one
abbrev pub is_long_enough : Complete → List ExportTree → ClassRef → (count : ℕ) → Bool
is_long_enough c exports (Inside offset) count = list_all (λ d. not (is_inside d.this_class offset)
    || holds_tokens count d) c.descriptor.classes
is_long_enough c exports (Outside import class) count = has_methods (imported exports import class) count

-- an index is the token of a virtual method that the class at this offset has; 0xFF is no token
abbrev pub is_index : Complete → List ExportTree → (class index : ℕ) → Bool
is_index c exports class index = not (index == 0xFF) && has_virtual c exports (Inside class) index

-- a map that begins at this offset, of the class that begins at another
abbrev pub in_map : Complete → List ExportTree → (class at : ℕ) → ImplementedInterface → List ComponentPlace
in_map c exports class at m =
    unless (is_long_enough c exports m.interface (length m.index)) (in_info 6 (at + 2))
    ++ along (λ i. 1) (λ at i. unless (is_index c exports class i) (in_info 6 at)) (at + 3) m.index

-- the maps of a class that begins at this offset
abbrev pub in_all_maps : Complete → List ExportTree → (at : ℕ) → ClassEntry → List ComponentPlace
in_all_maps c exports at x = along map_size (in_map c exports at) (maps_begin at x) x.interfaces

-- 707. The map of an imported interface has an index for each method of it, and that of an interface of the package
-- more indices
-- than each token that Descriptor gives a method of it. Each index is the token of a virtual method that the class has.
-- Broken is the
-- map's count, or the index.
abbrev pub map_spots : Complete → List ExportTree → List ComponentPlace
map_spots c exports = along class_size (in_all_maps c exports) (first_class c.class) c.class.classes
