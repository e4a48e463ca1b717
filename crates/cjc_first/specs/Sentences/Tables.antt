-- The tables and the interface maps of classes (Java Card Virtual Machine Specification 2.2.2, 6.8.2).
use Rattle.std.specs.Prelude.{ℕ, List, [], ◌∷◌, length, reverse, Bool, true, false, nat_lt, ◌==◌, ◌&&◌, ◌||◌, not, if◌then◌else◌, Option, Some, None}
use Rattle.std.specs.List.{list_all}
use Rattle.cjc_capread.specs.declared.tree.ClassRef.{ClassRef}
use Rattle.cjc_capread.specs.declared.tree.ClassRef.TheVariants.{Inside, Outside}
use Rattle.cjc_capread.specs.declared.tree.ClassEntry.{ClassEntry}
use Rattle.cjc_capread.specs.declared.tree.ImplementedInterface.{ImplementedInterface}
use Rattle.cjc_capread.specs.declared.tree.ClassDescriptor.{ClassDescriptor}
use Rattle.cjc_capread.specs.ClassRefs.{is_inside}
use Rattle.cjc_export.specs.declared.tree.ExportClass.{ExportClass}
use Rattle.cjc_export.specs.declared.tree.ExportTree.{ExportTree}
use Rattle.cjc_first.specs.Sentences.Complete.{Complete}
use Rattle.cjc_first.specs.Sentences.Placed.{Placed}
use Rattle.cjc_first.specs.Sentences.Classes.{classes_at, imported}
use Rattle.cjc_first.specs.Sentences.Members.{is_method_start, has_virtual}

-- ---- tables

abbrev pub is_outside : ClassRef → Bool
is_outside (Inside offset) = false
is_outside (Outside import class) = true

-- upwards from a superclass some class is imported; the classes are given with the last first
abbrev pub leaves : List (Placed ClassEntry) → ClassRef → Bool
leaves [] class = is_outside class
leaves (p ∷ earlier) class = if is_inside class p.at then leaves earlier p.item.superclass else leaves earlier class

-- 0xFFFF is an implementation that is imported
abbrev pub is_public_entry : Complete → ClassEntry → ℕ → Bool
is_public_entry c x entry = if entry == 0xFFFF then leaves (reverse (classes_at c.class)) x.superclass else is_method_start c entry

abbrev pub is_package_entry : Complete → ℕ → Bool
is_package_entry c entry = not (entry == 0xFFFF) && is_method_start c entry

abbrev pub tables_fit : Complete → ClassEntry → Bool
tables_fit c x = list_all (is_public_entry c x) x.public_methods && list_all (is_package_entry c) x.package_methods

-- 706. The entries of tables are method starts. 0xFFFF stands in public tables alone, and only where some superclass is imported.
unfoldable pub tables_hold_methods : Complete → Bool
tables_hold_methods c = list_all (tables_fit c) c.class.classes

-- ---- interface maps

abbrev pub has_methods : Option ExportClass → ℕ → Bool
has_methods None count = false
has_methods (Some i) count = length i.methods == count

-- this many indices hold every token that Descriptor gives a method of the interface; 0xFF is none
abbrev pub holds_tokens : (count : ℕ) → ClassDescriptor → Bool
holds_tokens count d = list_all (λ m. m.token == 0xFF || nat_lt m.token count) d.methods

abbrev pub is_long_enough : Complete → List ExportTree → ClassRef → (count : ℕ) → Bool
is_long_enough c exports (Inside offset) count = list_all (λ d. not (is_inside d.this_class offset) || holds_tokens count d) c.descriptor.classes
is_long_enough c exports (Outside import class) count = has_methods (imported exports import class) count

abbrev pub map_fits : Complete → List ExportTree → (at : ℕ) → ImplementedInterface → Bool
map_fits c exports at m = is_long_enough c exports m.interface (length m.index) && list_all (has_virtual c exports (Inside at)) m.index

abbrev pub maps_fit : Complete → List ExportTree → Placed ClassEntry → Bool
maps_fit c exports p = list_all (map_fits c exports p.at) p.item.interfaces

-- 707. The map of an imported interface has an index for each method of it, and that of an interface of the package more indices
-- than each token that Descriptor gives a method of it. Each index is the token of a virtual method that the class has.
unfoldable pub maps_hold_tokens : Complete → List ExportTree → Bool
maps_hold_tokens c exports = list_all (maps_fit c exports) (classes_at c.class)
