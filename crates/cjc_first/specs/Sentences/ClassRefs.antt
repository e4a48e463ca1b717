-- Each class_ref names a class or interface, and of the right kind (Java Card Virtual Machine Specification 2.2.2, 6.1, 6.7, 6.8 and 6.13).
use Rattle.std.specs.Prelude.{ℕ, ◌+◌, ◌*◌, List, [], ◌∷◌, ◌++◌, flat_map, map, Bool, true, nat_lt, ◌==◌, ◌&&◌, ◌||◌, if◌then◌else◌, is_some}
use Rattle.std.specs.List.{list_all}
use Rattle.cjc_capread.specs.declared.tree.ClassRef.{ClassRef}
use Rattle.cjc_capread.specs.declared.tree.ClassRef.TheVariants.{Inside, Outside}
use Rattle.cjc_capread.specs.declared.tree.PoolEntry.{PoolEntry}
use Rattle.cjc_capread.specs.declared.tree.PoolEntry.TheVariants.{Classref, InstanceFieldref, VirtualMethodref, SuperMethodref, StaticFieldref, StaticMethodref}
use Rattle.cjc_capread.specs.declared.tree.ClassEntry.{ClassEntry}
use Rattle.cjc_capread.specs.declared.tree.ClassInfo.{ClassInfo}
use Rattle.cjc_capread.specs.declared.tree.ClassDescriptor.{ClassDescriptor}
use Rattle.cjc_capread.specs.declared.tree.FieldPlace.{FieldPlace}
use Rattle.cjc_capread.specs.declared.tree.FieldPlace.TheVariants.{Static, Instance}
use Rattle.cjc_capread.specs.Parts.{class_of}
use Rattle.cjc_export.specs.declared.tree.ExportTree.{ExportTree}
use Rattle.cjc_first.specs.Sentences.Complete.{Complete}
use Rattle.cjc_first.specs.Sentences.Placed.{Placed}
use Rattle.cjc_first.specs.Sentences.Classes.{classes_at, imported, names_interface, names_class}

-- ---- where class_refs stand

abbrev pub in_entry : PoolEntry → List ClassRef
in_entry (Classref class) = class ∷ []
in_entry (InstanceFieldref class token) = class ∷ []
in_entry (VirtualMethodref class token) = class ∷ []
in_entry (SuperMethodref class token) = class ∷ []
in_entry (StaticFieldref member) = []
in_entry (StaticMethodref member) = []

abbrev pub superinterfaces : ClassInfo → List ClassRef
superinterfaces info = flat_map (λ i. i.superinterfaces) info.interfaces

abbrev pub implemented : ClassEntry → List ClassRef
implemented c = map (λ i. i.interface) c.interfaces

abbrev pub in_place : FieldPlace → List ClassRef
in_place (Static offset) = []
in_place (Instance class token) = class ∷ []

abbrev pub in_descriptor : ClassDescriptor → List ClassRef
in_descriptor d = d.this_class ∷ d.interfaces ++ flat_map (λ f. in_place f.place) d.fields

-- behind the nibble 6 of a class or E of an array of one stand the four nibbles of its class_ref
abbrev pub in_nibbles : List ℕ → List ClassRef
in_nibbles (n ∷ a ∷ b ∷ c ∷ d ∷ nibbles) =
    if n == 0x6 || n == 0xE then class_of (4096 * a + 256 * b + 16 * c + d) ∷ in_nibbles nibbles
    else in_nibbles (a ∷ b ∷ c ∷ d ∷ nibbles)
in_nibbles _ = []

abbrev pub class_refs : Complete → List ClassRef
class_refs c =
    flat_map in_entry c.pool.entries
    ++ superinterfaces c.class
    ++ flat_map (λ x. x.superclass ∷ implemented x) c.class.classes
    ++ flat_map in_descriptor c.descriptor.classes
    ++ flat_map (λ t. in_nibbles t.nibbles) c.descriptor.types

abbrev pub is_there : ClassInfo → List ExportTree → ClassRef → Bool
is_there info exports (Inside offset) = names_interface info exports (Inside offset) || names_class info exports (Inside offset)
is_there info exports (Outside import class) = is_some (imported exports import class)

-- 704. Each class_ref inside is the start of a class or interface, each one outside a class of its export file.
unfoldable pub classes_are_there : Complete → List ExportTree → Bool
classes_are_there c exports = list_all (is_there c.class exports) (class_refs c)

-- ---- superclasses and interfaces

abbrev pub stands_earlier : ClassRef → ℕ → Bool
stands_earlier (Inside offset) at = nat_lt offset at
stands_earlier (Outside import class) at = true

abbrev pub has_superclass : ClassInfo → List ExportTree → Placed ClassEntry → Bool
has_superclass info exports p = names_class info exports p.item.superclass && stands_earlier p.item.superclass p.at

abbrev pub interface_refs : Complete → List ClassRef
interface_refs c = superinterfaces c.class ++ flat_map implemented c.class.classes ++ flat_map (λ d. d.interfaces) c.descriptor.classes

-- 705. Each superclass is a class, and stands earlier where it is of the package. Each interface is an interface.
unfoldable pub supers_fit : Complete → List ExportTree → Bool
supers_fit c exports = list_all (has_superclass c.class exports) (classes_at c.class) && list_all (names_interface c.class exports) (interface_refs c)
