-- Each class_ref names a class or interface, and of the right kind (Java Card Virtual Machine Specification 2.2.2, 6.1,
-- 6.7, 6.8 and 6.13).
use Rattle.std.specs.Prelude.{ℕ, ◌+◌, ◌*◌, ◌/◌, List, [], ◌∷◌, ◌++◌, length, sum_by, Bool, true, nat_lt, ◌==◌, ◌&&◌}
use Rattle.std.specs.Prelude.{◌||◌, if◌then◌else◌}
use Rattle.cjc_capread.specs.declared.tree.ClassRef.{ClassRef}
use Rattle.cjc_capread.specs.declared.tree.ClassRef.TheVariants.{Inside, Outside}
use Rattle.cjc_capread.specs.declared.tree.PoolEntry.{PoolEntry}
use Rattle.cjc_capread.specs.declared.tree.PoolEntry.TheVariants.{Classref, InstanceFieldref, VirtualMethodref}
use Rattle.cjc_capread.specs.declared.tree.PoolEntry.TheVariants.{SuperMethodref, StaticFieldref, StaticMethodref}
use Rattle.cjc_capread.specs.declared.tree.InterfaceEntry.{InterfaceEntry}
use Rattle.cjc_capread.specs.declared.tree.ClassEntry.{ClassEntry}
use Rattle.cjc_capread.specs.declared.tree.ImplementedInterface.{ImplementedInterface}
use Rattle.cjc_capread.specs.declared.tree.ClassInfo.{ClassInfo}
use Rattle.cjc_capread.specs.declared.tree.ClassDescriptor.{ClassDescriptor}
use Rattle.cjc_capread.specs.declared.tree.FieldDescriptor.{FieldDescriptor}
use Rattle.cjc_capread.specs.declared.tree.FieldPlace.{FieldPlace}
use Rattle.cjc_capread.specs.declared.tree.FieldPlace.TheVariants.{Static, Instance}
use Rattle.cjc_capread.specs.declared.tree.TypeDescriptor.{TypeDescriptor}
use Rattle.cjc_capread.specs.declared.tree.Descriptor.{Descriptor}
use Rattle.cjc_capread.specs.Parts.{class_of}
use Rattle.cjc_export.specs.declared.tree.ExportTree.{ExportTree}
use Rattle.cjc_check_rules.specs.Spots.{ComponentPlace, in_info, unless, along}
use Rattle.cjc_check_rules.specs.Complete.{Complete, interface_size, map_size, class_size, described_size, type_size}
use Rattle.cjc_check_rules.specs.Classes.{first_interface, first_class, is_there, names_interface, names_class}

-- ---- where class_refs stand: the test of each with its offset. Each has two bytes.

-- one class_ref at an offset: broken where the test fails
abbrev pub one_ref : (test : ClassRef → Bool) → (tag at : ℕ) → ClassRef → List ComponentPlace
one_ref test tag at r = unless (test r) (in_info tag at)

-- several, one behind the other
abbrev pub each_ref : (test : ClassRef → Bool) → (tag at : ℕ) → List ClassRef → List ComponentPlace
each_ref test tag at refs = along (λ r. 2) (one_ref test tag) at refs

-- in an entry of the constant pool, behind its tag
abbrev pub in_entry : (test : ClassRef → Bool) → (at : ℕ) → PoolEntry → List ComponentPlace
in_entry test at (Classref class) = unless (test class) (in_info 5 (at + 1))
in_entry test at (InstanceFieldref class token) = unless (test class) (in_info 5 (at + 1))
in_entry test at (VirtualMethodref class token) = unless (test class) (in_info 5 (at + 1))
in_entry test at (SuperMethodref class token) = unless (test class) (in_info 5 (at + 1))
in_entry test at (StaticFieldref member) = []
in_entry test at (StaticMethodref member) = []

-- the superinterfaces of an interface, behind its first byte
abbrev pub in_interface : (test : ClassRef → Bool) → (at : ℕ) → InterfaceEntry → List ComponentPlace
in_interface test at i = each_ref test 6 (at + 1) i.superinterfaces

-- the interfaces of a class's maps, which stand behind its tables
abbrev pub maps_begin : (at : ℕ) → ClassEntry → ℕ
maps_begin at c = at + 10 + 2 * length c.public_methods + 2 * length c.package_methods

-- the interface of one map, with which the map begins
abbrev pub in_map : (test : ClassRef → Bool) → (at : ℕ) → ImplementedInterface → List ComponentPlace
in_map test at m = unless (test m.interface) (in_info 6 at)

-- the interfaces of all maps of a class that begins at this offset
abbrev pub in_maps : (test : ClassRef → Bool) → (at : ℕ) → ClassEntry → List ComponentPlace
in_maps test at c = along map_size (in_map test) (maps_begin at c) c.interfaces

-- of a class: its superclass, behind its first byte, and the interfaces of its maps
abbrev pub in_class : (test : ClassRef → Bool) → (at : ℕ) → ClassEntry → List ComponentPlace
in_class test at c = unless (test c.superclass) (in_info 6 (at + 1)) ++ in_maps test at c

-- of a field, behind its token and flags
abbrev pub in_place : (test : ClassRef → Bool) → (at : ℕ) → FieldPlace → List ComponentPlace
in_place test at (Static offset) = []
in_place test at (Instance class token) = unless (test class) (in_info 11 (at + 2))

-- the class_ref of a field of Descriptor, if it is an instance field
abbrev pub in_field : (test : ClassRef → Bool) → (at : ℕ) → FieldDescriptor → List ComponentPlace
in_field test at f = in_place test at f.place

-- of a class of Descriptor: itself, behind its token and flags; its interfaces, behind nine bytes; and those of its
-- fields
abbrev pub fields_begin : (at : ℕ) → ClassDescriptor → ℕ
fields_begin at d = at + 9 + 2 * length d.interfaces

-- the class_refs of a class of Descriptor that begins at this offset
abbrev pub in_described : (test : ClassRef → Bool) → (at : ℕ) → ClassDescriptor → List ComponentPlace
in_described test at d =
    unless (test d.this_class) (in_info 11 (at + 2))
    ++ each_ref test 11 (at + 9) d.interfaces
    ++ along (λ f. 7) (in_field test) (fields_begin at d) d.fields

-- of a type descriptor that begins at this offset, from the nibble of this number on: behind 6 of a class or E of an
-- array of one stand
-- four nibbles, whose place is the byte of the first
unfoldable pub in_nibbles : (test : ClassRef → Bool) → (at number : ℕ) → List ℕ → List ComponentPlace
in_nibbles test at i (n ∷ a ∷ b ∷ c ∷ d ∷ nibbles) =
    if n == 0x6 || n == 0xE
    then unless (test (class_of (4096 * a + 256 * b + 16 * c + d))) (in_info 11 (at + 1 + (i + 1) / 2))
    ++ in_nibbles test at (i + 5) nibbles
    else in_nibbles test at (i + 1) (a ∷ b ∷ c ∷ d ∷ nibbles)
in_nibbles test at i _ = []

-- the class_refs in a type descriptor that begins at this offset
abbrev pub in_type : (test : ClassRef → Bool) → (at : ℕ) → TypeDescriptor → List ComponentPlace
in_type test at t = in_nibbles test at 0 t.nibbles

-- Descriptor's pool count and an offset for each entry stand before the types
abbrev pub pool_count_at : Descriptor → ℕ
pool_count_at d = 1 + sum_by described_size d.classes

-- where the first type descriptor stands, from the start of Descriptor's info
abbrev pub types_begin : Descriptor → ℕ
types_begin d = pool_count_at d + 2 + 2 * length d.pool_types

-- ---- 704

-- 704. Each class_ref inside is the start of a class or interface, each one outside a class of its export file. Broken
-- is the class_ref.
abbrev pub class_ref_spots : Complete → List ExportTree → List ComponentPlace
class_ref_spots c exports =
    let test = is_there c.class exports in
    along (λ x. 4) (in_entry test) 2 c.pool.entries
    ++ along interface_size (in_interface test) first_interface c.class.interfaces
    ++ along class_size (in_class test) (first_class c.class) c.class.classes
    ++ along described_size (in_described test) 1 c.descriptor.classes
    ++ along type_size (in_type test) (types_begin c.descriptor) c.descriptor.types

-- ---- 705

-- a class_ref inside is below this offset; one outside always is earlier
abbrev pub stands_earlier : ClassRef → (at : ℕ) → Bool
stands_earlier (Inside offset) at = nat_lt offset at
stands_earlier (Outside import class) at = true

-- a class that begins at this offset has a superclass that is a class, and that stands earlier where it is of the
-- package
abbrev pub has_superclass : ClassInfo → List ExportTree → (at : ℕ) → ClassEntry → Bool
has_superclass info exports at c = names_class info exports c.superclass && stands_earlier c.superclass at

-- a class: its superclass, and the interfaces of its maps
abbrev pub super_in_class : ClassInfo → List ExportTree → (at : ℕ) → ClassEntry → List ComponentPlace
super_in_class info exports at c = unless (has_superclass info exports at c) (in_info 6 (at + 1))
    ++ in_maps (names_interface info exports) at c

-- the interfaces of a class of Descriptor
abbrev pub interfaces_in_described : (test : ClassRef → Bool) → (at : ℕ) → ClassDescriptor → List ComponentPlace
interfaces_in_described test at d = each_ref test 11 (at + 9) d.interfaces

-- 705. Each superclass is a class, and stands earlier where it is of the package. Each interface is an interface.
-- Broken is the
-- class_ref.
abbrev pub super_spots : Complete → List ExportTree → List ComponentPlace
super_spots c exports =
    let test = names_interface c.class exports in
    along interface_size (in_interface test) first_interface c.class.interfaces
    ++ along class_size (super_in_class c.class exports) (first_class c.class) c.class.classes
    ++ along described_size (interfaces_in_described test) 1 c.descriptor.classes
