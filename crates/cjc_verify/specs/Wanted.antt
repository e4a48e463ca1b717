-- Infos of Class beside those that are wanted: what differs, item by item (Java Card Virtual Machine Specification
-- 2.2.2, section 6.8).
use Rattle.std.specs.Prelude.{ℕ, ◌+◌, ◌*◌, ◌==◌, ◌&&◌, List, [], ◌∷◌, ◌++◌, length, drop}
use Rattle.cjc_capread.specs.declared.tree.ClassRef.{ClassRef}
use Rattle.cjc_capread.specs.declared.tree.ClassEntry.{ClassEntry}
use Rattle.cjc_capread.specs.declared.tree.ClassInfo.{ClassInfo}
use Rattle.cjc_capread.specs.declared.tree.InterfaceEntry.{InterfaceEntry}
use Rattle.cjc_capread.specs.declared.tree.ImplementedInterface.{ImplementedInterface}
use Rattle.cjc_capread.specs.ClassRefs.{same_class}
use Rattle.cjc_check_rules.specs.declared.spot.ComponentPlace.{ComponentPlace}
use Rattle.cjc_check_rules.specs.Spots.{in_info, unless, beside, bytes_differ}
use Rattle.cjc_check_rules.specs.Complete.{class_size, interface_size, map_size}
use Rattle.cjc_check_rules.specs.Classes.{first_class, first_interface}
use Rattle.cjc_verify.specs.Infos.{head_of}
use Rattle.cjc_verify.specs.declared.infos.wanted.Wanted.{Wanted}
use Rattle.cjc_verify.specs.declared.infos.wanted.Wanted.TheVariants.{Class, Interface}
use Rattle.cjc_check_rules.specs.ClassRefs.{maps_begin}

-- class_refs beside those that are wanted
abbrev pub refs_differ : (at : ℕ) → (refs wanted : List ClassRef) → List ComponentPlace
refs_differ at refs wanted = beside (λ r. 2) (λ at r w. unless (same_class r w) (in_info 6 at)) at refs wanted

-- an interface: its flags with the number of its superinterfaces, and these
abbrev pub interface_differs : (at : ℕ) → (i wanted : InterfaceEntry) → List ComponentPlace
interface_differs at i w =
    unless ((i.flags == w.flags) && (length i.superinterfaces == length w.superinterfaces)) (in_info 6 at)
    ++ refs_differ (at + 1) i.superinterfaces w.superinterfaces

-- the interface of a map
abbrev pub map_interface_differs : (at : ℕ) → (m wanted : ImplementedInterface) → List ComponentPlace
map_interface_differs at m w = unless (same_class m.interface w.interface) (in_info 6 at)

-- what a class info says before its tables, but for these: its flags with the number of its interfaces, its superclass,
-- and the three items on instance fields
abbrev pub head_differs : (at : ℕ) → (x wanted : ClassEntry) → List ComponentPlace
head_differs at x w =
    unless ((x.flags == w.flags) && (length x.interfaces == length w.interfaces)) (in_info 6 at)
    ++ unless (same_class x.superclass w.superclass) (in_info 6 (at + 1))
    ++ unless (x.declared_instance_size == w.declared_instance_size) (in_info 6 (at + 3))
    ++ unless (x.first_reference_token == w.first_reference_token) (in_info 6 (at + 4))
    ++ unless (x.reference_count == w.reference_count) (in_info 6 (at + 5))

-- a class: these, and its interfaces
abbrev pub class_differs : (at : ℕ) → (x wanted : ClassEntry) → List ComponentPlace
class_differs at x w =
    head_differs at x w ++ beside map_size map_interface_differs (maps_begin at x) x.interfaces w.interfaces

-- a map: its interface, the number of its indices, and these
abbrev pub map_differs : (at : ℕ) → (m wanted : ImplementedInterface) → List ComponentPlace
map_differs at m w =
    map_interface_differs at m w
    ++ unless (length m.index == length w.index) (in_info 6 (at + 2))
    ++ bytes_differ 6 (at + 3) m.index w.index

-- entries of two bytes beside those that are wanted
abbrev pub entries_differ : (at : ℕ) → (entries wanted : List ℕ) → List ComponentPlace
entries_differ at entries wanted = beside (λ e. 2) (λ at e w. unless (e == w) (in_info 6 at)) at entries wanted

-- the number of interfaces, which stands in the byte of the flags, and the bases and counts of tables
abbrev pub counts_differ : (at : ℕ) → (x wanted : ClassEntry) → List ComponentPlace
counts_differ at x w =
    unless (length x.interfaces == length w.interfaces) (in_info 6 at)
    ++ unless (x.public_base == w.public_base) (in_info 6 (at + 6))
    ++ unless (length x.public_methods == length w.public_methods) (in_info 6 (at + 7))
    ++ unless (x.package_base == w.package_base) (in_info 6 (at + 8))
    ++ unless (length x.package_methods == length w.package_methods) (in_info 6 (at + 9))

-- the items of the tables and maps of a class, in order
abbrev pub tables_differ : (at : ℕ) → (x wanted : ClassEntry) → List ComponentPlace
tables_differ at x w =
    counts_differ at x w
    ++ entries_differ (at + 10) x.public_methods w.public_methods
    ++ entries_differ (at + 10 + 2 * length x.public_methods) x.package_methods w.package_methods
    ++ beside map_size map_differs (maps_begin at x) x.interfaces w.interfaces

-- ---- an info of either kind

-- of an interface; broken are the flags where a class is wanted
abbrev pub interface_beside : (at : ℕ) → InterfaceEntry → Wanted → List ComponentPlace
interface_beside at i (Interface w) = interface_differs at i w
interface_beside at i (Class w) = in_info 6 at ∷ []

-- of a class; broken are the flags where an interface is wanted
abbrev pub class_beside : (at : ℕ) → ClassEntry → Wanted → List ComponentPlace
class_beside at x (Interface w) = in_info 6 at ∷ []
class_beside at x (Class w) = class_differs at x w

-- the first item of the tables and maps of a class
abbrev pub tables_beside : (at : ℕ) → ClassEntry → Wanted → List ComponentPlace
tables_beside at x (Interface w) = []
tables_beside at x (Class w) = head_of (tables_differ at x w)

-- ---- all infos

-- the flags, supers and instance fields of all infos
abbrev pub all_beside : ClassInfo → List Wanted → List ComponentPlace
all_beside c wanted =
    beside interface_size interface_beside first_interface c.interfaces wanted
    ++ beside class_size class_beside (first_class c) c.classes (drop (length c.interfaces) wanted)

-- the tables and maps of all classes
abbrev pub all_tables_beside : ClassInfo → List Wanted → List ComponentPlace
all_tables_beside c wanted = beside class_size tables_beside (first_class c) c.classes (drop (length c.interfaces)
    wanted)
