-- Rules over Class: each info is that of the package's class (Java Card Virtual Machine Specification 2.2.2, section
-- 6.8).
use Rattle.std.specs.Prelude.{ℕ, ◌+◌, ◌*◌, ◌==◌, ◌&&◌, ◌||◌, not, Bool, List, [], ◌∷◌, ◌++◌, map, length}
use Rattle.std.specs.Prelude.{Option, Some, None, if◌then◌else◌}
use Rattle.std.specs.List.{list_any, range_with_len}
use Rattle.cjc_bytes.specs.AccessFlags.{is_interface}
use Rattle.cjc_capread.specs.declared.tree.ClassRef.{ClassRef}
use Rattle.cjc_capread.specs.declared.tree.ClassInfo.{ClassInfo}
use Rattle.cjc_capread.specs.declared.tree.ClassEntry.{ClassEntry}
use Rattle.cjc_capread.specs.declared.tree.InterfaceEntry.{InterfaceEntry}
use Rattle.cjc_capread.specs.declared.tree.ImplementedInterface.{ImplementedInterface}
use Rattle.cjc_capread.specs.ClassRefs.{same_class}
use Rattle.cjc_check_rules.specs.declared.spot.ComponentPlace.{ComponentPlace}
use Rattle.cjc_check_rules.specs.Spots.{in_info, unless, beside, bytes_differ}
use Rattle.cjc_check_rules.specs.Complete.{map_size}
use Rattle.cjc_check_rules.specs.Classes.{first_interface}
use Rattle.cjc_check_rules.specs.ClassRefs.{maps_begin}
use Rattle.cjc_card_acts.specs.CardSemantics.Machine.Classes.{Info, IsInterface, IsClass, Own, info_size}
use Rattle.cjc_card_acts.specs.CardSemantics.Machine.Dispatch.{Token, Open, Hidden, tower, dispatched}
use Rattle.cjc_world.specs.declared.found.Found.{Found}
use Rattle.cjc_world.specs.Classes.{Class}
use Rattle.cjc_world.specs.Order.{class_order}
use Rattle.cjc_methods.specs.Tokens.Fields.{instance_cells}
use Rattle.cjc_classes.specs.VTable.declared.table.ClassTable.{ClassTable}
use Rattle.cjc_classes.specs.VTable.declared.table.InterfaceMap.{InterfaceMap}
use Rattle.cjc_classes.specs.VTable.Tables.{table_of}
use Rattle.cjc_classes.specs.LowerComponents.Class.{interfaces_of, info_flags, fields_of, superclass, reference_count}
use Rattle.cjc_classes.specs.LowerComponents.Class.{first_reference_token}
use Rattle.cjc_verify.specs.Pairs.{Pair, world, class_ref, method_offset}
use Rattle.cjc_verify.specs.Named.{is_unmade, is_abstract_selection}

-- the interfaces and classes of Class, in order
abbrev pub infos : ClassInfo → List Info
infos c = map IsInterface c.interfaces ++ map IsClass c.classes

-- What is broken in infos beside the package's classes, each of which begins at an offset.
abbrev pub beside_classes : (broken : ℕ → Info → Class → List ComponentPlace) → Pair → List ComponentPlace
beside_classes broken p = let c = p.components in beside info_size broken first_interface (infos c.class) (class_order
    (world p))

-- ---- 729: flags, supers and instance fields

-- class_refs beside those that are wanted
abbrev pub refs_differ : (at : ℕ) → (refs wanted : List ClassRef) → List ComponentPlace
refs_differ at refs wanted = beside (λ r. 2) (λ at r w. unless (same_class r w) (in_info 6 at)) at refs wanted

-- the class_refs of the interfaces of a class
abbrev pub interface_refs : Pair → Class → List ClassRef
interface_refs p c = map (λ (i : Class). class_ref p i.name) (interfaces_of (world p) c)

-- an interface: its flags with the number of its superinterfaces, and these
abbrev pub interface_spots : Pair → (at : ℕ) → InterfaceEntry → Class → List ComponentPlace
interface_spots p at i c =
    unless ((i.flags == info_flags (world p) c) && (length i.superinterfaces == length (interface_refs p c)))
    (in_info 6 at)
    ++ refs_differ (at + 1) i.superinterfaces (interface_refs p c)

-- the interface of a map
abbrev pub map_interface : Pair → (at : ℕ) → ImplementedInterface → InterfaceMap → List ComponentPlace
map_interface p at m w = unless (same_class m.interface (class_ref p w.interface)) (in_info 6 at)

-- a class: its flags, its superclass, the three items on instance fields, and its interfaces
abbrev pub class_spots : Pair → (at : ℕ) → ClassEntry → Class → List ComponentPlace
class_spots p at x c =
    let fields = fields_of p.files c in
    let table = table_of (world p) c in
    unless ((x.flags == info_flags (world p) c) && (length x.interfaces == length table.maps)) (in_info 6 at)
    ++ unless (same_class x.superclass (class_ref p (superclass c))) (in_info 6 (at + 1))
    ++ unless (x.declared_instance_size == instance_cells fields) (in_info 6 (at + 3))
    ++ unless (x.first_reference_token == first_reference_token fields) (in_info 6 (at + 4))
    ++ unless (x.reference_count == reference_count fields) (in_info 6 (at + 5))
    ++ beside map_size (map_interface p) (maps_begin at x) x.interfaces table.maps

-- an info beside the package's class; broken are the flags where only one of them is an interface
abbrev pub info_spots : Pair → (at : ℕ) → Info → Class → List ComponentPlace
info_spots p at (IsInterface i) c = if is_interface c.flags then interface_spots p at i c else in_info 6 at ∷ []
info_spots p at (IsClass x) c = if is_interface c.flags then in_info 6 at ∷ [] else class_spots p at x c

-- 729. The flags, the superclass, the interfaces and the items on instance fields of each info are those of the
-- package's class.
-- Broken is the item.
abbrev pub all_info_spots : Pair → List ComponentPlace
all_info_spots p = beside_classes (info_spots p) p

-- ---- 725: bases, counts, tables and maps

-- an entry of the public table: 0xFFFF where the implementation is imported, else the start of the method
abbrev pub public_entry : Pair → Option Found → ℕ
public_entry p None = 0xFFFF
public_entry p (Some f) = method_offset p f

-- a map: its interface, the number of its indices, and these
abbrev pub map_spots : Pair → (at : ℕ) → ImplementedInterface → InterfaceMap → List ComponentPlace
map_spots p at m w =
    map_interface p at m w
    ++ unless (length m.index == length w.index) (in_info 6 (at + 2))
    ++ bytes_differ 6 (at + 3) m.index w.index

-- entries of two bytes beside those that are wanted
abbrev pub entries_differ : (at : ℕ) → (entries wanted : List ℕ) → List ComponentPlace
entries_differ at entries wanted = beside (λ e. 2) (λ at e w. unless (e == w) (in_info 6 at)) at entries wanted

-- all items that differ, in order; the number of interfaces stands in the byte of the flags
abbrev pub table_items : Pair → (at : ℕ) → ClassEntry → ClassTable → List ComponentPlace
table_items p at x t =
    unless (length x.interfaces == length t.maps) (in_info 6 at)
    ++ unless (x.public_base == t.public_base) (in_info 6 (at + 6))
    ++ unless (length x.public_methods == length t.public) (in_info 6 (at + 7))
    ++ unless (x.package_base == t.package_base) (in_info 6 (at + 8))
    ++ unless (length x.package_methods == length t.«package») (in_info 6 (at + 9))
    ++ entries_differ (at + 10) x.public_methods (map (public_entry p) t.public)
    ++ entries_differ (at + 10 + 2 * length x.public_methods) x.package_methods (map (method_offset p) t.«package»)
    ++ beside map_size (map_spots p) (maps_begin at x) x.interfaces t.maps

-- the first of places that stand in order
abbrev pub head_of : List ComponentPlace → List ComponentPlace
head_of [] = []
head_of (s ∷ spots) = s ∷ []

-- a class info beside the package's class
abbrev pub table_spots : Pair → (at : ℕ) → Info → Class → List ComponentPlace
table_spots p at (IsInterface i) c = []
table_spots p at (IsClass x) c = if is_interface c.flags then [] else head_of (table_items p at x (table_of
    (world p) c))

-- 725. The bases, counts, tables and maps of each class info are those of the package's class, where an entry is the
-- start of the method that stands there. Broken is the first item that differs.
abbrev pub all_table_spots : Pair → List ComponentPlace
all_table_spots p = beside_classes (table_spots p) p

-- ---- 727: abstract methods

-- all tokens of virtual methods, package-visible ones last
abbrev pub all_tokens : List Token
all_tokens = map Open (range_with_len 0 128) ++ map (Hidden 0) (range_with_len 0 128)

-- one of the tokens of the class at an offset means an abstract method
abbrev pub has_abstract_method : Pair → (offset : ℕ) → Bool
has_abstract_method p offset = let t = tower p.loaded (Own 0 offset)
    in list_any (λ token. is_abstract_selection p (dispatched t token)) all_tokens

-- a class info of a class of which objects are made
abbrev pub abstract_spots : Pair → (at : ℕ) → Info → Class → List ComponentPlace
abstract_spots p at (IsInterface i) c = []
abstract_spots p at (IsClass x) c = unless (is_unmade c.flags || not (has_abstract_method p at)) (in_info 6 at)

-- 727 at a class: it is not abstract, and has an abstract method for one of its tokens.
abbrev pub all_abstract_spots : Pair → List ComponentPlace
all_abstract_spots p = beside_classes (abstract_spots p) p
