-- Rules over Class are differences from the infos that the package wants.
use Rattle.std.proofs.Common.{◌≡◌, ℕ, ◌+◌, ◌*◌, Bool, true, false, List, [], ◌∷◌, ◌++◌, length, drop, map, refl, sym}
use Rattle.std.proofs.Common.{ap, ◌∙◌}
use Rattle.std.specs.Prelude.{◌&&◌, ◌==◌, if◌then◌else◌, sum_by}
use Rattle.cjc_bytes.specs.AccessFlags.{is_interface}
use Rattle.cjc_bytes.proofs.Lists.{length_mapped}
use Rattle.cjc_capread.specs.declared.tree.ClassEntry.{ClassEntry}
use Rattle.cjc_capread.specs.declared.tree.ClassInfo.{ClassInfo}
use Rattle.cjc_capread.specs.declared.tree.ImplementedInterface.{ImplementedInterface}
use Rattle.cjc_capread.specs.declared.tree.InterfaceEntry.{InterfaceEntry}
use Rattle.cjc_capread.specs.ClassRefs.{same_class}
use Rattle.cjc_card_acts.specs.CardSemantics.Machine.Classes.{Info, IsClass, IsInterface, info_size, map_sizes}
use Rattle.cjc_check_rules.specs.declared.spot.ComponentPlace.{ComponentPlace}
use Rattle.cjc_check_rules.specs.ClassRefs.{maps_begin}
use Rattle.cjc_check_rules.specs.Classes.{first_class, first_interface}
use Rattle.cjc_check_rules.specs.Complete.{class_size, interface_size, map_size}
use Rattle.cjc_check_rules.specs.Spots.{beside, in_info, unless}
use Rattle.cjc_classes.specs.LowerComponents.Class.{fields_of, first_reference_token, implemented, info_flags}
use Rattle.cjc_classes.specs.LowerComponents.Class.{interface_entry}
use Rattle.cjc_classes.specs.LowerComponents.Class.{reference_count, superclass}
use Rattle.cjc_classes.specs.VTable.Tables.{table_of}
use Rattle.cjc_methods.specs.Tokens.Fields.{instance_cells}
use Rattle.cjc_world.specs.Classes.{Class}
use Rattle.cjc_world.specs.Order.{class_order}
use Rattle.std.proofs.lemmas.List.Sums.{sum_by-cons}
use Rattle.cjc_verify.specs.Abstracts.{abstract_beside, all_abstract_beside}
use Rattle.cjc_verify.specs.Infos.{abstract_spots, all_abstract_spots, all_info_spots, all_table_spots, class_spots}
use Rattle.cjc_verify.specs.Infos.{entries_differ, head_of, info_spots, infos, interface_spots, map_interface}
use Rattle.cjc_verify.specs.Infos.{map_spots}
use Rattle.cjc_verify.specs.Infos.{public_entry, table_items, table_spots}
use Rattle.cjc_verify.specs.Named.{is_unmade}
use Rattle.cjc_verify.specs.Pairs.{Pair, class_ref, method_offset, world}
use Rattle.cjc_verify.specs.Wanted.{all_beside, all_tables_beside, class_beside, class_differs, interface_beside}
use Rattle.cjc_verify.specs.Wanted.{map_differs, map_interface_differs, tables_beside, tables_differ}
use Rattle.cjc_verify.specs.WantedInfos.{wanted_entry, wanted_info, wanted_infos}
use Rattle.cjc_verify.specs.declared.infos.wanted.Wanted.TheVariants as wanted
use Rattle.cjc_verify.proofs.InfosLaws.Besides.{behind, dropped, items_by, nothing, others_by}

-- ---- interfaces, then classes

sized : (maps : List ImplementedInterface) → map_sizes maps ≡ sum_by map_size maps
sized [] = refl
sized (m ∷ maps) = ap (λ (n : ℕ). 3 + length m.index + n) (sized maps) ∙ sym (sum_by-cons map_size m maps)

class_sized : (x : ClassEntry) → info_size (IsClass x) ≡ class_size x
class_sized x =
    ap (λ (n : ℕ). 10 + 2 * length x.public_methods + 2 * length x.package_methods + n) (sized x.interfaces)

interfaces_sized : (is : List InterfaceEntry) → sum_by info_size (map IsInterface is) ≡ sum_by interface_size is
interfaces_sized [] = refl
interfaces_sized (i ∷ is) =
    sum_by-cons info_size (IsInterface i) (map IsInterface is)
    ∙ ap (λ (n : ℕ). interface_size i + n) (interfaces_sized is)
    ∙ sym (sum_by-cons interface_size i is)

of_infos : (broken : ℕ → Info → Class → List ComponentPlace) (c : ClassInfo) (order : List Class)
    → beside info_size broken first_interface (infos c) order
    ≡ beside interface_size (λ k i y. broken k (IsInterface i) y) first_interface c.interfaces order
    ++ beside class_size (λ k x y. broken k (IsClass x) y) (first_class c) c.classes (drop (length c.interfaces) order)
of_infos broken c order =
    let is = map IsInterface c.interfaces in
    let cs = map IsClass c.classes in
    behind info_size broken first_interface is cs order
    ∙ ap (λ (s : List ComponentPlace). s ++ beside info_size broken (first_interface + sum_by info_size is) cs
    (drop (length is) order)) (items_by interface_size info_size broken (λ k i y. broken k (IsInterface i) y)
    IsInterface
    (λ i. refl) (λ k i y. refl) first_interface c.interfaces order)
    ∙ ap (λ (n : ℕ). beside interface_size (λ k i y. broken k (IsInterface i) y) first_interface c.interfaces order
    ++ beside info_size broken (first_interface + n) cs (drop (length is) order)) (interfaces_sized c.interfaces)
    ∙ ap (λ (n : ℕ). beside interface_size (λ k i y. broken k (IsInterface i) y) first_interface c.interfaces order
    ++ beside info_size broken (first_class c) cs (drop n order)) (length_mapped IsInterface c.interfaces)
    ∙ ap (λ (s : List ComponentPlace). beside interface_size (λ k i y. broken k (IsInterface i) y) first_interface
    c.interfaces order ++ s) (items_by class_size info_size broken (λ k x y. broken k (IsClass x) y) IsClass class_sized
    (λ k x y. refl) (first_class c) c.classes (drop (length c.interfaces) order))

-- ---- 729

class_differs_so : (p : Pair) (at : ℕ) (x : ClassEntry) (y : Class) → class_spots p at x y
    ≡ class_differs at x (wanted_entry p y)
class_differs_so p at x y =
    let fields = fields_of p.files y in
    let maps = (table_of (world p) y).maps in
    let with = implemented (class_ref p) in
    let all : ℕ → List ComponentPlace → List ComponentPlace = λ n s.
    unless ((x.flags == info_flags (world p) y) && (length x.interfaces == n)) (in_info 6 at)
    ++ unless (same_class x.superclass (class_ref p (superclass y))) (in_info 6 (at + 1))
    ++ unless (x.declared_instance_size == instance_cells fields) (in_info 6 (at + 3))
    ++ unless (x.first_reference_token == first_reference_token fields) (in_info 6 (at + 4))
    ++ unless (x.reference_count == reference_count fields) (in_info 6 (at + 5))
    ++ s in
    ap (λ (n : ℕ). all n (beside map_size (map_interface p) (maps_begin at x) x.interfaces maps))
    (sym (length_mapped with maps))
    ∙ ap (λ (s : List ComponentPlace). all (length (map with maps)) s) (others_by map_size (map_interface p)
    map_interface_differs with (λ k m w. refl) (maps_begin at x) x.interfaces maps)

interface_so : (p : Pair) (at : ℕ) (i : InterfaceEntry) (y : Class) → info_spots p at (IsInterface i) y
    ≡ interface_beside at i (wanted_info p y)
interface_so p at i y = by (is_interface y.flags)
  where
    by : (b : Bool) → (if b then interface_spots p at i y else in_info 6 at ∷ []) ≡ interface_beside at i (if b
        then wanted.Interface (interface_entry (class_ref p) (world p) y) else wanted.Class (wanted_entry p y))
    by true = refl
    by false = refl

class_so : (p : Pair) (at : ℕ) (x : ClassEntry) (y : Class) → info_spots p at (IsClass x) y
    ≡ class_beside at x (wanted_info p y)
class_so p at x y = by (is_interface y.flags)
  where
    by : (b : Bool) → (if b then in_info 6 at ∷ [] else class_spots p at x y) ≡ class_beside at x (if b
        then wanted.Interface (interface_entry (class_ref p) (world p) y) else wanted.Class (wanted_entry p y))
    by true = refl
    by false = class_differs_so p at x y

pub infos_beside_wanted : (p : Pair) → all_info_spots p ≡ all_beside p.components.class (wanted_infos p)
infos_beside_wanted p =
    let c = p.components.class in
    let order = class_order (world p) in
    let made = wanted_info p in
    of_infos (info_spots p) c order
    ∙ ap (λ (s : List ComponentPlace). s ++ beside class_size (λ k x y. info_spots p k (IsClass x) y) (first_class c)
    c.classes (drop (length c.interfaces) order)) (others_by interface_size (λ k i y. info_spots p k (IsInterface i) y)
    interface_beside made (interface_so p) first_interface c.interfaces order)
    ∙ ap (λ (s : List ComponentPlace). beside interface_size interface_beside first_interface c.interfaces
    (map made order) ++ s) (others_by class_size (λ k x y. info_spots p k (IsClass x) y) class_beside made
    (class_so p) (first_class c) c.classes (drop (length c.interfaces) order)
    ∙ ap (beside class_size class_beside (first_class c) c.classes) (sym (dropped made (length c.interfaces) order)))

-- ---- 725

tables_differ_so : (p : Pair) (at : ℕ) (x : ClassEntry) (y : Class) → table_items p at x (table_of (world p) y)
    ≡ tables_differ at x (wanted_entry p y)
tables_differ_so p at x y =
    let t = table_of (world p) y in
    let with = implemented (class_ref p) in
    let all : (n m k : ℕ) → List ComponentPlace → List ComponentPlace = λ n m k s.
    unless (length x.interfaces == n) (in_info 6 at)
    ++ unless (x.public_base == t.public_base) (in_info 6 (at + 6))
    ++ unless (length x.public_methods == m) (in_info 6 (at + 7))
    ++ unless (x.package_base == t.package_base) (in_info 6 (at + 8))
    ++ unless (length x.package_methods == k) (in_info 6 (at + 9))
    ++ entries_differ (at + 10) x.public_methods (map (public_entry p) t.public)
    ++ entries_differ (at + 10 + 2 * length x.public_methods) x.package_methods (map (method_offset p) t.«package»)
    ++ s in
    let maps = beside map_size (map_spots p) (maps_begin at x) x.interfaces t.maps in
    ap (λ (n : ℕ). all n (length t.public) (length t.«package») maps) (sym (length_mapped with t.maps))
    ∙ ap (λ (n : ℕ). all (length (map with t.maps)) n (length t.«package») maps)
    (sym (length_mapped (public_entry p) t.public))
    ∙ ap (λ (n : ℕ). all (length (map with t.maps)) (length (map (public_entry p) t.public)) n maps)
    (sym (length_mapped (method_offset p) t.«package»))
    ∙ ap (all (length (map with t.maps)) (length (map (public_entry p) t.public))
    (length (map (method_offset p) t.«package»))) (others_by map_size (map_spots p) map_differs with (λ k m w. refl)
    (maps_begin at x) x.interfaces t.maps)

table_so : (p : Pair) (at : ℕ) (x : ClassEntry) (y : Class) → table_spots p at (IsClass x) y
    ≡ tables_beside at x (wanted_info p y)
table_so p at x y = by (is_interface y.flags)
  where
    by : (b : Bool) → (if b then [] else head_of (table_items p at x (table_of (world p) y))) ≡ tables_beside at x (if b
        then wanted.Interface (interface_entry (class_ref p) (world p) y) else wanted.Class (wanted_entry p y))
    by true = refl
    by false = ap head_of (tables_differ_so p at x y)

pub tables_beside_wanted : (p : Pair) → all_table_spots p ≡ all_tables_beside p.components.class (wanted_infos p)
tables_beside_wanted p =
    let c = p.components.class in
    let order = class_order (world p) in
    let made = wanted_info p in
    of_infos (table_spots p) c order
    ∙ ap (λ (s : List ComponentPlace). s ++ beside class_size (λ k x y. table_spots p k (IsClass x) y) (first_class c)
    c.classes (drop (length c.interfaces) order)) (nothing interface_size first_interface c.interfaces order)
    ∙ others_by class_size (λ k x y. table_spots p k (IsClass x) y) tables_beside made (table_so p) (first_class c)
    c.classes (drop (length c.interfaces) order)
    ∙ ap (beside class_size tables_beside (first_class c) c.classes) (sym (dropped made (length c.interfaces) order))

-- ---- 727 at a class

pub abstracts_beside : (p : Pair) → all_abstract_spots p ≡ all_abstract_beside p p.components.class (map (λ (c : Class).
    is_unmade c.flags) (class_order (world p)))
abstracts_beside p =
    let c = p.components.class in
    let order = class_order (world p) in
    let unmade : Class → Bool = λ y. is_unmade y.flags in
    of_infos (abstract_spots p) c order
    ∙ ap (λ (s : List ComponentPlace). s ++ beside class_size (λ k x y. abstract_spots p k (IsClass x) y) (first_class
    c)
    c.classes (drop (length c.interfaces) order)) (nothing interface_size first_interface c.interfaces order)
    ∙ others_by class_size (λ k x y. abstract_spots p k (IsClass x) y) (abstract_beside p) unmade (λ k x y. refl)
    (first_class c) c.classes (drop (length c.interfaces) order)
    ∙ ap (beside class_size (abstract_beside p) (first_class c) c.classes) (sym (dropped unmade (length c.interfaces)
    order))
