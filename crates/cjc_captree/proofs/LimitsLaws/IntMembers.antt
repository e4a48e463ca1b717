-- Which descriptors of a package name int.
use Rattle.std.proofs.Common.{◌≡◌, ℕ, ◌+◌, ◌<◌, length, Bool, true, false, List, [], ◌∷◌, map, take, refl, sym, ap, ◌∙◌}
use Rattle.std.proofs.Common.{Option, Some, None}
use Rattle.std.specs.Prelude.{◌||◌, not, is_some, option_map, slice_get, filter, if◌then◌else◌}
use Rattle.std.specs.List.{list_any}
use Rattle.std.proofs.lemmas.Option.{slice_get_within}
use Rattle.std.proofs.lemmas.List.Folds.{list_any-append}
use Rattle.std.proofs.lemmas.Map.Keys.{any_passes_from_place}
use Rattle.cjc_exported.specs.Bytes.declared.fault.MemberId.{MemberId}
use Rattle.cjc_classes.specs.ClassFile.declared.tree.ClassTree.{ClassTree}
use Rattle.cjc_classes.specs.Subset.Types.{is_int_desc}
use Rattle.cjc_exported.specs.World.Files.{Files}
use Rattle.cjc_exported.specs.World.Classes.{Member, Class, declared, field_of_class, method_of_class, all_classes}
use Rattle.cjc_exported.specs.World.Classes.{class_at}
use Rattle.cjc_exported.specs.World.declared.class.Known.{Known}
use Rattle.cjc_exported.specs.World.Working.Known.{class_of}
use Rattle.cjc_exported.specs.World.Added.{added, added_at, named_by}
use Rattle.cjc_classes.proofs.VTableNumbers.{at-tree}
use Rattle.cjc_exported.proofs.ExportFile.ByNumber.{of-number}
use Rattle.cjc_exported.specs.ExportFile.Working.Sources.{is_of_kind}
use Rattle.cjc_exported.specs.Components.Components.{has_int, uses_int}
use Rattle.cjc_exported.specs.Components.Descriptor.{as_added}
use Rattle.cjc_captree.proofs.LimitsLaws.Lists.{none_more, none_passes}
use Rattle.cjc_classes.proofs.BytesQuantified.{any_of_map}
use Rattle.cjc_classes.proofs.TypeInfo.Order.{added_is}

-- ---- a class

-- its members, and those that it got
pub class_ints : (files : Files) (n : ℕ) (c : Class) (t : ClassTree) (ids : List MemberId) (r : Bool)
    → class_at (all_classes files) false n ≡ Some c → slice_get files.classes n ≡ Some t → ids ≡ added_at files n
    → r ≡ ((list_any (λ f. is_int_desc f.desc) t.fields || list_any (λ m. is_int_desc m.desc) t.methods)
    || list_any (λ m. is_int_desc m.desc) ids) → r ≡ has_int (all_classes files) c
class_ints files n c t ids r is tree got e =
    let (u, is_tree, is_class) = at-tree files n c is in
    let same : u ≡ t = (let g = sym is_tree ∙ tree in cc) in
    let class : c ≡ declared n t = is_class ∙ ap (declared n) same in
    let given = added (all_classes files) (declared n t) in
    let fields = any_of_map (λ (f : Member). is_int_desc f.desc) field_of_class t.fields in
    let methods = any_of_map (λ (m : Member). is_int_desc m.desc) method_of_class t.methods in
    let ids_are : list_any (λ (m : MemberId). is_int_desc m.desc) ids ≡ list_any (λ (m : Member). is_int_desc m.desc)
    given =
    ap (list_any (λ (m : MemberId). is_int_desc m.desc)) (got ∙ added_is files n t tree)
    ∙ any_of_map (λ (m : MemberId). is_int_desc m.desc) (named_by t.name) given in
    let added_are : list_any (λ (m : Member). is_int_desc m.desc) (map as_added given)
    ≡ list_any (λ (m : Member). is_int_desc m.desc) given = any_of_map (λ (m : Member). is_int_desc m.desc) as_added
    given in
    let all = list_any-append (λ (m : Member). is_int_desc m.desc) (map method_of_class t.methods) (map as_added given)
    in
    e
    ∙ ap (λ b. (list_any (λ f. is_int_desc f.desc) t.fields || list_any (λ m. is_int_desc m.desc) t.methods)
    || b) (ids_are ∙ sym added_are)
    ∙ joined (list_any (λ f. is_int_desc f.desc) t.fields) (list_any (λ m. is_int_desc m.desc) t.methods)
    (list_any (λ (m : Member). is_int_desc m.desc) (map as_added given))
    ∙ ap (λ b. b || (list_any (λ m. is_int_desc m.desc) t.methods || list_any (λ (m : Member). is_int_desc m.desc)
    (map as_added given))) (sym fields)
    ∙ ap (λ b. list_any (λ (f : Member). is_int_desc f.desc) (map field_of_class t.fields)
    || (b || list_any (λ (m : Member). is_int_desc m.desc) (map as_added given))) (sym methods)
    ∙ ap (λ b. list_any (λ (f : Member). is_int_desc f.desc) (map field_of_class t.fields) || b) (sym all)
    ∙ ap (has_int (all_classes files)) (sym class)
  where
    joined : (a b d : Bool) → ((a || b) || d) ≡ (a || (b || d))
    joined true b d = refl
    joined false b d = refl

-- ---- a class of a number, as it is found

pub is_found : (o : Option Known) (q : Option Class) (none : Bool) → option_map class_of o ≡ q → is_some o ≡ not none
    → none ≡ false → (c : Class) × (q ≡ Some c)
is_found None q none e f g = let h : false ≡ true = f ∙ ap not g in cc
is_found (Some k) q none e f g = (class_of k, sym e)

pub is_missing : (o : Option Known) (q : Option Class) (none : Bool) → option_map class_of o ≡ q → is_some o ≡ not none
    → none ≡ true → q ≡ None
is_missing None q none e f g = sym e
is_missing (Some k) q none e f g = let h : true ≡ false = f ∙ ap not g in cc

-- the class file of a class
pub has_file : (files : Files) (n : ℕ) (c : Class) → class_at (all_classes files) false n ≡ Some c
    → n < length files.classes
has_file files n c e = let (t, there, same) = at-tree files n c e in slice_get_within files.classes n t there

-- ---- all classes

own_alone : (test : Class → Bool) (w : List Class) → list_any (λ c. if c.is_imported then false else test c) w
    ≡ list_any test (filter (is_of_kind false) w)
own_alone test [] = refl
own_alone test (c ∷ w) = by c.is_imported (own_alone test w)
  where
    by : (b : Bool) → list_any (λ c. if c.is_imported then false else test c) w
        ≡ list_any test (filter (is_of_kind false) w)
        → ((if b then false else test c) || list_any (λ c. if c.is_imported then false else test c) w)
        ≡ list_any test (if not b then c ∷ filter (is_of_kind false) w else filter (is_of_kind false) w)
    by true e = e
    by false e = ap (λ r. test c || r) e

module _ (files : Files) where
  -- the package's classes by number
  abbrev pub own : List Class
  own = filter (is_of_kind false) (all_classes files)

  pub ints_more : (k : ℕ) (c : Class) → class_at (all_classes files) false k ≡ Some c → has_int (all_classes files) c
      ≡ false → list_any (has_int (all_classes files)) (take k own) ≡ false
      → list_any (has_int (all_classes files)) (take (k + 1) own) ≡ false
  ints_more k c is isnt so_far = none_more (has_int (all_classes files)) own k c (of-number files false k
      ∙ is) isnt so_far

  pub ints_found : (k : ℕ) (c : Class) → class_at (all_classes files) false k ≡ Some c → has_int (all_classes files) c
      ≡ true → true ≡ uses_int (all_classes files)
  ints_found k c is is_so = sym (own_alone (has_int (all_classes files)) (all_classes files)
      ∙ any_passes_from_place (has_int (all_classes files)) own k c (of-number files false k ∙ is) is_so)

  pub ints_none : (k : ℕ) → class_at (all_classes files) false k ≡ None
      → list_any (has_int (all_classes files)) (take k own) ≡ false → false ≡ uses_int (all_classes files)
  ints_none k is so_far = sym (own_alone (has_int (all_classes files)) (all_classes files)
      ∙ none_passes (has_int (all_classes files)) own k (of-number files false k ∙ is) so_far)
