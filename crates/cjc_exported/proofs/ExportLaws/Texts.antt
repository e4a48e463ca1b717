-- The names of what stands above a class are texts.
use Rattle.std.proofs.Common.{◌≡◌, ℕ, zero, suc, refl, sym, subst, Bool, true, false, List, [], ◌∷◌, ◌++◌, length}
use Rattle.std.proofs.Common.{Option, Some, None}
use Rattle.std.specs.Prelude.{if◌then◌else◌}
use Rattle.std.specs.List.{AllByRecursion}
use Rattle.cjc_world.proofs.ExportFileRooted.{root_texts}
use Rattle.cjc_world.specs.ExportFile.Supers.{is_one_of}
use Rattle.cjc_world.specs.ExportFile.Writable.{ClassFits, IsText}
use Rattle.cjc_world.specs.Classes.{Class, class_named}
use Rattle.cjc_world.specs.Supertypes.{Supertypes, End, Unknown, Known, supertypes_within, in_a_row, supertypes}
use Rattle.cjc_world.specs.Supertypes.{known_as}
use Rattle.cjc_world.specs.Interfaces.{Interface, gathered, is_among, where_listed}
use Rattle.cjc_world.specs.Interfaces as worlds
use Rattle.cjc_components.specs.LowerClassOrder.Supers.Supers.{each_once, interfaces, name_of, names_upwards}
use Rattle.cjc_components.specs.LowerClassOrder.Supers.Supers.{superclasses}
use Rattle.cjc_components.specs.LowerSubset.Members.{imports}
use Rattle.cjc_components.proofs.VTableFiled.{IsFiled, filed, get-has, has-get, in_class_file}
use Rattle.cjc_components.proofs.VTableFiled.{in_export_file, of-imports}
use Rattle.cjc_components.specs.Package.{Package, world}
use Rattle.cjc_exported.specs.Exportable.{IsExportable}
use Rattle.cjc_exported.proofs.ExportLaws.Each.{all_mapped}
use Rattle.cjc_exported.proofs.ExportLaws.Own.{IsOwn}
use Rattle.cjc_components.proofs.VTableRead.{each-after}
use Rattle.cjc_world.proofs.BytesQuantified.{all_both}

-- ---- what a class lists

pub record ListsTexts (c : Class) : Type 0 where
  pub name : IsText c.name
  pub supers : AllByRecursion IsText c.supers
  pub interfaces : AllByRecursion IsText c.interfaces

pub lists_texts : (p : Package) → IsExportable p → (x : List ℕ) (c : Class) → class_named (world p) x ≡ Some c
    → ListsTexts c
lists_texts p h x c e = by c (filed p.files x c e)
  where
    by : (c : Class) → IsFiled p.files c → ListsTexts c
    by c (in_class_file n t is) = let r = h.classes n t is in record {
      name = r.name;
      supers = (r.superclass, tt);
      interfaces = r.interfaces;
    }
    by c (in_export_file n d is) =
        let files = p.files in
        let (t, of_file, of_tree) = of-imports d files.exports (get-has d (imports files.exports) n is) in
        let (k, place) = has-get t files.exports of_file in
        let fits = h.exports k t place in
        let (before, one) = each-after ClassFits [] t.classes d fits.classes of_tree in
        record {
          name = one.name;
          supers = subst (AllByRecursion IsText) (sym one.supers) (root_texts d.name d.listed one.listed);
          interfaces = one.interfaces;
        }

-- ---- a tree of names

abbrev AreTexts : Supertypes → Type 0
AreTexts End = Unit {0}
AreTexts (Unknown name next) = IsText name × AreTexts next
AreTexts (Known c supers interfaces next) = IsText c.name × AreTexts supers × AreTexts interfaces × AreTexts next

module _ (w : List Class) (lists : (x : List ℕ) (c : Class) → class_named w x ≡ Some c → ListsTexts c) where
  row_texts : (above : List (List ℕ) → Supertypes) → ((ys : List (List ℕ)) → AllByRecursion IsText ys
      → AreTexts (above ys)) → (xs : List (List ℕ)) → AllByRecursion IsText xs → AreTexts (in_a_row w above xs)
  row_texts above deep [] h = tt
  row_texts above deep (x ∷ xs) h = by (row_texts above deep xs h.1) (class_named w x) refl
    where
      by : AreTexts (in_a_row w above xs) → (o : Option Class) → class_named w x ≡ o
          → AreTexts (known_as above x o (in_a_row w above xs))
      by rest None e = (h.0, rest)
      by rest (Some c) e = let l = lists x c e in (l.name, deep c.supers l.supers, deep c.interfaces l.interfaces, rest)

  grown_texts : (n : ℕ) (xs : List (List ℕ)) → AllByRecursion IsText xs → AreTexts (supertypes_within w n xs)
  unfolding supertypes_within
  grown_texts zero xs h = tt
  grown_texts (suc n) xs h = row_texts (supertypes_within w n) (grown_texts n) xs h

  supertypes_texts : (xs : List (List ℕ)) → AllByRecursion IsText xs → AreTexts (supertypes w xs)
  unfolding supertypes
  supertypes_texts xs h = grown_texts (suc (length w)) xs h

upwards_texts : (k : Supertypes) → AreTexts k → AllByRecursion IsText (names_upwards k)
upwards_texts End h = tt
upwards_texts (Unknown name next) h = (h.0, upwards_texts next h.1)
upwards_texts (Known c supers interfaces next) h = (
  h.0,
  all_both IsText (names_upwards supers) (names_upwards next)
      (upwards_texts supers h.1) (upwards_texts next h.3),
)

abbrev NameIsText : Interface → Type 0
NameIsText i = IsText (name_of i)

gathered_texts : (listed : Bool) (k : Supertypes) → AreTexts k → AllByRecursion NameIsText (gathered listed k)
unfolding gathered
gathered_texts listed End h = tt
gathered_texts listed (Unknown name next) h = all_both NameIsText (where_listed listed (record {
  name = name;
  class = None;
})) (gathered listed next) (one listed) (gathered_texts listed next h.1)
  where
    one : (b : Bool) → AllByRecursion NameIsText (where_listed b (record { name = name; class = None }))
    one true = (h.0, tt)
    one false = tt
gathered_texts listed (Known c supers above next) h =
    all_both NameIsText (gathered false supers ++ gathered true above ++ where_listed listed (record {
      name = c.name;
      class = Some c;
    })) (gathered listed next)
    (all_both NameIsText (gathered false supers ++ gathered true above) (where_listed listed (record {
      name = c.name;
      class = Some c;
    })) (all_both NameIsText (gathered false supers) (gathered true above)
    (gathered_texts false supers h.1) (gathered_texts true above h.2)) (one listed))
    (gathered_texts listed next h.3)
  where
    one : (b : Bool) → AllByRecursion NameIsText (where_listed b (record { name = c.name; class = Some c }))
    one true = (h.0, tt)
    one false = tt

once_texts : (seen xs : List (List ℕ)) → AllByRecursion IsText xs → AllByRecursion IsText (each_once seen xs)
once_texts seen [] h = tt
once_texts seen (x ∷ xs) h = by (is_one_of seen x) (once_texts seen xs h.1) (once_texts (seen ++ x ∷ []) xs h.1)
  where
    by : (b : Bool) → AllByRecursion IsText (each_once seen xs) → AllByRecursion IsText (each_once (seen ++ x ∷ []) xs)
        → AllByRecursion IsText (if b then each_once seen xs else x ∷ each_once (seen ++ x ∷ []) xs)
    by true p q = p
    by false p q = (h.0, q)

interfaces_once : (seen xs : List Interface) → AllByRecursion NameIsText xs
    → AllByRecursion NameIsText (worlds.each_once seen xs)
interfaces_once seen [] h = tt
interfaces_once seen (x ∷ xs) h = by (is_among seen x.name) (interfaces_once seen xs h.1) (interfaces_once (seen
    ++ x ∷ []) xs h.1)
  where
    by : (b : Bool) → AllByRecursion NameIsText (worlds.each_once seen xs)
        → AllByRecursion NameIsText (worlds.each_once (seen ++ x ∷ []) xs) → AllByRecursion NameIsText (if b
        then worlds.each_once seen xs else x ∷ worlds.each_once (seen ++ x ∷ []) xs)
    by true p q = p
    by false p q = (h.0, q)

-- ---- of an exported class

own_lists : (p : Package) → IsExportable p → (c : Class) → IsOwn p c → ListsTexts c
own_lists p h c own =
    let r = h.classes own.number own.tree own.is_tree in
    subst ListsTexts (sym own.is) (record { name = r.name; supers = (r.superclass, tt); interfaces = r.interfaces })

pub name_text : (p : Package) → IsExportable p → (c : Class) → IsOwn p c → IsText c.name
name_text p h c own = let l = own_lists p h c own in l.name

pub super_texts : (p : Package) → IsExportable p → (c : Class) → IsOwn p c
    → AllByRecursion IsText (superclasses (world p) c)
super_texts p h c own =
    let l = own_lists p h c own in
    once_texts [] (names_upwards (supertypes (world p) c.supers)) (upwards_texts (supertypes (world p) c.supers)
    (supertypes_texts (world p) (lists_texts p h) c.supers l.supers))

pub interface_texts : (p : Package) → IsExportable p → (c : Class) → IsOwn p c
    → AllByRecursion IsText (interfaces (world p) c)
interface_texts p h c own =
    let l = own_lists p h c own in
    let all = gathered false (supertypes (world p) c.supers) ++ gathered true (supertypes (world p) c.interfaces) in
    all_mapped IsText name_of (worlds.each_once [] all) (interfaces_once [] all
    (all_both NameIsText (gathered false (supertypes (world p) c.supers))
    (gathered true (supertypes (world p) c.interfaces))
    (gathered_texts false (supertypes (world p) c.supers) (supertypes_texts (world p) (lists_texts p h) c.supers
    l.supers))
    (gathered_texts true (supertypes (world p) c.interfaces) (supertypes_texts (world p) (lists_texts p h) c.interfaces
    l.interfaces))))
