-- Where no class of a group implements an interface below one that its package misses (203), what stands in the group
-- above the interfaces of a class is known to its package.
use Rattle.std.proofs.Common.{◌≡◌, ℕ, ◌+◌, sym, ap, subst, ◌∙◌, Bool, true, false, List, ◌∷◌, ◌++◌, map, inl, refl}
use Rattle.std.proofs.Common.{None, Some, []}
use Rattle.std.proofs.Common.{⊎_elim}
use Rattle.std.specs.List.{list_any}
use Rattle.std.specs.Prelude.{◌&&◌, ◌||◌, ◌⊎◌, Option, is_some, not, slice_get}
use Rattle.cjc_bytes.proofs.BrokenRules.{each_at, not_broken}
use Rattle.cjc_bytes.proofs.Bools.{clash, true_or_false}
use Rattle.cjc_bytes.proofs.Gets.{any_flat, any_off, item_there, mapped_at}
use Rattle.cjc_bytes.specs.AccessFlags.{is_interface}
use Rattle.cjc_bytes.specs.Breaks.{Break, at}
use Rattle.cjc_components.specs.ExportFile.{export_class, export_of}
use Rattle.cjc_components.specs.Exports.{exported_classes}
use Rattle.cjc_components.specs.Package.{Package, world}
use Rattle.cjc_group.specs.Members.{Member as Linked}
use Rattle.cjc_group.specs.Missing.{gaps, implements_one, is_below_one, knows, lists_missed, member_missing, misses}
use Rattle.cjc_group.specs.Missing.{missing, missing_above, name_where}
use Rattle.cjc_group.specs.Rules.{class_at}
use Rattle.cjc_joint_proof.specs.JointPackages.{AreLinked, IsLinked, files_together, to_outside, to_package}
use Rattle.cjc_joint_proof.specs.JointTables.{world_together}
use Rattle.cjc_joint_proof.specs.Worlds.{AreApart, IsOwn, before}
use Rattle.cjc_joint_proof.proofs.AboveLaws.{flat_at}
use Rattle.cjc_joint_proof.proofs.ClassLaws.{listing, together_at}
use Rattle.cjc_joint_proof.proofs.OutsideLaws.{outside_kept}
use Rattle.cjc_joint_proof.proofs.SoundLaws.{apart as names_apart}
use Rattle.cjc_joint_proof.proofs.StandLaws.{Inside, Outside, stands}
use Rattle.cjc_joint_proof.proofs.WorldLaws.{outside_is_found, own_is_found}
use Rattle.cjc_joint_whole.specs.Faces.{InterfacesAreKnown}
use Rattle.cjc_joint_whole.specs.Linking.{KeepGroupRules, linked_as}
use Rattle.cjc_jvm_semantics.specs.Group.{joint_exports}
use Rattle.cjc_shape_proof.proofs.ExportedOwn.{own_class}
use Rattle.cjc_theorem.proofs.FairWriting.Upwards.{under_super}
use Rattle.cjc_token_proof.proofs.TablesLaws.Clean.{has_named, kept as kept_class}
use Rattle.cjc_token_proof.proofs.TablesLaws.Filed.{has-back}
use Rattle.cjc_token_proof.proofs.TablesLaws.Interfaces.{gathered_has, once_has}
use Rattle.cjc_token_proof.proofs.TablesLaws.Lists.{interfaces_there, lists_either, none_lists, supers_there}
use Rattle.cjc_token_proof.specs.ByToken.Supers.{has_class}
use Rattle.cjc_token_proof.specs.ClassOrder.Supers.Supers.{interfaces, name_of, superclasses}
use Rattle.cjc_token_proof.specs.Subset.Members.{imports}
use Rattle.cjc_token_proof.specs.Tables.Sound.{IsSound}
use Rattle.cjc_vtable.proofs.Filed.{Has, IsFiled, at_front, behind, filed, get-has, has-get, in_class_file}
use Rattle.cjc_vtable.proofs.Filed.{in_export_file, of-imports}
use Rattle.cjc_vtable.specs.Laws.{itself}
use Rattle.cjc_world.proofs.Cycles.{class_named-name}
use Rattle.cjc_world.proofs.Settled.{lists-behind, lists-front, supertypes-AreSupertypes}
use Rattle.cjc_world.proofs.Unbroken.{unbroken_is_acyclic}
use Rattle.cjc_world.proofs.UpwardLaws.Lines.{below_on, below_subclass, listed_below, same_class}
use Rattle.cjc_world.specs.ClassFile.declared.tree.ClassTree.{ClassTree}
use Rattle.cjc_world.specs.Classes.{Class, class_named, declared, imported}
use Rattle.cjc_world.specs.ExportFile.declared.tree.ExportClass.{ExportClass}
use Rattle.cjc_world.specs.ExportFile.declared.tree.ExportTree.{ExportTree}
use Rattle.cjc_world.specs.Files.{Files}
use Rattle.cjc_world.specs.Interfaces.{Interface, each_once, gathered}
use Rattle.cjc_world.specs.Subtype.{is_subclass}
use Rattle.cjc_world.specs.Supertypes.{Above, IsAcyclic, Lists, after, directly, foremost, onwards, supertypes}
use Rattle.cjc_world.specs.Upwards.{Below}

-- ---- tests of lists

any_lists : (test : List ℕ → Bool) (xs : List (List ℕ)) (y : List ℕ) → Lists y xs → test y ≡ true
    → list_any test xs ≡ true
any_lists test xs y l is = ⊎_elim (λ t. t) (λ f. clash (test y) is (none_lists test xs f y l))
    (true_or_false (list_any test xs))

any_on : {A : Type 0} (test : A → Bool) (xs : List A) (i : ℕ) (x : A) → slice_get xs i ≡ Some x → test x ≡ true
    → list_any test xs ≡ true
any_on test xs i x at is = ⊎_elim (λ t. t) (λ f. clash (test x) is (any_off test xs i x f at))
    (true_or_false (list_any test xs))

one_or : (a b : Bool) → a ≡ true → (a || b) ≡ true
one_or true b e = refl
one_or false b e = cc

other_or : (a b : Bool) → b ≡ true → (a || b) ≡ true
other_or true b e = refl
other_or false b e = e

both_and : (a b : Bool) → a ≡ true → b ≡ true → (a && b) ≡ true
both_and true b e f = f
both_and false b e f = cc

ground_rest : (b a : Bool) → b ≡ false → (not b && a) ≡ false → a ≡ false
ground_rest true a e f = cc
ground_rest false a e f = f

some_class : (o : Option Class) → is_some o ≡ true → (b : Class) × (o ≡ Some b)
some_class None e = cc
some_class (Some b) e = (b, refl)

-- ---- an interface that a class lists is among its interfaces, whether some file has it or not

names_has : (is : List Interface) (i : Interface) → Has i is → Lists (name_of i) (map name_of is)
names_has [] i h = elim h [ ]
names_has (j ∷ is) _ at_front = foremost
names_has (j ∷ is) i (behind h) = after (names_has is i h)

interface_listed : (w : List Class) → IsAcyclic w → (d : Class) (y : List ℕ) → Lists y d.interfaces
    → Lists y (interfaces w d)
interface_listed w acyclic d y l =
    let all = gathered false (supertypes w d.supers) ++ gathered true (supertypes w d.interfaces) in
    let one : Interface = record { name = y; class = class_named w y } in
    let there = has-back one (gathered false (supertypes w d.supers)) (gathered true (supertypes w d.interfaces))
    (gathered_has w d.interfaces (supertypes w d.interfaces) (supertypes-AreSupertypes w acyclic d.interfaces) y l) in
    let j = once_has [] all one there refl in
    subst (λ n. Lists n (interfaces w d)) j.2 (names_has (each_once [] all) j.0 j.1)

starts : (w : List Class) (x y : List ℕ) → Above w x y → (c : Class) × (class_named w x ≡ Some c)
starts w x y (directly c e l) = (c, e)
starts w x y (onwards c e l rest) = (c, e)

module _ (packages : List Package) (rules : KeepGroupRules packages) (linked : AreLinked packages)
    (none : missing (map linked_as packages) ≡ []) where
  abbrev group : List Files
  group = files_together packages

  abbrev w : List Class
  w = world_together packages

  abbrev ms : List Linked
  ms = map linked_as packages

  are_apart : AreApart group
  are_apart = names_apart group linked.sound

  linked_there : (q : ℕ) (p : Package) → slice_get packages q ≡ Some p → slice_get ms q ≡ Some (linked_as p)
  linked_there q p here = item_there linked_as packages q p here

  sound : (q : ℕ) (p : Package) (here : slice_get packages q ≡ Some p) → IsSound (let s = rules.each q p here in s.list)
      p.files
  sound q p here = let s = rules.each q p here in s.sound

  acyclic : (q : ℕ) (p : Package) → slice_get packages q ≡ Some p → IsAcyclic (world p)
  acyclic q p here =
      let s = rules.each q p here in
      let all = sound q p here in
      unbroken_is_acyclic s.list p.files all.unbroken

  -- a class that the group has is known to one of its packages
  known_to_one : (y : List ℕ) (d : Class) → class_named w y ≡ Some d → list_any (λ m. knows y m) ms ≡ true
  known_to_one y d named = ⊎_elim inside outside (stands packages linked y d named)
    where
      inside : Inside packages linked y d → list_any (λ m. knows y m) ms ≡ true
      inside i = any_on (λ m. knows y m) ms i.part (linked_as i.«package») (linked_there i.part i.«package» i.here)
          (ap (λ o. is_some o) i.there)

      outside : Outside packages linked y d → list_any (λ m. knows y m) ms ≡ true
      outside o = any_on (λ m. knows y m) ms o.part (linked_as o.importer) (linked_there o.part o.importer o.here)
          (ap (λ x. is_some x) o.imported_there)

  module _ (q : ℕ) (p : Package) (here : slice_get packages q ≡ Some p) where
    abbrev v : List Class
    v = world p

    -- what a class file lists is known (203)
    listed_known : (x : List ℕ) (c : Class) → class_named v x ≡ Some c → c.is_imported ≡ false → (y : List ℕ)
        → Lists y (c.supers ++ c.interfaces) → has_class v y ≡ true
    listed_known x c known own y l =
        let its = kept_class (let s = rules.each q p here in s.list) p.files (sound q p here) c (has_named v x c known) in
        ⊎_elim (λ m. supers_there v c (its.there own) y m) (λ m. interfaces_there v c (its.there own) y m)
        (lists_either c.supers c.interfaces y l)

    -- ---- what a class of the group lists, the package's own world lists there too

    module _ (x : List ℕ) (c : Class) (named : class_named w x ≡ Some c) (y : List ℕ)
        (l : Lists y (c.supers ++ c.interfaces)) where
      -- of what is written for a package before
      of_written : (r : ℕ) (m : Package) → slice_get packages r ≡ Some m → (j : ℕ) (e : ExportClass)
          → slice_get (let t = export_of m in t.classes) j ≡ Some e → e.name ≡ x → Lists y (e.supers ++ e.interfaces)
      of_written r m there j e listed name =
          let d = mapped_at (export_class m) (exported_classes m) j e listed in
          let o = own_class m j d.0 d.1 in
          let called : (let t = o.tree in t.name) ≡ x = ap (λ (k : Class). k.name) (sym o.is)
          ∙ ap (λ (k : ExportClass). k.name) d.2 ∙ name in
          let own : IsOwn group r o.number m.files o.tree = record {
            member = together_at packages linked r m there;
            file = o.is_tree;
          } in
          let one : declared (before group r + o.number) o.tree ≡ c = same_class (sym (own_is_found group are_apart r
          o.number m.files o.tree own) ∙ ap (class_named w) called ∙ named) in
          let tree_lists : Lists y (declared o.number o.tree).supers ⊎ Lists y (declared o.number o.tree).interfaces =
          lists_either (declared o.number o.tree).supers (declared o.number o.tree).interfaces y
          (subst (λ (k : Class). Lists y (k.supers ++ k.interfaces)) (sym one) l) in
          let its : Lists y (let k = d.0 in k.supers) ⊎ Lists y (let k = d.0 in k.interfaces) =
          subst (λ (k : Class). Lists y k.supers ⊎ Lists y k.interfaces) (sym o.is) tree_lists in
          let u = world m in
          subst (λ (k : ExportClass). Lists y (k.supers ++ k.interfaces)) d.2 (⊎_elim
          (λ s. lists-front y (superclasses u d.0) (interfaces u d.0) (under_super u (acyclic r m there) d.0 y y s
          itself))
          (λ i. lists-behind y (superclasses u d.0) (interfaces u d.0) (interface_listed u (acyclic r m there) d.0 y i))
          its)

      of_tree : (t : ExportTree) (k : ℕ) → (let f = p.files in slice_get f.exports k ≡ Some t) → (j : ℕ)
          (e : ExportClass) → slice_get t.classes j ≡ Some e → e.name ≡ x → IsLinked packages q t
          → Lists y (e.supers ++ e.interfaces)
      of_tree t k file j e listed name (to_package r m less there same) =
          of_written r m there j e (ap (λ (u : ExportTree). slice_get u.classes j) (sym same) ∙ listed) name
      of_tree t k file j e listed name (to_outside out) =
          let n = flat_at (λ (g : Files). g.exports) group q k p.files t (together_at packages linked q p here) file in
          let kept = outside_kept group n.0 t n.1 out (λ i u at called. (let z = listing packages linked i u at in
          linked.same q k z.part z.place p z.«package» t u (record { member = here; file = file }) z.listed out called))
          in
          let all = flat_at (λ (u : ExportTree). u.classes) (joint_exports group) _ j t e kept listed in
          let one : imported all.0 e ≡ c = same_class (sym (outside_is_found group are_apart rules.outside all.0 e all.1)
          ∙ ap (class_named w) name ∙ named) in
          subst (λ (k : Class). Lists y (k.supers ++ k.interfaces)) (sym one) l

      lists_kept : (a : Class) → class_named v x ≡ Some a → Lists y (a.supers ++ a.interfaces)
      lists_kept a known = by a (filed p.files x a known) known
        where
          by : (a : Class) → IsFiled p.files a → class_named v x ≡ Some a → Lists y (a.supers ++ a.interfaces)
          by _ (in_class_file n t file) known =
              let name : t.name ≡ x = class_named-name v x (declared n t) known in
              let own : IsOwn group q n p.files t = record {
                member = together_at packages linked q p here;
                file = file;
              } in
              let one : declared (before group q + n) t ≡ c = same_class (sym (own_is_found group are_apart q n p.files t
              own) ∙ ap (class_named w) name ∙ named) in
              subst (λ (k : Class). Lists y (k.supers ++ k.interfaces)) (sym one) l
          by _ (in_export_file n e file) known =
              let name : e.name ≡ x = class_named-name v x (imported n e) known in
              let f = p.files in
              let of = of-imports e f.exports (get-has e (imports f.exports) n file) in
              let k = has-get of.0 f.exports of.1 in
              let j = has-get e (let u = of.0 in u.classes) of.2 in
              of_tree of.0 k.0 k.1 j.0 e j.1 name (linked.imports q k.0 p of.0 (record { member = here; file = k.1 }))

    -- ---- above an interface that a class lists

    module _ (n : ℕ) (t : ClassTree) (file : (let f = p.files in slice_get f.classes n ≡ Some t))
        (ground : is_interface t.flags ≡ false) (i : List ℕ) (listed : Lists i t.interfaces) where
      abbrev names : List (List ℕ)
      names = gaps ms (linked_as p)

      unbroken : implements_one v names t ≡ false
      unbroken =
          let all : ℕ → Linked → List Break = λ j m. member_missing ms j m in
          let its : ℕ → ClassTree → List Break = λ k c. at (implements_one v names c) (class_at q (linked_as p) k c) 203
          in
          not_broken (implements_one v names t) (class_at q (linked_as p) n t) 203
          (each_at its n (let f = p.files in f.classes) t (each_at all q ms (linked_as p) none (linked_there q p here))
          file)

      -- no class that lists one that the package misses is it or stands above it
      no_gap : list_any (λ x. is_subclass v i x) names ≡ false
      no_gap = none_lists (λ j. is_below_one v names j) t.interfaces (ground_rest (is_interface t.flags)
          (list_any (λ j. is_below_one v names j) t.interfaces) ground unbroken) i listed

      missed : (e : ExportClass) (y : List ℕ) → Lists y (e.supers ++ e.interfaces) → class_named v y ≡ None
          → (d : Class) → class_named w y ≡ Some d → lists_missed ms (linked_as p) e ≡ true
      missed e y l unknown d named =
          let test : List ℕ → Bool = λ x. misses ms (linked_as p) x in
          let is : misses ms (linked_as p) y ≡ true = both_and (not (knows y (linked_as p))) (list_any (λ m. knows y m) ms)
          (ap (λ o. not (is_some o)) unknown) (known_to_one y d named) in
          ⊎_elim
          (λ s. one_or (list_any test e.supers) (list_any test e.interfaces) (any_lists test e.supers y s is))
          (λ s. other_or (list_any test e.supers) (list_any test e.interfaces) (any_lists test e.interfaces y s is))
          (lists_either e.supers e.interfaces y l)

      -- an export file lists no such one above a class that is the interface or stands above it
      none_missed : (x : List ℕ) → Below v i x → (u : ExportTree) (k : ℕ)
          → (let f = p.files in slice_get f.exports k ≡ Some u) → (j : ℕ) (e : ExportClass)
          → slice_get u.classes j ≡ Some e → e.name ≡ x → (y : List ℕ) → Lists y (e.supers ++ e.interfaces)
          → class_named v y ≡ None → (d : Class) → class_named w y ≡ Some d → ⊥
      none_missed x below u k at_u j e at_e name y l unknown d named =
          let test : List ℕ → Bool = λ z. is_subclass v i z in
          let up : test e.name ≡ true = ap test name ∙ below_subclass v i x below in
          let one : list_any test (name_where (lists_missed ms (linked_as p) e) e.name) ≡ true =
          ap (λ b. list_any test (name_where b e.name)) (missed e y l unknown d named)
          ∙ one_or (test e.name) false up in
          clash (list_any test names) (any_flat test (λ (z : ExportTree). missing_above ms (linked_as p) z.classes)
          (let f = p.files in f.exports) k u at_u (any_flat test (λ (z : ExportClass). name_where
          (lists_missed ms (linked_as p) z) z.name) u.classes j e at_e one)) no_gap

      step : (x : List ℕ) (a : Class) → class_named v x ≡ Some a → Below v i x → (y : List ℕ)
          → Lists y (a.supers ++ a.interfaces) → (d : Class) → class_named w y ≡ Some d → (b : Class)
          × (class_named v y ≡ Some b)
      step x a known below y l d named = by (class_named v y) refl
        where
          of_file : (a : Class) → IsFiled p.files a → class_named v x ≡ Some a → Lists y (a.supers ++ a.interfaces)
              → class_named v y ≡ None → ⊥
          of_file _ (in_class_file k u at_u) known l unknown =
              clash (has_class v y) (listed_known x (declared k u) known refl y l) (ap (λ o. is_some o) unknown)
          of_file _ (in_export_file k e at_e) known l unknown =
              let f = p.files in
              let of = of-imports e f.exports (get-has e (imports f.exports) k at_e) in
              let m = has-get of.0 f.exports of.1 in
              let j = has-get e (let u = of.0 in u.classes) of.2 in
              none_missed x below of.0 m.0 m.1 j.0 e j.1 (class_named-name v x (imported k e) known) y l unknown d named

          by : (o : Option Class) → class_named v y ≡ o → (b : Class) × (class_named v y ≡ Some b)
          by (Some b) e = (b, e)
          by None e = absurd (of_file a (filed p.files x a known) known l e)

      go : (x y : List ℕ) → Above w x y → (a : Class) → class_named v x ≡ Some a → Below v i x → (d : Class)
          → class_named w y ≡ Some d → (b : Class) × (class_named v y ≡ Some b)
      go x y (directly c e l) a known below d named = step x a known below y (lists_kept x c e y l a known) d named
      go x z (onwards {y = y} c e l rest) a known below d named =
          let up = lists_kept x c e y l a known in
          let m = starts w y z rest in
          let b = step x a known below y up m.0 m.1 in
          go y z rest b.0 b.1 (below_on v i x y below (listed_below v x y y a known up (inl refl))) d named

  -- so what stands above the interfaces of a class is known
  pub interfaces_known : InterfacesAreKnown packages
  interfaces_known q p here x c named own ground i listed y d way there face = by c (filed p.files x c named) named own
      ground listed
    where
      by : (c : Class) → IsFiled p.files c → class_named (world p) x ≡ Some c → c.is_imported ≡ false
          → is_interface c.flags ≡ false → Lists i c.interfaces → (b : Class) × (class_named (world p) y ≡ Some b)
      by _ (in_class_file n t file) named own ground listed =
          let j = some_class (class_named (world p) i) (listed_known q p here x (declared n t) named refl i (lists-behind i
          (t.superclass ∷ []) t.interfaces listed)) in
          go q p here n t file ground i listed i y way j.0 j.1 (inl refl) d there
      by _ (in_export_file n e file) named own ground listed = absurd cc
