-- What packages that break no rule together keep of what stands above classes: no class from outside lists a class of
-- one of them (rule 732), and no class stands above itself (204).
use Rattle.std.proofs.Common.{◌≡◌, ◌⊎◌, ℕ, zero, suc, sym, ap, subst, ◌∙◌, Bool, true, false, List, [], ◌∷◌, ◌++◌}
use Rattle.std.proofs.Common.{Some, flat_map, inl, inr, refl, ⊎_elim}
use Rattle.std.specs.Prelude.{◌||◌, if◌then◌else◌, is_some, map, slice_get}
use Rattle.std.specs.List.{list_any}
use Rattle.std.specs.Str.{bytes_eq}
use Rattle.cjc_bytes.proofs.Bools.{clash, or_left, or_right}
use Rattle.cjc_bytes.proofs.Gets.{any_off}
use Rattle.cjc_components.specs.Package.{Package, world}
use Rattle.cjc_group.specs.Agree.{Agree}
use Rattle.cjc_group.specs.Implementing.{file_found}
use Rattle.cjc_group.specs.Members.{Member as Linked}
use Rattle.cjc_group.specs.Rules.{declares, is_outside, names_declared}
use Rattle.cjc_jvm_semantics.specs.Group.{is_among, is_of_group, joint_exports, outside_once}
use Rattle.cjc_joint_proof.specs.JointPackages.{AreLinked, files_together}
use Rattle.cjc_joint_proof.specs.JointTables.{KeepSupers, world_together}
use Rattle.cjc_joint_proof.proofs.ApartLaws.{outside_listing}
use Rattle.cjc_joint_proof.proofs.ClassLaws.{Listing}
use Rattle.cjc_token_proof.proofs.TablesLaws.Clean.{has_named}
use Rattle.cjc_token_proof.proofs.TablesLaws.Filed.{own_filed}
use Rattle.cjc_token_proof.proofs.TablesLaws.Lists.{lists_either, none_lists}
use Rattle.cjc_token_proof.proofs.TablesLaws.Telling.{has_object}
use Rattle.cjc_token_proof.specs.Tables.Sound.{IsSound}
use Rattle.cjc_world.specs.Classes.{Class, class_named}
use Rattle.cjc_world.specs.ExportFile.Root.{object, with_root}
use Rattle.cjc_world.specs.ExportFile.Writable.{ClassFits, EachAfter}
use Rattle.cjc_world.specs.ExportFile.declared.tree.ExportClass.{ExportClass}
use Rattle.cjc_world.specs.ExportFile.declared.tree.ExportTree.{ExportTree}
use Rattle.cjc_world.specs.Files.{Files}
use Rattle.cjc_world.specs.Supertypes.{Lists, after, foremost}
use Rattle.cjc_world.proofs.Circles.{none_is_acyclic}
use Rattle.cjc_world.proofs.Unbroken.{unbroken_is_acyclic}
use Rattle.cjc_joint_whole.specs.Linking.{KeepGroupRules, linked_as}
use Rattle.cjc_joint_whole.proofs.WholeLaws.Imported.{are_imports}
use Rattle.cjc_joint_whole.proofs.WholeLaws.Linked.{are_linked, import_at, linked_at, out_of_group}

-- ---- what an export file lists above a class

-- java/lang/Object alone may stand there and not be listed
listed_or_root : (name : List ℕ) (listed : List (List ℕ)) (y : List ℕ) → Lists y (with_root name listed)
    → Lists y listed ⊎ (y ≡ object)
unfolding with_root
listed_or_root name listed y l = by (bytes_eq name object || list_any (λ x. bytes_eq x object) listed) l
  where
    only : (y : List ℕ) → Lists y (object ∷ []) → y ≡ object
    only _ foremost = refl
    only y (after l) = elim l [ ]

    by : (b : Bool) → Lists y (if b then listed else listed ++ object ∷ []) → Lists y listed ⊎ (y ≡ object)
    by true l = inl l
    by false l = ⊎_elim (λ m. inl m) (λ m. inr (only y m)) (lists_either listed (object ∷ []) y l)

rooted_at : (before cs : List ExportClass) (k : ℕ) (e : ExportClass) → EachAfter ClassFits before cs
    → slice_get cs k ≡ Some e → e.supers ≡ with_root e.name e.listed
rooted_at before [] k e fits at = cc
rooted_at before (c ∷ cs) zero e fits at =
    let same : c ≡ e = cc in
    subst (λ (v : ExportClass). v.supers ≡ with_root v.name v.listed) same (let f = fits.0 in f.supers)
rooted_at before (c ∷ cs) (suc k) e fits at = rooted_at (before ++ c ∷ []) cs k e fits.1 at

-- ---- export files from outside

kept_outside : (group : List Files) (seen trees : List ExportTree) (j : ℕ) (t : ExportTree)
    → slice_get (outside_once group seen trees) j ≡ Some t → is_of_group group t.name ≡ false
kept_outside group seen [] j t at = cc
kept_outside group seen (u ∷ trees) j t at =
    by (is_of_group group u.name || is_among seen u.name) refl j at
    (λ more i there. kept_outside group more trees i t there)
  where
    by : (b : Bool) → (is_of_group group u.name || is_among seen u.name) ≡ b → (j : ℕ)
        → slice_get (if b then outside_once group seen trees else u ∷ outside_once group (seen ++ u ∷ []) trees) j
        ≡ Some t
        → ((more : List ExportTree) (i : ℕ) → slice_get (outside_once group more trees) i ≡ Some t
        → is_of_group group t.name ≡ false) → is_of_group group t.name ≡ false
    by true e j at rest = rest seen j at
    by false e zero at rest =
        let same : u ≡ t = cc in
        ap (λ (v : ExportTree). is_of_group group v.name) (sym same) ∙ or_left (is_of_group group u.name)
        (is_among seen u.name) e
    by false e (suc i) at rest = rest (seen ++ u ∷ []) i at

module _ (packages : List Package) (rules : KeepGroupRules packages) (agree : Agree (map linked_as packages)) where
  abbrev files : List Files
  files = files_together packages

  abbrev group : List Linked
  group = map linked_as packages

  linked : AreLinked packages
  linked = are_linked packages rules agree

  -- a class of a package is found there
  own_file : (p : Package) (list : List ℕ) → IsSound list p.files → (y : List ℕ) (c : Class)
      → class_named (world p) y ≡ Some c → c.is_imported ≡ false → declares y (linked_as p) ≡ true
  own_file p list sound y c known own =
      let o = own_filed p.files sound.classes sound.exports c (has_named (world p) y c known) own in
      ap (λ x. is_some (file_found (linked_as p) x)) known
      ∙ ap (λ (v : Class). is_some (file_found (linked_as p) (Some v))) o.3
      ∙ ap (λ x. is_some x) o.2

  -- none of these names is one of a class of a package
  not_declared : (names : List (List ℕ)) → names_declared group names ≡ false → (y : List ℕ) → Lists y names
      → (q : ℕ) (p : Package) → slice_get packages q ≡ Some p → declares y (linked_as p) ≡ false
  not_declared names none y l q p here =
      any_off (λ m. declares y m) group q (linked_as p) (none_lists (λ x. list_any (λ m. declares x m) group) names none y
      l) (linked_at packages rules agree q p here)

  none_below : (j k q : ℕ) (t : ExportTree) (e : ExportClass) (p : Package) (c : Class) (y : List ℕ)
      → slice_get (joint_exports files) j ≡ Some t → slice_get t.classes k ≡ Some e
      → Lists y (e.supers ++ e.interfaces) → slice_get packages q ≡ Some p → class_named (world p) y ≡ Some c
      → c.is_imported ≡ true
  none_below j k q t e p c y at there l here known = by c.is_imported refl
    where
      o : Listing packages linked t
      o = outside_listing packages linked j t at

      out : is_outside group t ≡ true
      out = let x = o in out_of_group packages rules agree x.part x.place x.«package» t x.listed (kept_outside files []
          (flat_map (λ (f : Files). f.exports) files) j t at)

      apart : (names_declared group e.listed || names_declared group e.interfaces) ≡ false
      apart = let x = o in agree.above x.part x.place k (linked_as x.«package») t e (import_at packages rules agree x.part
          x.place x.«package» t x.listed) out there

      supers : e.supers ≡ with_root e.name e.listed
      supers =
          let x = o in
          let h = x.listed in
          let s = rules.each x.part x.«package» h.member in
          let sound = s.sound in
          let read = sound.read in
          let w = read.exports x.place t h.file in
          rooted_at [] t.classes k e w.classes there

      sound_here : IsSound (let s = rules.each q p here in s.list) p.files
      sound_here = let s = rules.each q p here in s.sound

      own : c.is_imported ≡ false → declares y (linked_as p) ≡ true
      own e = own_file p (let s = rules.each q p here in s.list) sound_here y c known e

      -- java/lang/Object is no class of a package
      root_imported : y ≡ object → c.is_imported ≡ true
      root_imported same =
          let r = has_object (let s = rules.each q p here in s.list) p sound_here in
          let both : Some c ≡ Some r.class = sym known ∙ ap (class_named (world p)) same ∙ r.there in
          let one : c ≡ r.class = cc in
          ap (λ (v : Class). v.is_imported) one ∙ r.imported

      of_names : (names : List (List ℕ)) → names_declared group names ≡ false → Lists y names → c.is_imported ≡ false
          → c.is_imported ≡ true
      of_names names none m e = clash (declares y (linked_as p)) (own e) (not_declared names none y m q p here)

      listed : c.is_imported ≡ false → c.is_imported ≡ true
      listed f = ⊎_elim
          (λ m. ⊎_elim
          (λ n. of_names e.listed (or_left (names_declared group e.listed) (names_declared group e.interfaces) apart) n
          f)
          root_imported
          (listed_or_root e.name e.listed y (subst (Lists y) supers m)))
          (λ m. of_names e.interfaces (or_right (names_declared group e.listed) (names_declared group e.interfaces) apart)
          m f)
          (lists_either e.supers e.interfaces y l)

      by : (b : Bool) → c.is_imported ≡ b → c.is_imported ≡ true
      by true f = f
      by false f = listed f

  pub keep_supers : KeepSupers packages
  keep_supers = record {
    imports = are_imports packages linked (λ q p here. let s = rules.each q p here in let sound = s.sound in
        unbroken_is_acyclic s.list p.files sound.unbroken);
    outside = none_below;
    acyclic = none_is_acyclic (world_together packages) rules.free;
  }
