-- Packages that break no rule together link with one another: what each imports is what is written for a package before
-- it, or of no package of the group, and then the same for all (rules 731 to 734).
use Rattle.std.proofs.Common.{◌≡◌, ℕ, zero, suc, ◌+◌, sym, ap, subst, ◌∙◌, arith, Bool, true, false, List, []}
use Rattle.std.proofs.Common.{◌∷◌, Some, flat_map, inl, length, refl, ⊎_elim}
use Rattle.std.specs.Prelude.{map, option_map, slice_get}
use Rattle.std.specs.List.{list_any}
use Rattle.std.specs.Str.{bytes_eq}
use Rattle.std.proofs.lemmas.Bool.{cases_order}
use Rattle.std.proofs.lemmas.Option.{slice_get_within}
use Rattle.cjc_bytes.proofs.Bools.{clash, not_true, or_left}
use Rattle.cjc_bytes.proofs.Gets.{any_at, any_off, get_behind, get_mapped, in_front, mapped_at}
use Rattle.cjc_bytes.proofs.Lists.{bytes_true, name_is}
use Rattle.cjc_components.specs.Package.{Package, world}
use Rattle.cjc_group.specs.Agree.{Agree, Imports, IsWrittenBefore}
use Rattle.cjc_group.specs.Members.{Member as Linked}
use Rattle.cjc_group.specs.Rules.{is_of, is_outside}
use Rattle.cjc_jvm_semantics.specs.Group.{is_of_group, joint_exports}
use Rattle.cjc_joint_proof.specs.JointPackages.{AreLinked, IsLinked, IsListedBy, files_together, to_outside, to_package}
use Rattle.cjc_joint_proof.specs.Loading.{group_of, member_of}
use Rattle.cjc_joint_proof.specs.Sound.{AreSound, IsSoundPackage}
use Rattle.cjc_joint_proof.proofs.AboveLaws.{flat_at}
use Rattle.cjc_joint_proof.proofs.StandLaws.{place_named}
use Rattle.cjc_link_semantics.specs.Loaded.{Member}
use Rattle.cjc_token_proof.proofs.TablesLaws.Clean.{has_named}
use Rattle.cjc_token_proof.proofs.TablesLaws.Filed.{own_filed}
use Rattle.cjc_token_proof.specs.CardSemantics.Machine.Classes.{token_named}
use Rattle.cjc_world.specs.Classes.{Class, class_named}
use Rattle.cjc_world.specs.ExportFile.declared.tree.ExportClass.{ExportClass}
use Rattle.cjc_world.specs.ExportFile.declared.tree.ExportTree.{ExportTree}
use Rattle.cjc_world.specs.Files.{Files}
use Rattle.cjc_world.proofs.Cycles.{class_named-name}
use Rattle.cjc_joint_whole.specs.Linking.{KeepGroupRules, linked_as}
use Rattle.cjc_joint_whole.proofs.WholeLaws.OneFile.{one_file}

-- ---- one class of a name among those of several files

abbrev classes_in : ExportTree → List ExportClass
classes_in t = t.classes

-- classes that stand once in all files together are of one file
one_tree : (ts : List ExportTree) → ((k n : ℕ) (c d : ExportClass) → slice_get (flat_map classes_in ts) k ≡ Some c
    → slice_get (flat_map classes_in ts) n ≡ Some d → c.name ≡ d.name → k ≡ n) → (j r a b : ℕ) (t u : ExportTree)
    (c d : ExportClass) → slice_get ts j ≡ Some t → slice_get ts r ≡ Some u → slice_get t.classes a ≡ Some c
    → slice_get u.classes b ≡ Some d → c.name ≡ d.name → r ≡ j
one_tree [] once j r a b t u c d at there is so same = cc
one_tree (v ∷ ts) once zero zero a b t u c d at there is so same = refl
one_tree (v ∷ ts) once zero (suc r) a b t u c d at there is so same =
    let first : v ≡ t = cc in
    let here : slice_get v.classes a ≡ Some c = ap (λ (x : ExportTree). slice_get x.classes a) first ∙ is in
    let later = flat_at classes_in ts r b u d there so in
    let within = slice_get_within v.classes a c here in
    let no : a ≡ length v.classes + later.0 = once a (length v.classes + later.0) c d (in_front v.classes (flat_map
    classes_in ts) a c here) (get_behind v.classes (flat_map classes_in ts) later.0 ∙ later.1) same in
    absurd (omega (arith, within, no))
one_tree (v ∷ ts) once (suc j) zero a b t u c d at there is so same =
    let first : v ≡ u = cc in
    let here : slice_get v.classes b ≡ Some d = ap (λ (x : ExportTree). slice_get x.classes b) first ∙ so in
    let later = flat_at classes_in ts j a t c at is in
    let within = slice_get_within v.classes b d here in
    let no : length v.classes + later.0 ≡ b = once (length v.classes + later.0) b c d (get_behind v.classes (flat_map
    classes_in ts) later.0 ∙ later.1) (in_front v.classes (flat_map classes_in ts) b d here) same in
    absurd (omega (arith, within, no))
one_tree (v ∷ ts) once (suc j) (suc r) a b t u c d at there is so same = ap suc (one_tree ts apart j r a b t u c d at
    there is so same)
  where
    apart : (k n : ℕ) (x y : ExportClass) → slice_get (flat_map classes_in ts) k ≡ Some x
        → slice_get (flat_map classes_in ts) n ≡ Some y → x.name ≡ y.name → k ≡ n
    apart k n x y e f called =
        let both : length v.classes + k ≡ length v.classes + n = once (length v.classes + k) (length v.classes + n) x y
        (get_behind v.classes (flat_map classes_in ts) k ∙ e) (get_behind v.classes (flat_map classes_in ts) n ∙ f)
        called in
        omega (arith, both)

-- a package of a group by its files
pub package_with : (packages : List Package) (q : ℕ) (f : Files) → slice_get (files_together packages) q ≡ Some f
    → (p : Package) × (slice_get packages q ≡ Some p) × (f ≡ p.files)
package_with packages q f at =
    let m = mapped_at (λ (m : Member). m.files) (group_of packages) q f at in
    let k = mapped_at member_of packages q m.0 m.1 in
    (k.0, k.1, sym (ap (λ (m : Member). m.files) k.2 ∙ m.2))

pub files_at : (packages : List Package) (q : ℕ) (p : Package) → slice_get packages q ≡ Some p
    → slice_get (files_together packages) q ≡ Some p.files
files_at packages q p here =
    get_mapped (λ (m : Member). m.files) (group_of packages) q
    ∙ ap (option_map (λ (m : Member). m.files)) (get_mapped member_of packages q ∙ ap (option_map member_of) here)

module _ (packages : List Package) (rules : KeepGroupRules packages) (agree : Agree (map linked_as packages)) where
  abbrev files : List Files
  files = files_together packages

  abbrev group : List Linked
  group = map linked_as packages

  pub linked_at : (q : ℕ) (p : Package) → slice_get packages q ≡ Some p → slice_get group q ≡ Some (linked_as p)
  linked_at q p here = get_mapped linked_as packages q ∙ ap (option_map linked_as) here

  pub import_at : (q k : ℕ) (p : Package) (t : ExportTree) → IsListedBy packages q k p t
      → Imports group q (linked_as p) k t
  import_at q k p t listed = record { member = linked_at q p listed.member; tree = listed.file }

  -- ---- names of packages

  same_list : (q r : ℕ) (p m : Package) → slice_get packages q ≡ Some p → slice_get packages r ≡ Some m
      → (let f = p.files in f.package_name) ≡ (let f = m.files in f.package_name)
      → (let list = p.list in list.«package») ≡ (let list = m.list in list.«package»)
  same_list q r p m here there same = rules.names q p here ∙ same ∙ sym (rules.names r m there)

  one_name : (q r : ℕ) (p m : Package) → slice_get packages q ≡ Some p → slice_get packages r ≡ Some m
      → (let f = p.files in f.package_name) ≡ (let f = m.files in f.package_name) → q ≡ r
  one_name q r p m here there same = ⊎_elim (λ e. e)
      (λ apart. absurd (⊎_elim
      (λ lt. agree.names r q (linked_as m) (linked_as p) (linked_at r m there) (linked_at q p here) lt (sym (same_list q
      r p m here there same)))
      (λ lt. agree.names q r (linked_as p) (linked_as m) (linked_at q p here) (linked_at r m there) lt (same_list q r p
      m here there same))
      apart))
      (cases_order q r)

  are_sound : AreSound files
  are_sound = record { each = each; names = names }
    where
      each : (q : ℕ) (f : Files) → slice_get files q ≡ Some f → IsSoundPackage f
      each q f at = let p = package_with packages q f at in subst IsSoundPackage (sym p.2) (rules.each q p.0 p.1)

      names : (q r : ℕ) (f g : Files) → slice_get files q ≡ Some f → slice_get files r ≡ Some g
          → f.package_name ≡ g.package_name → q ≡ r
      names q r f g at there same =
          let p = package_with packages q f at in
          let m = package_with packages r g there in
          one_name q r p.0 m.0 p.1 m.1 (ap (λ (x : Files). x.package_name) (sym p.2) ∙ same
          ∙ ap (λ (x : Files). x.package_name) m.2)

  -- ---- what is of the group, and what is outside

  -- what is of no package by its name and its AID is of none by its name
  pub out_by_name : (t : ExportTree) → is_outside group t ≡ true → is_of_group files t.name ≡ false
  out_by_name t out = by (is_of_group files t.name) refl
    where
      none : list_any (λ m. is_of t m) group ≡ false
      none = not_true (list_any (λ m. is_of t m) group) out

      by : (b : Bool) → is_of_group files t.name ≡ b → b ≡ false
      by false e = refl
      by true e =
          let r = any_at (λ (f : Files). bytes_eq f.package_name t.name) files e in
          let p = package_with packages r.0 r.1 r.2 in
          let list = (let x = p.0 in x.list) in
          let off = or_left (bytes_eq t.name list.«package») (bytes_eq t.aid list.aid) (any_off (λ m. is_of t m) group
          r.0 (linked_as p.0) none (linked_at r.0 p.0 p.1)) in
          let same : t.name ≡ list.«package» = sym (bytes_true (let f = r.1 in f.package_name) t.name r.3)
          ∙ ap (λ (f : Files). f.package_name) p.2 ∙ sym (rules.names r.0 p.0 p.1) in
          clash (bytes_eq t.name list.«package») (ap (λ x. bytes_eq t.name x) (sym same) ∙ name_is t.name) off

  -- what is written for a package is of the group
  not_written : (q : ℕ) (t : ExportTree) → is_of_group files t.name ≡ false → IsWrittenBefore group q t → ⊥
  not_written q t out w =
      let m = mapped_at linked_as packages w.place w.exporter w.is in
      let e = m.0 in
      let its : t.name ≡ (let list = e.list in list.«package») = ap (λ (u : ExportTree). u.name) (w.written
      ∙ ap (λ (v : Linked). v.written) (sym m.2)) in
      let named : (let f = e.files in f.package_name) ≡ t.name = sym (rules.names w.place e m.1) ∙ sym its in
      clash (bytes_eq (let f = e.files in f.package_name) t.name) (ap (λ x. bytes_eq x t.name) named ∙ name_is t.name)
      (any_off (λ (f : Files). bytes_eq f.package_name t.name) files w.place e.files out (files_at packages w.place e
      m.1))

  -- an import that is of no package by its name is of none by its AID
  pub out_of_group : (q k : ℕ) (p : Package) (t : ExportTree) → IsListedBy packages q k p t
      → is_of_group files t.name ≡ false → is_outside group t ≡ true
  out_of_group q k p t listed out = ⊎_elim (λ w. absurd (not_written q t out w)) (λ e. e)
      (agree.imports q k (linked_as p) t (import_at q k p t listed))

  -- ---- what packages import

  import_linked : (q k : ℕ) (p : Package) (t : ExportTree) → IsListedBy packages q k p t → IsLinked packages q t
  import_linked q k p t listed = ⊎_elim written (λ out. to_outside (out_by_name t out))
      (agree.imports q k (linked_as p) t (import_at q k p t listed))
    where
      written : IsWrittenBefore group q t → IsLinked packages q t
      written w =
          let m = mapped_at linked_as packages w.place w.exporter w.is in
          to_package w.place m.0 w.before m.1 (w.written ∙ ap (λ (v : Linked). v.written) (sym m.2))

  same_outside : (q k r n : ℕ) (p m : Package) (t u : ExportTree) → IsListedBy packages q k p t
      → IsListedBy packages r n m u → is_of_group files t.name ≡ false → u.name ≡ t.name → u ≡ t
  same_outside q k r n p m t u one other out same =
      let far = out_of_group q k p t one out in
      let away = out_of_group r n m u other (ap (is_of_group files) same ∙ out) in
      let left = import_at q k p t one in
      let right = import_at r n m u other in
      ⊎_elim here (⊎_elim
      (λ lt. agree.outside r q n k (linked_as m) (linked_as p) u t right left lt away far (inl same))
      (λ lt. sym (agree.outside q r k n (linked_as p) (linked_as m) t u left right lt far away (inl (sym same)))))
      (cases_order q r)
    where
      -- in one list
      here : q ≡ r → u ≡ t
      here e =
          let both : Some m ≡ Some p = sym other.member ∙ ap (slice_get packages) (sym e) ∙ one.member in
          let whose : m ≡ p = cc in
          let s = rules.each q p one.member in
          let there : (let f = p.files in slice_get f.exports n ≡ Some u) = ap (λ (x : Package). let f = x.files in
          slice_get f.exports n) (sym whose) ∙ other.file in
          ⊎_elim
          (λ at. let twice : Some u ≡ Some t = sym there ∙ ap (λ i. let f = p.files in slice_get f.exports i) (sym at)
          ∙ one.file in cc)
          (λ apart. absurd (⊎_elim
          (λ lt. one_file p.files s.list s.sound k n t u one.file there (sym same) lt)
          (λ lt. one_file p.files s.list s.sound n k u t there one.file same lt)
          apart))
          (cases_order k n)

  -- ---- classes from outside

  once_outside : (j r : ℕ) (t u : ExportTree) (x : List ℕ) (a b : ℕ) → slice_get (joint_exports files) j ≡ Some t
      → slice_get (joint_exports files) r ≡ Some u → token_named t.classes x ≡ Some a → token_named u.classes x ≡ Some b
      → r ≡ j
  once_outside j r t u x a b at there one other =
      let c = place_named t.classes x a one in
      let d = place_named u.classes x b other in
      let apart = rules.outside in
      one_tree (joint_exports files) apart.once j r c.0 d.0 t u c.1 d.1 at there c.2 d.2 (c.3 ∙ sym d.3)

  none_own : (j q : ℕ) (t : ExportTree) (p : Package) (c : Class) (x : List ℕ) (a : ℕ)
      → slice_get (joint_exports files) j ≡ Some t → token_named t.classes x ≡ Some a → slice_get packages q ≡ Some p
      → class_named (world p) x ≡ Some c → c.is_imported ≡ true
  none_own j q t p c x a at told here known = by c.is_imported refl
    where
      by : (b : Bool) → c.is_imported ≡ b → b ≡ true
      by true e = refl
      by false e =
          let s = rules.each q p here in
          let sound = s.sound in
          let o = own_filed p.files sound.classes sound.exports c (has_named (world p) x c known) e in
          let d = place_named t.classes x a told in
          let flat = flat_at classes_in (joint_exports files) j d.0 t d.1 at d.2 in
          let apart = rules.outside in
          let name : (let v = o.1 in v.name) ≡ x = ap (λ (v : Class). v.name) (sym o.3)
          ∙ class_named-name (world p) x c known in
          absurd (apart.no_own q o.0 flat.0 p.files o.1 d.1 (record { member = files_at packages q p here; file = o.2 })
          flat.1 (d.3 ∙ sym name))

  pub are_linked : AreLinked packages
  are_linked = record {
    sound = are_sound;
    names = rules.names;
    imports = import_linked;
    same = same_outside;
    one_file = once_outside;
    no_own = none_own;
  }
