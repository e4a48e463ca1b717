-- Classes of the joint world of packages by modes: each has the name of a class, and the machine's own exceptions are
-- imported.
use Rattle.std.proofs.Common.{◌≡◌, ◌+◌, ℕ, Bool, true, not, List, []}
use Rattle.std.proofs.Common.{Option}
use Rattle.std.proofs.Common.{Some, None, refl, sym, ap, subst, ◌∙◌, flat_map, arith}
use Rattle.std.specs.Prelude.{slice_get, codes}
use Rattle.cjc_bytes.specs.AccessFlags.{is_interface}
use Rattle.cjc_bytes.specs.Descriptor.{IsClassName}
use Rattle.cjc_world.specs.ExportFile.declared.tree.ExportClass.{ExportClass}
use Rattle.cjc_world.specs.ExportFile.declared.tree.ExportTree.{ExportTree}
use Rattle.cjc_world.specs.Classes.{Class, all_classes, class_named, declared, imported}
use Rattle.cjc_world.specs.Files.{Files}
use Rattle.cjc_world.proofs.Cycles.{class_named-name}
use Rattle.cjc_token_proof.proofs.VTableFiled.{Has, IsFiled, filed, get-has, has-get}
use Rattle.cjc_token_proof.proofs.VTableFiled.{in_class_file}
use Rattle.cjc_token_proof.proofs.VTableFiled.{in_export_file, of-imports}
use Rattle.cjc_token_proof.specs.Subset.Members.{imports}
use Rattle.cjc_jvm_semantics.specs.Effects.{Fault, exception_class}
use Rattle.cjc_jvm_semantics.specs.OnePackage.{is_plain_import}
use Rattle.cjc_jvm_semantics.specs.Group.{joint, joint_exports}
use Rattle.cjc_narrow_proof.specs.Runs.Converted.{IsException}
use Rattle.cjc_narrow_proof.specs.Runs.Types.{IsThere, of_class, of_numbers, of_references}
use Rattle.cjc_script.specs.Sorts.{Shape}
use Rattle.cjc_token_proof.proofs.TablesLaws.Filed.{import_in}
use Rattle.cjc_token_proof.proofs.TablesLaws.Clean.{own_name}
use Rattle.cjc_joint_proof.specs.Imports.{IsImport, of_package, of_outside}
use Rattle.cjc_joint_proof.specs.Worlds.{AreApart, before}
use Rattle.cjc_joint_proof.proofs.WorldLaws.{joint_from, outside_is_found, own_is_found}
use Rattle.cjc_joint_proof.proofs.SoundLaws.{apart, listed}
use Rattle.cjc_joint_proof.proofs.AboveLaws.{subclass_stays, subtype_stays}
use Rattle.cjc_joint_theorem.specs.Rules.{SupersStay}
use Rattle.cjc_joint_theorem.specs.Together.Homes.{joint_world}
use Rattle.cjc_jvm_semantics.specs.Linked.{Method}
use Rattle.cjc_joint_theorem.specs.Members.{Member, files_of}
use Rattle.cjc_joint_theorem.proofs.MembersLaws.Worlds.{once_from, from_package, in_imports, flat_is, member_at}
use Rattle.cjc_joint_theorem.proofs.MembersLaws.Worlds.{files_at}
use Rattle.cjc_joint_modes.specs.Members.{AreMembersByModes}

module _ (members : List Member) (modes : ℕ → Method → Bool) (is : AreMembersByModes members modes) where
  abbrev group : List Files
  group = files_of members

  abbrev w : List Class
  w = joint_world group

  pub are_apart : AreApart group
  are_apart = apart group is.sound

  pub supers_stay : (q : ℕ) (p : Files) → slice_get group q ≡ Some p → SupersStay (all_classes p) w
  supers_stay q p at = subtype_stays (all_classes p) w (subclass_stays group are_apart is.outside is.imports q p at)

  -- what a package was converted with
  abbrev IsOne : Files → Type 0
  IsOne f = (x : List ℕ) (c : Class) → class_named (all_classes f) x ≡ Some c → IsClassName x

  package_names : (q : ℕ) (f : Files) → slice_get group q ≡ Some f → IsOne f
  package_names q f at =
      let m = member_at members q f at in
      subst IsOne m.2 (let one = is.each q m.0 m.1 in one.names)

  -- the name of a class of an export file that a package imports
  imported_name : (q : ℕ) (f : Files) (c : ExportClass) → slice_get group q ≡ Some f → Has c (imports f.exports)
      → IsClassName c.name
  imported_name q f c at has =
      let s = is.sound.each q f at in
      let k = has-get c (imports f.exports) has in
      let sound = s.sound in
      let among = import_in f sound.classes sound.exports k.0 c k.1 in
      package_names q f at c.name (imported k.0 c) (own_name s.list f sound (imported k.0 c) among)

  pub class_names : (x : List ℕ) (c : Class) → class_named w x ≡ Some c → IsClassName x
  class_names x c named = by (filed (joint group) x c named) named
    where
      by : {d : Class} → IsFiled (joint group) d → class_named w x ≡ Some d → IsClassName x
      by (in_class_file n t at) e =
          let o = joint_from group n t at in
          let l = listed group is.sound o.part o.place o.files t o.own in
          subst IsClassName (class_named-name w x (declared n t) e)
          (package_names o.part o.files (let h = o.own in h.member) t.name (declared o.place t) l.name)
      by (in_export_file n t at) e =
          let of = of-imports t (joint_exports group) (get-has t (imports (joint_exports group)) n at) in
          let i = from_package group of.0 (once_from group [] (flat_map (λ (p : Files). p.exports) group) of.0 of.1) in
          subst IsClassName (class_named-name w x (imported n t) e)
          (imported_name i.number i.files t i.is (in_imports t of.0 (let p = i.files in p.exports) i.has of.2))

  outside_at : (n : ℕ) (t : ExportTree) (c : ExportClass) → slice_get (joint_exports group) n ≡ Some t
      → Has c t.classes → (k : ℕ) × (class_named w c.name ≡ Some (imported k c))
  outside_at n t c at has =
      let all = has-get c (imports (joint_exports group)) (in_imports c t (joint_exports group)
      (get-has t (joint_exports group) n at) has) in (
        all.0,
        outside_is_found group are_apart is.outside all.0 c (ap (λ cs. slice_get cs all.0) (sym (flat_is (joint_exports
            group))) ∙ all.1),
      )

  -- ---- classes that a package's own world has

  -- a class of an export file that a package imports is in the joint world
  import_there : (q : ℕ) (t : ExportTree) (e : ExportClass) → Has e t.classes → IsImport group q t → (d : Class)
      × (class_named w e.name ≡ Some d)
  import_there q t e has (of_package j m lt there told) =
      let k = has-get e t.classes has in
      let o = told k.0 e k.1 in (
        declared (before group j + o.number) o.class,
        ap (class_named w) (sym o.name) ∙ own_is_found group are_apart j o.number m o.class (record {
          member = there;
          file = o.file;
        }),
      )
  import_there q t e has (of_outside n there) = let k = outside_at n t e there has in (imported k.0 e, k.1)

  pub class_there : (q : ℕ) (p : Files) → slice_get group q ≡ Some p → (x : List ℕ) (c : Class)
      → class_named (all_classes p) x ≡ Some c → (d : Class) × (class_named w x ≡ Some d)
  class_there q p at x c named = by (filed p x c named) named
    where
      by : {c : Class} → IsFiled p c → class_named (all_classes p) x ≡ Some c → (d : Class)
          × (class_named w x ≡ Some d)
      by (in_class_file n t file) named =
          let name : t.name ≡ x = class_named-name (all_classes p) x (declared n t) named in (
            declared (before group q + n) t,
            ap (class_named w) (sym name) ∙ own_is_found group are_apart q n p t (record { member = at; file = file }),
          )
      by (in_export_file n e file) named =
          let name : e.name ≡ x = class_named-name (all_classes p) x (imported n e) named in
          let of = of-imports e p.exports (get-has e (imports p.exports) n file) in
          let j = has-get of.0 p.exports of.1 in
          let d = import_there q of.0 e of.2 (is.imports q j.0 p of.0 at j.1) in
          (d.0, ap (class_named w) (sym name) ∙ d.1)

  pub type_there : (q : ℕ) (p : Files) → slice_get group q ≡ Some p → (kind : Shape (List ℕ))
      → IsThere (all_classes p) kind → IsThere w kind
  type_there q p at _ (of_class {class = class} c named) = let d = class_there q p at class c named
      in of_class d.0 d.1
  type_there q p at _ of_numbers = of_numbers
  type_there q p at _ (of_references {class = class} c named) = let d = class_there q p at class c named
      in of_references d.0 d.1

  -- ---- exceptions

  module _ (first : Member) (at : slice_get members 0 ≡ Some first) where
    -- an imported class of the first package is one from outside
    import_stays : (x : List ℕ) → is_plain_import (class_named (all_classes first.files) x) ≡ true
        → is_plain_import (class_named w x) ≡ true
    import_stays x e = by (class_named (all_classes first.files) x) refl e
      where
        of_file : (t : ExportTree) (c : ExportClass) → Has c t.classes → IsImport group 0 t → not (is_interface c.flags)
            ≡ true → c.name ≡ x → is_plain_import (class_named w x) ≡ true
        of_file t c has (of_package j m lt there told) plain name = absurd (omega (arith, lt))
        of_file t c has (of_outside n there) plain name =
            let k = outside_at n t c there has in
            ap (λ y. is_plain_import (class_named w y)) (sym name) ∙ ap is_plain_import k.1 ∙ plain

        go : {c : Class} → IsFiled first.files c → class_named (all_classes first.files) x ≡ Some c
            → is_plain_import (Some c) ≡ true → is_plain_import (class_named w x) ≡ true
        go (in_class_file n t there) named plain = cc
        go (in_export_file n t there) named plain =
            let of = of-imports t (let f = first.files in f.exports) (get-has t (imports (let f = first.files in
            f.exports)) n there) in
            let j = has-get of.0 (let f = first.files in f.exports) of.1 in
            of_file of.0 t of.2 (is.imports 0 j.0 first.files of.0 (files_at members 0 first at) j.1) plain
            (class_named-name (all_classes first.files) x (imported n t) named)

        by : (o : Option Class) → class_named (all_classes first.files) x ≡ o → is_plain_import o ≡ true
            → is_plain_import (class_named w x) ≡ true
        by None named plain = cc
        by (Some c) named plain = go (filed first.files x c named) named plain

    pub exceptions : (fault : Fault) → IsException w (exception_class fault)
    exceptions fault =
        let one = is.each 0 first at in
        let e = one.exceptions fault in
        record {
          imported = import_stays (exception_class fault) e.imported;
          throwable = supers_stay 0 first.files (files_at members 0 first at) (exception_class fault)
              (codes "java/lang/Throwable") e.throwable;
        }
