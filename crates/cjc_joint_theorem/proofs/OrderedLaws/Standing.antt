-- What the joint world has for a class of a package's own world: its class file, that of a package before, or the class
-- of an export file from outside.
use Rattle.std.proofs.Common.{◌≡◌, ◌<◌, ℕ, ◌+◌, List, [], Some, refl, sym, ap}
use Rattle.std.proofs.Common.{◌∙◌, flat_map}
use Rattle.std.specs.Prelude.{slice_get}
use Rattle.cjc_bytes.specs.AccessFlags.{is_abstract, is_interface}
use Rattle.cjc_world.specs.ClassFile.declared.tree.ClassTree.{ClassTree}
use Rattle.cjc_world.specs.ExportFile.declared.tree.ExportClass.{ExportClass}
use Rattle.cjc_world.specs.ExportFile.declared.tree.ExportTree.{ExportTree}
use Rattle.cjc_world.specs.Classes.{Class, all_classes, class_named, declared, imported}
use Rattle.cjc_world.specs.Files.{Files}
use Rattle.cjc_world.proofs.Cycles.{class_named-name}
use Rattle.cjc_token_proof.proofs.VTableFiled.{IsFiled, filed, get-has, has-get, in_class_file, in_export_file}
use Rattle.cjc_token_proof.proofs.VTableFiled.{of-imports}
use Rattle.cjc_token_proof.proofs.TablesLaws.Clean.{own_name}
use Rattle.cjc_token_proof.proofs.TablesLaws.Filed.{import_in}
use Rattle.cjc_token_proof.specs.Subset.Members.{imports}
use Rattle.cjc_jvm_semantics.specs.Group.{joint_exports}
use Rattle.cjc_joint_proof.specs.Imports.{IsImport, of_package, of_outside}
use Rattle.cjc_joint_proof.specs.Worlds.{AreApart, IsOwn, before, outside_classes}
use Rattle.cjc_joint_proof.proofs.AboveLaws.{flat_at}
use Rattle.cjc_joint_proof.proofs.SoundLaws.{apart, listed}
use Rattle.cjc_joint_proof.proofs.WorldLaws.{outside_is_found, own_is_found}
use Rattle.cjc_joint_theorem.specs.Ordered.{AreOrdered, IsOfKind}
use Rattle.cjc_joint_theorem.specs.Together.Homes.{joint_world}
use Rattle.cjc_joint_theorem.proofs.MembersLaws.Worlds.{flat_is, from_package, in_imports, once_from}

-- The second is the joint world's for the first of the package at a place.
pub data Stands (group : List Files) (q : ℕ) (p : Files) : Class → Class → Type 0 where
  own_class : (k : ℕ) (t : ClassTree) → IsOwn group q k p t
      → Stands group q p (declared k t) (declared (before group q + k) t)
  of_member : (n : ℕ) (e : ExportClass) (j k : ℕ) (m : Files) (t : ClassTree) → j < q → IsOwn group j k m t
      → t.name ≡ e.name → IsOfKind t e
      → Stands group q p (imported n e) (declared (before group j + k) t)
  from_outside : (n k : ℕ) (e : ExportClass) → slice_get (outside_classes group) k ≡ Some e
      → Stands group q p (imported n e) (imported k e)

-- The joint world has one.
pub record HasStanding (group : List Files) (q : ℕ) (p : Files) (x : List ℕ) (c : Class) : Type 0 where
  pub class : Class
  pub named : class_named (joint_world group) x ≡ Some class
  pub stands : Stands group q p c class

pub same_kind : (group : List Files) (q : ℕ) (p : Files) (c d : Class) → Stands group q p c d
    → is_interface d.flags ≡ is_interface c.flags
same_kind group q p _ _ (own_class k t own) = refl
same_kind group q p _ _ (of_member n e j k m t lt own name kind) = kind.interface
same_kind group q p _ _ (from_outside n k e at) = refl

pub same_abstract : (group : List Files) (q : ℕ) (p : Files) (c d : Class) → Stands group q p c d
    → is_abstract d.flags ≡ is_abstract c.flags
same_abstract group q p _ _ (own_class k t own) = refl
same_abstract group q p _ _ (of_member n e j k m t lt own name kind) = kind.abstract_one
same_abstract group q p _ _ (from_outside n k e at) = refl

-- A class of an export file from outside, in the world of a package that imports it.
pub record IsOutsideIn (group : List Files) (e : ExportClass) : Type 0 where
  pub number : ℕ
  pub files : Files
  pub member : slice_get group number ≡ Some files
  pub place : ℕ
  pub named : class_named (all_classes files) e.name ≡ Some (imported place e)

module _ (group : List Files) (is : AreOrdered group) where
  abbrev w : List Class
  w = joint_world group

  pub are_apart : AreApart group
  are_apart = apart group is.sound

  of_import : (q k : ℕ) (p : Files) (t : ExportTree) (n place : ℕ) (e : ExportClass) → slice_get group q ≡ Some p
      → slice_get p.exports k ≡ Some t → slice_get t.classes place ≡ Some e → IsImport group q t
      → HasStanding group q p e.name (imported n e)
  of_import q k p t n place e at file there (of_package j m lt member told) =
      let o = told place e there in
      let own : IsOwn group j o.number m o.class = record { member = member; file = o.file } in
      record {
        class = declared (before group j + o.number) o.class;
        named = ap (class_named w) (sym o.name) ∙ own_is_found group are_apart j o.number m o.class own;
        stands = of_member n e j o.number m o.class lt own o.name (is.kinds q j k p m t at file member place o.number e
            o.class there o.file o.name);
      }
  of_import q k p t n place e at file there (of_outside r member) =
      let all = flat_at (λ (t : ExportTree). t.classes) (joint_exports group) r place t e member there in
      record {
        class = imported all.0 e;
        named = outside_is_found group are_apart is.outside all.0 e all.1;
        stands = from_outside n all.0 e all.1;
      }

  pub class_stands : (q : ℕ) (p : Files) → slice_get group q ≡ Some p → (x : List ℕ) (c : Class)
      → class_named (all_classes p) x ≡ Some c → HasStanding group q p x c
  class_stands q p at x c named = by (filed p x c named) named
    where
      renamed : (y : List ℕ) (c : Class) → y ≡ x → HasStanding group q p y c → HasStanding group q p x c
      renamed y c same h = record {
        class = h.class;
        named = ap (class_named w) (sym same) ∙ h.named;
        stands =
            h.stands;
      }

      by : {c : Class} → IsFiled p c → class_named (all_classes p) x ≡ Some c → HasStanding group q p x c
      by (in_class_file n t file) named =
          let own : IsOwn group q n p t = record { member = at; file = file } in
          renamed t.name (declared n t) (class_named-name (all_classes p) x (declared n t) named) (record {
            class = declared (before group q + n) t;
            named = own_is_found group are_apart q n p t own;
            stands = own_class n t own;
          })
      by (in_export_file n e file) named =
          let of = of-imports e p.exports (get-has e (imports p.exports) n file) in
          let k = has-get of.0 p.exports of.1 in
          let place = has-get e (let t = of.0 in t.classes) of.2 in
          renamed e.name (imported n e) (class_named-name (all_classes p) x (imported n e) named)
          (of_import q k.0 p of.0 n place.0 e at k.1 place.1 (is.imports q k.0 p of.0 at k.1))

  pub outside_in : (n : ℕ) (e : ExportClass) → slice_get (outside_classes group) n ≡ Some e → IsOutsideIn group e
  outside_in n e at =
      let of = of-imports e (joint_exports group) (get-has e (imports (joint_exports group)) n
      (ap (λ cs. slice_get cs n) (flat_is (joint_exports group)) ∙ at)) in
      let i = from_package group of.0 (once_from group [] (flat_map (λ (p : Files). p.exports) group) of.0 of.1) in
      let p = i.files in
      let s = is.sound.each i.number p i.is in
      let sound = s.sound in
      let k = has-get e (imports p.exports) (in_imports e of.0 p.exports i.has of.2) in
      record {
        number = i.number;
        files = p;
        member = i.is;
        place = k.0;
        named = own_name s.list p sound (imported k.0 e) (import_in p sound.classes sound.exports k.0 e k.1);
      }

  -- the class of a class file, in the world of its package
  pub own_in : (q k : ℕ) (p : Files) (t : ClassTree) → IsOwn group q k p t
      → class_named (all_classes p) t.name ≡ Some (declared k t)
  own_in q k p t own = let l = listed group is.sound q k p t own in l.name
