-- What the class files of several packages keep together that each keeps by itself: names find the classes of their
-- numbers, methods that are not abstract have code, and fields of interfaces are static.
use Rattle.std.proofs.Common.{◌≡◌, ℕ, true, false, List, Some, refl, sym, ap, subst}
use Rattle.std.proofs.Common.{◌∙◌}
use Rattle.std.specs.Prelude.{slice_get}
use Rattle.cjc_bytes.specs.AccessFlags.{is_abstract, is_interface, is_private, is_static}
use Rattle.cjc_world.specs.ClassFile.Code.{CodeTree}
use Rattle.cjc_world.specs.ClassFile.declared.tree.ClassTree.{ClassTree}
use Rattle.cjc_world.specs.ClassFile.declared.tree.FieldTree.{FieldTree}
use Rattle.cjc_world.specs.ClassFile.declared.tree.MethodTree.{MethodTree}
use Rattle.cjc_world.specs.Classes.{Class, class_at, class_named, declared}
use Rattle.cjc_world.specs.Files.{Files}
use Rattle.cjc_token_proof.proofs.VTableFiled.{IsFiled, filed, in_class_file, in_export_file}
use Rattle.cjc_jvm_semantics.specs.OnePackage.{is_constructor}
use Rattle.cjc_jvm_semantics.specs.Group.{joint, joint_exports}
use Rattle.cjc_token_proof.specs.LowerWorldProof.Calls.Solid.{IsSolid}
use Rattle.cjc_token_proof.specs.LowerWorldProof.Calls.Solid as alone
use Rattle.cjc_joint_proof.proofs.WorldLaws.{joint_from, own_at_number, outside_at_number}
use Rattle.cjc_joint_theorem.specs.Together.Homes.{joint_world}
use Rattle.cjc_joint_theorem.proofs.MembersLaws.Worlds.{flat_is}

module _ (group : List Files) where
  pub numbered : (x : List ℕ) (c : Class) → class_named (joint_world group) x ≡ Some c
      → class_at (joint_world group) c.is_imported c.number ≡ Some c
  numbered x c e = by (filed (joint group) x c e)
    where
      by : {d : Class} → IsFiled (joint group) d → class_at (joint_world group) d.is_imported d.number ≡ Some d
      by (in_class_file n t at) =
          let o = joint_from group n t at in
          subst (λ k. class_at (joint_world group) false k ≡ Some (declared k t)) (sym o.is)
          (own_at_number group o.part o.place o.files t o.own)
      by (in_export_file n t at) = outside_at_number group n t (ap (λ cs. slice_get cs n) (sym (flat_is (joint_exports
          group))) ∙ at)

  pub own_file : (x : List ℕ) (c : Class) → class_named (joint_world group) x ≡ Some c → c.is_imported ≡ false
      → (t : ClassTree) × (slice_get (let j = joint group in j.classes) c.number ≡ Some t) × (c ≡ declared c.number t)
  own_file x c e = by (filed (joint group) x c e)
    where
      by : {d : Class} → IsFiled (joint group) d → d.is_imported ≡ false → (t : ClassTree)
          × (slice_get (let j = joint group in j.classes) d.number ≡ Some t) × (d ≡ declared d.number t)
      by (in_class_file n t at) own = (t, at, refl)
      by (in_export_file n t at) own = cc

  module _ (solid : (q : ℕ) (p : Files) → slice_get group q ≡ Some p → IsSolid p) where
    pub fields_static : (n k : ℕ) (class : ClassTree) (f : FieldTree) → slice_get (let j = joint group in j.classes) n
        ≡ Some class → slice_get class.fields k ≡ Some f → is_interface class.flags ≡ true → is_static f.flags ≡ true
    fields_static n k class f at there interface =
        let o = joint_from group n class at in
        let h = o.own in
        let s = solid o.part o.files h.member in
        s.fields o.place k class f h.file there interface

    -- a method of a class file of the group is one of its package
    of_package : (class : ClassTree) (method : MethodTree) → alone.IsOwn (joint group) class method → (p : Files)
        × IsSolid p × alone.IsOwn p class method
    of_package class method own =
        let o = joint_from group own.number class own.is_class in
        let h = o.own in (
          o.files,
          solid o.part o.files h.member,
          record { number = o.place; place = own.place; is_class = h.file; is_method = own.is_method },
        )

    pub coded : (class : ClassTree) (method : MethodTree) → alone.IsOwn (joint group) class method
        → is_abstract method.flags ≡ false → (tree : CodeTree) × (method.code ≡ Some tree)
    coded class method own plain =
        let o = of_package class method own in
        let s = o.1 in
        s.coded class method o.2 plain

    pub bound : (class : ClassTree) (method : MethodTree) → alone.IsOwn (joint group) class method
        → is_abstract method.flags ≡ true
        → (is_static method.flags ≡ false) × (is_private method.flags ≡ false) × (is_constructor method.name ≡ false)
    bound class method own abstract_one =
        let o = of_package class method own in
        let s = o.1 in
        s.bound class method o.2 abstract_one
