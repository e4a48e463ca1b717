-- A static method or constructor of an imported class that the code of a package names, as it stands in a group.
use Rattle.std.proofs.Common.{◌≡◌, ℕ, true, false, List, Some, sym, ap, ◌∙◌}
use Rattle.std.specs.Prelude.{slice_get}
use Rattle.cjc_bytes.specs.AccessFlags.{is_interface}
use Rattle.cjc_bytes.specs.declared.fault.MemberId.{MemberId}
use Rattle.cjc_components.specs.ExportFile.{export_class, export_of}
use Rattle.cjc_components.specs.Exports.{exported_classes}
use Rattle.cjc_components.specs.Methods.{method_offset}
use Rattle.cjc_components.specs.Package.{Package, world}
use Rattle.cjc_jvm_semantics.specs.Group.{is_of_group}
use Rattle.cjc_jvm_semantics.specs.OnePackage.{ResolvedMember, is_initialiser, method_hit}
use Rattle.cjc_joint_proof.specs.JointCalled.{NamesOutsideMethod, NamesSharedMethod}
use Rattle.cjc_joint_proof.specs.JointPackages.{AreLinked, files_together}
use Rattle.cjc_joint_proof.proofs.NamedLaws.{names_outside, names_shared}
use Rattle.cjc_shape_proof.specs.Written.Entries.{UnboundAreOwn}
use Rattle.cjc_theorem.proofs.AlikeLaws.NamedLaws.Abroad.{first_listed}
use Rattle.cjc_token_proof.proofs.WorldProofOwn.{IsAt, hit_is, own_at}
use Rattle.cjc_token_proof.specs.Calls.Reaching.{BeginsAtOffsets}
use Rattle.cjc_token_proof.specs.Tables.Infos.{HasEntry}
use Rattle.cjc_token_proof.specs.Tables.Loading.{naming}
use Rattle.cjc_token_proof.specs.Tables.Sound.{IsSound}
use Rattle.cjc_token_proof.specs.WrittenCalls.Standing.{place}
use Rattle.cjc_vtable.proofs.Filed.{at-number}
use Rattle.cjc_world.specs.Classes.{Class, class_named}
use Rattle.cjc_world.specs.ExportFile.Members.{is_unbound}
use Rattle.cjc_world.specs.Lookup.{own_method}
use Rattle.cjc_world.specs.Supertypes.{IsAcyclic}
use Rattle.cjc_world.specs.declared.found.Found.{Found}
use Rattle.cjc_joint_whole.specs.Whole.{IsBound}
use Rattle.cjc_joint_whole.proofs.WholeLaws.Listed.{exports_method}

module _ (packages : List Package) (linked : AreLinked packages) (list : List ℕ) (p : Package)
    (sound : IsSound list p.files) (acyclic : IsAcyclic (world p)) (id : MemberId) (c : Class)
    (known : class_named (world p) id.class ≡ Some c) (import : c.is_imported ≡ true)
    (kind : is_interface c.flags ≡ false) (h : HasEntry p c) (f : Found)
    (own : own_method false id.name id.desc c ≡ Some f) (plain : is_initialiser id.name ≡ false)
    (told : IsBound c f) where
  at : IsAt false id.name id.desc c f
  at = own_at false id.name id.desc c f own

  bound : is_unbound (let m = at.member in m.flags) (let m = at.member in m.name) ≡ true
  bound = told at.place at.member at.is_member at.is

  flags_are : (hit : ResolvedMember) → method_hit (world p) f ≡ Some hit → hit.flags ≡ (let m = at.member in m.flags)
  flags_are hit e =
      let m = at.member in
      let both : Some hit ≡ Some (record { owner = c; flags = m.flags }) = sym e ∙ ap (method_hit (world p)) at.is
      ∙ hit_is (world p) c at.place m (at-number p.files id.class c known) at.is_member in
      let same : hit ≡ record { owner = c; flags = m.flags } = cc in
      ap (λ (y : ResolvedMember). y.flags) same

  pub outside_named : is_of_group (files_together packages) (let t = h.tree in t.name) ≡ false
      → NamesOutsideMethod packages p id
  outside_named outside =
      let x = first_listed list p sound id c f known import kind h at plain bound in
      names_outside packages linked p acyclic id c known h f own outside x.0 x.1 x.2 x.3

  pub shared_named : (r : ℕ) (e : Package) → slice_get packages r ≡ Some e → h.tree ≡ export_of e → UnboundAreOwn e
      → BeginsAtOffsets e.files (world e) (naming e) (method_offset e) (place e) → (d : Class)
      → (let x = h.entry in slice_get (exported_classes e) x.token ≡ Some d) → (let x = h.entry in export_class e d ≡ x)
      → is_interface d.flags ≡ false → NamesSharedMethod packages p id
  shared_named r e there written entries begins d listed is plain_class =
      let x = first_listed list p sound id c f known import kind h at plain bound in
      names_shared packages linked p acyclic id c known h f own r e there written begins
      (exports_method e entries p h.entry d listed is plain_class id f x.0 x.1 x.2 x.3 (λ hit e. flags_are hit e
      ∙ sym x.4)) plain
