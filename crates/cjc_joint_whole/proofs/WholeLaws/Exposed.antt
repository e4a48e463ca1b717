-- A public or protected method of a class file of a package is what the joint world has for an entry of the package's
-- export file.
use Rattle.std.proofs.Common.{◌≡◌, ℕ, ◌+◌, refl, sym, ap, ◌∙◌, true, false, List, Some, length}
use Rattle.std.specs.Prelude.{option_map, position, slice_get}
use Rattle.cjc_bytes.specs.declared.fault.MemberId.{MemberId}
use Rattle.cjc_jvm_semantics.specs.Group.{find_exposed, is_exposed, own_where}
use Rattle.cjc_world.specs.ClassFile.declared.tree.ClassTree.{ClassTree}
use Rattle.cjc_world.specs.Classes.{Class, Member as WorldMember, all_classes, class_named, declared}
use Rattle.cjc_world.specs.Files.{Files}
use Rattle.cjc_world.specs.Rules.{is_earlier, is_twice}
use Rattle.cjc_world.specs.Lookup.{first, is_called, member_at, or_else}
use Rattle.cjc_world.specs.Supertypes.{line}
use Rattle.cjc_world.proofs.Upwards.{line_goes_up}
use Rattle.cjc_token_proof.proofs.TablesLaws.Clean.{has_named, kept}
use Rattle.cjc_token_proof.proofs.TablesLaws.Fields.{first_here}
use Rattle.cjc_token_proof.proofs.WorldProofSelects.{called_by}
use Rattle.cjc_token_proof.specs.Tables.Kept.{KeepsRules}
use Rattle.cjc_joint_proof.specs.Worlds.{IsOwn, before}
use Rattle.cjc_joint_proof.proofs.NamedLaws.{position_and}
use Rattle.cjc_joint_proof.proofs.SoundLaws.{listed}
use Rattle.cjc_joint_theorem.specs.Members.{Member, files_of}
use Rattle.cjc_joint_theorem.specs.Together.Homes.{joint_world}
use Rattle.cjc_joint_theorem.proofs.MembersLaws.Worlds.{files_at}
use Rattle.cjc_joint_theorem.proofs.OrderedLaws.Selected.{exposed_together}
use Rattle.cjc_joint_whole.specs.Whole.{AreWholeWith}
use Rattle.cjc_joint_whole.proofs.WholeLaws.Members.{ordered_together}
use Rattle.cjc_joint_whole.proofs.WholeLaws.Solid.{solid_at}

-- a member that stands behind no other of its name and descriptor stands behind none of the name and descriptor looked for
pub stands_once : (ms : List WorldMember) (i : ℕ) (m : WorldMember) (name desc : List ℕ) → m.name ≡ name
    → m.desc ≡ desc → is_twice ms i m.name m.desc ≡ false
    → is_earlier (position (λ (q : WorldMember). is_called name desc q) ms) i ≡ false
unfolding is_twice
stands_once ms i m name desc is_name is_desc once =
    ap (λ y. is_earlier (position (λ (q : WorldMember). is_called y desc q) ms) i) (sym is_name)
    ∙ ap (λ y. is_earlier (position (λ (q : WorldMember). is_called m.name y q) ms) i) (sym is_desc) ∙ once

module _ {K : _} (members : List Member) (is : AreWholeWith K members) (j : ℕ) (m : Member)
    (at : slice_get members j ≡ Some m)
    (k : ℕ) (t : ClassTree) (file : (let f = m.files in slice_get f.classes k ≡ Some t)) where
  abbrev group : List Files
  group = files_of members

  abbrev v : List Class
  v = all_classes m.files

  pub own_here : IsOwn group j k m.files t
  own_here = record { member = files_at members j m at; file = file }

  pub named_here : class_named v t.name ≡ Some (declared k t)
  named_here = let l = listed group is.sound j k m.files t own_here in l.name

  keeps : KeepsRules (let f = m.files in f.package_name) v (declared k t)
  keeps = let s = is.sound.each j m.files own_here.member
      in kept s.list m.files s.sound (declared k t) (has_named v t.name (declared k t) named_here)

  -- 202: it is the first of its name and descriptor
  pub exposed_here : (i : ℕ) (x : WorldMember) → slice_get (declared k t).methods i ≡ Some x → is_exposed x.flags ≡ true
      → (id : MemberId) → x.name ≡ id.name → x.desc ≡ id.desc
      → find_exposed (joint_world group) t.name id
      ≡ Some (member_at (declared (before group j + k) t) (length (declared k t).fields + i))
  unfolding first
  exposed_here i x there shown id name desc =
      let d = declared k t in
      let own = own_where is_exposed id.name id.desc in
      let called = called_by id.name id.desc x name desc in
      let once : position (λ (q : WorldMember). is_called id.name id.desc q) d.methods ≡ Some i =
      first_here (λ (q : WorldMember). is_called id.name id.desc q) d.methods i x there called
      (stands_once d.methods i x id.name id.desc name desc (keeps.methods i x there)) in
      let here : own d ≡ Some (member_at d (length d.fields + i)) =
      ap (option_map (λ n. member_at d (length d.fields + n))) (position_and (λ (q : WorldMember). is_exposed q.flags)
      (λ (q : WorldMember). is_called id.name id.desc q) d.methods i x there shown called once) in
      let s = solid_at members is j m at in
      let order = s.ordered in
      let found : first own (line v t.name) ≡ Some (member_at d (length d.fields + i)) =
      ap (first own) (line_goes_up v order.acyclic t.name t.superclass d named_here refl)
      ∙ ap (λ o. or_else o (first own (line v t.superclass))) here in
      exposed_together group (ordered_together members is) j m.files own_here.member t.name d named_here id
      (member_at d (length d.fields + i)) found refl
