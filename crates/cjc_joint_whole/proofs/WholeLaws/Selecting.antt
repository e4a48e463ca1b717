-- What calls select in the joint world for a public or protected method of a class or interface: on each object there a
-- method with code, or the event of a class from outside.
use Rattle.std.proofs.Common.{◌≡◌, ℕ, refl, sym, ap, subst, ◌∙◌, true, false, List, Some, ⊎_elim}
use Rattle.std.specs.Prelude.{option_and_then, slice_get, if◌then◌else◌}
use Rattle.cjc_bytes.specs.AccessFlags.{is_interface}
use Rattle.cjc_bytes.specs.declared.fault.MemberId.{MemberId}
use Rattle.cjc_bytes.proofs.Bools.{true_or_false}
use Rattle.cjc_jvm_semantics.specs.Group.{is_open, is_package_visible, joint, own_where, own_within, package_of}
use Rattle.cjc_jvm_semantics.specs.Group.{selection_for}
use Rattle.cjc_jvm_semantics.specs.Linked.{Abroad, Callee}
use Rattle.cjc_jvm_semantics.specs.OnePackage.{ResolvedMember, callee_at, first_imported, interface_callee}
use Rattle.cjc_jvm_semantics.specs.OnePackage.{is_constructor, is_initialiser, of_class, selected_from}
use Rattle.cjc_vtable.specs.Calls.{is_special}
use Rattle.cjc_world.specs.Classes.{Class, Member as WorldMember, class_named}
use Rattle.cjc_world.specs.Files.{Files}
use Rattle.cjc_world.specs.Lookup.{first, receiver}
use Rattle.cjc_world.specs.Subtype.{is_subtype, starts}
use Rattle.cjc_world.specs.Supertypes.{line}
use Rattle.cjc_world.specs.Upwards.{Below}
use Rattle.cjc_shape_proof.specs.WorldProof.Calls.Targets.{IsReceiver}
use Rattle.cjc_token_proof.proofs.WorldProofTypes.{below_type}
use Rattle.cjc_joint_theorem.specs.Members.{Member, files_of}
use Rattle.cjc_joint_theorem.specs.Together.Calls.{selected_together}
use Rattle.cjc_joint_theorem.specs.Together.Homes.{joint_world}
use Rattle.cjc_joint_whole.specs.ModesCalls.{IsChosenIn, chooses_import, chooses_method}
use Rattle.cjc_joint_whole.specs.Told.{IsToldAbove}
use Rattle.cjc_joint_whole.specs.Whole.{AreWholeWith}
use Rattle.cjc_joint_whole.proofs.WholeLaws.Coded.{IsReachedOf}
use Rattle.cjc_joint_whole.proofs.WholeLaws.Coded as coded
use Rattle.cjc_joint_whole.proofs.WholeLaws.Implemented.{interface_has}
use Rattle.cjc_joint_whole.proofs.WholeLaws.Selected.{reaches_found, selects_open}

module _ {K : _} (members : List Member) (is : AreWholeWith K members) (tell : IsToldAbove members) (id : MemberId)
    (initial : is_initialiser id.name ≡ false) (ordinary : is_constructor id.name ≡ false)
    (plain : is_special (record { name = id.name; desc = id.desc }) ≡ false) where
  abbrev group : List Files
  group = files_of members

  abbrev w : List Class
  w = joint_world group

  chosen : (type : List ℕ) (callee : Callee) (y : List ℕ) → IsReachedOf members is id true y callee
      → Below w (receiver type) y → starts 91 y ≡ false → IsChosenIn members id type callee
  chosen type _ y (coded.inside own same) way name = chooses_method own (subst (λ z. is_subtype w type z ≡ true) (sym same)
      (below_type w type y name way))
  chosen type _ y (coded.abroad e) way name = chooses_import e

  -- What a call selects on a type.
  abbrev pub Selects : ResolvedMember → (type : List ℕ) → Type 0
  Selects met type = (callee : Callee) × (selected_together group met type id ≡ Some callee)
      × IsChosenIn members id type callee

  -- a method of a class or, on an object of a class file, of an interface
  pub selects_any : (met : ResolvedMember) → is_package_visible met.flags ≡ false → (d : Class)
      → class_named w d.name ≡ Some d → (i : ℕ) (m : WorldMember) → slice_get d.methods i ≡ Some m → m.name ≡ id.name
      → m.desc ≡ id.desc → is_open m.flags ≡ true → (type : List ℕ) (r : IsReceiver w (receiver type))
      → Below w (receiver type) d.name → (is_interface d.flags ≡ true → (let c = r.class in c.is_imported) ≡ false)
      → Selects met type
  selects_any met shown d named i m there name desc open_one type r way own =
      ⊎_elim of_interface (λ ground. selects_open members is id plain initial met shown d named ground i m there name desc
      open_one type r way) (true_or_false (is_interface d.flags))
    where
      x : List ℕ
      x = receiver type

      of_interface : is_interface d.flags ≡ true → Selects met type
      of_interface it =
          let g = interface_has members is tell id initial ordinary plain d named it i m there name desc open_one x r
          (own it) way in
          let selects : selection_for w met type id ≡ Some g.0 = ap (λ b. let owner = met.owner in if b
          then first (own_within (package_of owner.name) id.name id.desc) (line w x)
          else first (own_where is_open id.name id.desc) (line w x)) shown ∙ g.1 in
          let event = first_imported (line w x) in
          let to = reaches_found members is id plain initial x r g.0 g.1 event in (
            to.0,
            ap (option_and_then (λ k. callee_at (joint group) event id k)) selects ∙ to.1,
            chosen type to.0 to.2 to.3 to.4 to.5,
          )

  -- by invokeinterface, on an object of a class from outside the event of the interface
  pub selects_by_interface : (met : ResolvedMember) → is_package_visible met.flags ≡ false → (d : Class)
      → class_named w d.name ≡ Some d → (i : ℕ) (m : WorldMember) → slice_get d.methods i ≡ Some m → m.name ≡ id.name
      → m.desc ≡ id.desc → is_open m.flags ≡ true → (type : List ℕ) → IsReceiver w (receiver type)
      → Below w (receiver type) d.name → (callee : Callee) × ((let owner = met.owner in interface_callee (joint group) w
      (selection_for w met) owner.name type id (class_named w (receiver type))) ≡ Some callee)
      × IsChosenIn members id type callee
  selects_by_interface met shown d named i m there name desc open_one type r way =
      ⊎_elim
      (λ imp. (
        Abroad (of_class (let owner = met.owner in owner.name) id),
        at ∙ ap (λ b. if b then Some (Abroad (of_class (let owner = met.owner in owner.name) id))
            else selected_from (joint group) w (selection_for w met) type id) imp,
        chooses_import refl,
      ))
      (λ own. let s = selects_any met shown d named i m there name desc open_one type r way (λ it. own) in (
        s.0,
        at ∙ ap (λ b. if b then Some (Abroad (of_class (let owner = met.owner in owner.name) id))
            else selected_from (joint group) w (selection_for w met) type id) own ∙ s.1,
        s.2,
      ))
      (true_or_false (let c = r.class in c.is_imported))
    where
      at : (let owner = met.owner in interface_callee (joint group) w (selection_for w met) owner.name type id
          (class_named w (receiver type))) ≡ (if (let c = r.class in c.is_imported)
          then Some (Abroad (of_class (let owner = met.owner in owner.name) id))
          else selected_from (joint group) w (selection_for w met) type id)
      at = ap (interface_callee (joint group) w (selection_for w met) (let owner = met.owner in owner.name) type id)
          r.named
