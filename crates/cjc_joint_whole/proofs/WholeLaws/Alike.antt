-- What calls reach in a group where what they select by token is what they select by name: a method of a class file
-- where it stands in Method of its package, and the same event of a class from outside.
use Rattle.std.proofs.Common.{◌≡◌, ℕ, ◌+◌, refl, sym, ap, subst, ◌∙◌, List, Some, None, Option, false, true}
use Rattle.std.specs.Prelude.{option_map, slice_get, if◌then◌else◌}
use Rattle.cjc_bytes.specs.declared.fault.MemberId.{MemberId}
use Rattle.cjc_components.specs.Methods.{method_offset}
use Rattle.cjc_components.specs.Package.{Package, world}
use Rattle.cjc_joint_proof.specs.JointAlike.{IsOfGroup, JointNaming, code_at, offset_at}
use Rattle.cjc_joint_proof.specs.JointCalled.{StandByPackage}
use Rattle.cjc_joint_proof.specs.JointCode.{InPackage}
use Rattle.cjc_joint_proof.specs.JointNames.{place_of, reached_for, start_for}
use Rattle.cjc_joint_proof.specs.JointPackages.{AreLinked, files_together}
use Rattle.cjc_joint_proof.specs.JointTables.{world_together}
use Rattle.cjc_joint_proof.specs.JointTogether.{methods_together, naming_together}
use Rattle.cjc_joint_proof.specs.JointTowers.{loaded_together}
use Rattle.cjc_joint_proof.specs.Parts.{start_in}
use Rattle.cjc_joint_proof.specs.Worlds.{IsListed, IsOwn, before, found_in}
use Rattle.cjc_joint_proof.proofs.CalledLaws.{begins_among, method_class, start_there}
use Rattle.cjc_joint_proof.proofs.ClassLaws.{together_at}
use Rattle.cjc_joint_proof.proofs.MeantLaws.{part_of}
use Rattle.cjc_joint_proof.proofs.MemberLaws.{method_stays}
use Rattle.cjc_joint_proof.proofs.PartLaws.{starts_same}
use Rattle.cjc_joint_proof.proofs.SoundLaws as sound
use Rattle.cjc_joint_proof.proofs.TogetherLaws.{at_home}
use Rattle.cjc_jvm_semantics.specs.Group.{joint}
use Rattle.cjc_jvm_semantics.specs.Linked
use Rattle.cjc_jvm_semantics.specs.Linked.{Inside, Method}
use Rattle.cjc_jvm_semantics.specs.OnePackage.{callee_at, first_imported, method_at, of_class}
use Rattle.cjc_token_proof.proofs.WrittenCalls.Held.{FormsLaw, OffsetsLaw}
use Rattle.cjc_token_proof.specs.Calls.Reaching.{is_in_method, start_placed}
use Rattle.cjc_token_proof.specs.Calls.Selecting.{signature}
use Rattle.cjc_token_proof.specs.CardSemantics.Bytecode.Alike.{IsFound, reached_as}
use Rattle.cjc_token_proof.specs.CardSemantics.Bytecode.Machine.{Abroad, Reached, Start, Within}
use Rattle.cjc_token_proof.specs.CardSemantics.Machine.Calls.{reached_by, with_code}
use Rattle.cjc_token_proof.specs.CardSemantics.Machine.Dispatch.{At, Selection}
use Rattle.cjc_token_proof.specs.CardSemantics.Machine.Loaded.{Loaded}
use Rattle.cjc_token_proof.specs.NCode.Lowering.Placed.{Placed}
use Rattle.cjc_token_proof.specs.Tables.Loading.{loaded}
use Rattle.cjc_world.specs.ClassFile.declared.tree.ClassTree.{ClassTree}
use Rattle.cjc_world.specs.Classes.{Class, declared}
use Rattle.cjc_world.specs.Files.{Files}
use Rattle.cjc_world.specs.Supertypes.{line}
use Rattle.cjc_world.specs.declared.found.Found.{Found}
use Rattle.cjc_joint_whole.specs.Selected.{SelectsAlike, from_outside, in_package}
use Rattle.cjc_joint_whole.proofs.WholeLaws.FixedNamed.{AloneLaws, among, begins}

module _ (forms : FormsLaw) (offsets : OffsetsLaw) (packages : List Package) (linked : AreLinked packages)
    (each : (q : ℕ) (p : Package) → slice_get packages q ≡ Some p → AloneLaws p) (at : Method → Placed)
    (stand : StandByPackage packages at) where
  abbrev l : Loaded
  l = loaded_together packages

  abbrev group : List Files
  group = files_together packages

  abbrev w : List Class
  w = world_together packages

  abbrev g : JointNaming
  g = naming_together packages

  -- ---- a method of a class file, in its package

  module _ (r : ℕ) (e : Package) (h : Found) (t : ClassTree) (there : slice_get packages r ≡ Some e)
      (mine : h.imported ≡ false) (file : let files = e.files in slice_get files.classes h.class ≡ Some t)
      (inside : is_in_method (world e) h ≡ true) where
    own_file : IsOwn group r h.class e.files t
    own_file = record { member = together_at packages linked r e there; file = file }

    -- it is the same in the joint world
    method_same : method_at (joint group) (found_in (before group r) h) ≡ method_at e.files h
    method_same =
        ap (λ b. method_at (joint group) (record {
          imported = b;
          class = before group r + h.class;
          member = h.member;
        })) mine
        ∙ method_stays group r h.class e.files t own_file h.member
        ∙ ap (λ b. method_at e.files (record { imported = b; class = h.class; member = h.member })) (sym mine)

    listed : IsListed e.files h.class t
    listed = sound.listed group linked.sound r h.class e.files t own_file

    home : (m : Method) → method_at e.files h ≡ Some m → (let id = m.id in place_of group id.class ≡ r)
    home m is = ap (place_of group) (method_class e.files h h.class t m file refl is)
        ∙ at_home packages linked r e there t.name (record {
          class = declared h.class t;
          there = (let k = listed in k.name);
          own = refl;
        })

    started : (m : Method) → method_at e.files h ≡ Some m → reached_by l (At r
        (method_offset e h)) ≡ reached_as (code_at g) (offset_at g) (Within (start_for group (start_placed at) m))
    started m is =
        ap with_code (starts_same (loaded e) l r (part_of packages linked r e there) (method_offset e h)
        ∙ ap (option_map (start_in r)) (begins forms offsets e (each r e there) h m inside is)
        ∙ ap Some (start_there packages linked at stand r e there m (home m is)))

    -- what is reached is where it begins
    within : (event : List ℕ) (id : MemberId) (v : Reached (InPackage Placed)) → reached_for group (start_placed at)
        (callee_at (joint group) event id (found_in (before group r) h)) ≡ v → IsFound v → (m : Method)
        × (method_at e.files h ≡ Some m) × (v ≡ Within (start_for group (start_placed at) m))
    within event id v is found = by (method_at e.files h) refl (sym (ap (λ b. reached_for group (start_placed at) (if b
        then Some (Linked.Abroad (of_class event id))
        else option_map Inside (method_at (joint group) (found_in (before group r) h)))) mine
        ∙ ap (λ o. reached_for group (start_placed at) (option_map Inside o)) method_same) ∙ is)
      where
        by : (o : Option Method) → method_at e.files h ≡ o
            → reached_for group (start_placed at) (option_map Inside o) ≡ v → (m : Method)
            × (method_at e.files h ≡ Some m) × (v ≡ Within (start_for group (start_placed at) m))
        by None e is = absurd (subst IsFound (sym is) found)
        by (Some m) e is = (m, e, sym is)

  -- ---- what is selected

  module _ (x : List ℕ) (id : MemberId) (f : Found) (sel : Selection) where
    abbrev by_name : Reached (InPackage Placed)
    by_name = reached_for group (start_placed at) (callee_at (joint group) (first_imported (line w x)) id f)

    -- is reached alike
    pub alike_reached : SelectsAlike packages x (signature id) f sel → (v : Reached (InPackage Placed)) → by_name ≡ v
        → IsFound v → reached_by l sel ≡ reached_as (code_at g) (offset_at g) v
    alike_reached (from_outside import is) v e found =
        ap (reached_by l) is
        ∙ ap (reached_as (code_at g) (offset_at g)) (sym (ap (λ b. reached_for group (start_placed at) (if b
        then Some (Linked.Abroad (of_class (first_imported (line w x)) id))
        else option_map Inside (method_at (joint group) f))) import) ∙ e)
    alike_reached (in_package r p h t there mine file same inside is) v e found =
        let m = within r p h t there mine file inside (first_imported (line w x)) id v
        (ap (λ k. reached_for group (start_placed at) (callee_at (joint group) (first_imported (line w x)) id k))
        (sym same) ∙ e) found in
        ap (reached_by l) is ∙ started r p h t there mine file inside m.0 m.1
        ∙ ap (reached_as (code_at g) (offset_at g)) (sym m.2)

    -- a method that is reached is one of those of the group
    pub alike_known : SelectsAlike packages x (signature id) f sel → (start : Start (InPackage Placed))
        → by_name ≡ Within start → IsOfGroup l (methods_together packages) start.code
    alike_known (from_outside import is) start e =
        let no : Abroad (of_class (first_imported (line w x)) id) ≡ Within start = sym (ap (λ b. reached_for group
        (start_placed at) (if b then Some (Linked.Abroad (of_class (first_imported (line w x)) id))
        else option_map Inside (method_at (joint group) f))) import) ∙ e in
        absurd (cc)
    alike_known (in_package r p h t there mine file same inside is) start e =
        let m = within r p h t there mine file inside (first_imported (line w x)) id (Within start)
        (ap (λ k. reached_for group (start_placed at) (callee_at (joint group) (first_imported (line w x)) id k))
        (sym same) ∙ e) tt in
        let one : start_for group (start_placed at) m.0 ≡ start = (let both = m.2 in cc) in
        subst (λ (s : Start (InPackage Placed)). IsOfGroup l (methods_together packages) s.code) one
        (begins_among packages linked at stand r p there m.0 (home r p h t there mine file inside m.0 m.1)
        (among forms offsets p (each r p there) h m.0 inside m.1))
