-- What names in code of either mode of a package stand for in a group, where they name types and constants.
use Rattle.std.proofs.Common.{◌≡◌, ℕ, true, List, Option, Some, None, refl, sym, ap, subst, ◌∙◌, ℤ}
use Rattle.std.specs.Prelude.{slice_get, option_map, option_and_then, is_some, Bool, false, if◌then◌else◌}
use Rattle.cjc_bytes.specs.AccessFlags.{is_static}
use Rattle.cjc_bytes.specs.declared.fault.MemberId.{MemberId}
use Rattle.cjc_code.specs.declared.insn.JOp.{JOp}
use Rattle.cjc_script.specs.Sorts.{Shape}
use Rattle.cjc_world.specs.Classes.{Class, all_classes}
use Rattle.cjc_world.specs.Files.{Files}
use Rattle.cjc_world.specs.Lookup.{find_field}
use Rattle.cjc_world.specs.declared.found.Found.{Found}
use Rattle.cjc_types.specs.declared.cell.Cell.{Cell}
use Rattle.cjc_jvm_semantics.specs.Linked.{Method, Constant, Static, Instance}
use Rattle.cjc_jvm_semantics.specs.OnePackage.{ResolvedMember, constant_at, field_by, field_hit, field_named, of_class}
use Rattle.cjc_jvm_semantics.specs.Group.{joint_image, have_class}
use Rattle.cjc_int_alike.specs.Named.{IsIntNamed}
use Rattle.cjc_int_alike.specs.Named as alone
use Rattle.cjc_narrow_proof.specs.Runs.Types.{IsThere}
use Rattle.cjc_joint_proof.proofs.ForeignLaws.{constant_together}
use Rattle.cjc_joint_theorem.specs.Together.Homes.{files_for, joint_world, IsThereIn}
use Rattle.cjc_joint_theorem.specs.Together.Names.{IsFieldIn}
use Rattle.cjc_joint_theorem.specs.Members.{Member, files_of, images_of, homes_of, tables_of}
use Rattle.cjc_joint_theorem.proofs.MembersLaws.Worlds.{files_at}
use Rattle.cjc_joint_modes.specs.Members.{modes_of, AreMembersByModes, IsLeftByMode}
use Rattle.cjc_joint_modes.specs.Names.{IsIntNamedIn}
use Rattle.cjc_joint_modes.specs.Names as names
use Rattle.cjc_joint_modes.proofs.MembersLaws.Worlds.{class_there, type_there}

-- ---- constants

-- how a constant is found
record IsConstantAt (p : Files) (id : MemberId) (z : ℤ) : Type 0 where
  place : Found
  hit : ResolvedMember
  found : find_field (all_classes p) id.class id.name id.desc ≡ Some place
  is_hit : field_hit (all_classes p) place ≡ Some hit
  value : constant_at p place ≡ Some z

constant_is : (p : Files) (id : MemberId) (z : ℤ) → field_named p (all_classes p) id ≡ Some (Constant z)
    → IsConstantAt p id z
constant_is p id z e = by (find_field (all_classes p) id.class id.name id.desc) refl e
  where
    no_constant : (b : Bool) (f : MemberId) → (if b then Static f else Instance f) ≡ Constant z → ⊥
    no_constant true f e = cc
    no_constant false f e = cc

    valued : (f : Found) (hit : ResolvedMember) → find_field (all_classes p) id.class id.name id.desc ≡ Some f
        → field_hit (all_classes p) f ≡ Some hit → (o : Option ℤ) → constant_at p f ≡ o → field_by o id hit
        ≡ Constant z → IsConstantAt p id z
    valued f hit found is (Some v) value e = let same : v ≡ z = cc in record {
      place = f;
      hit = hit;
      found = found;
      is_hit = is;
      value = value ∙ ap Some same;
    }
    valued f hit found is None value e = absurd (no_constant (is_static hit.flags) (let owner = hit.owner
        in of_class owner.name id) e)

    met : (f : Found) → find_field (all_classes p) id.class id.name id.desc ≡ Some f → (o : Option ResolvedMember)
        → field_hit (all_classes p) f ≡ o → option_map (field_by (constant_at p f) id) o ≡ Some (Constant z)
        → IsConstantAt p id z
    met f found None is e = cc
    met f found (Some hit) is e = valued f hit found is (constant_at p f) refl (let same : field_by (constant_at p f) id
        hit ≡ Constant z = cc in same)

    by : (o : Option Found) → find_field (all_classes p) id.class id.name id.desc ≡ o
        → option_and_then (λ f. option_map (field_by (constant_at p f) id) (field_hit (all_classes p) f)) o
        ≡ Some (Constant z) → IsConstantAt p id z
    by None found e = cc
    by (Some f) found e = met f found (field_hit (all_classes p) f) refl e

-- ---- instructions

module _ (members : List Member) (modes : ℕ → Method → Bool) (is : AreMembersByModes members modes) (q : ℕ)
    (p : Member) (at : slice_get members q ≡ Some p) where
  abbrev group : List Files
  group = files_of members

  abbrev w : List Class
  w = joint_world group

  pub constant_in : (id : MemberId) (z : ℤ) → field_named p.files (all_classes p.files) id ≡ Some (Constant z)
      → IsFieldIn group p.files id (Constant z)
  constant_in id z e =
      let c = constant_is p.files id z e in
      record {
        own = e;
        together = constant_together group p.files id c.place c.hit z c.found c.is_hit c.value;
      }

  type_in : (kind : Shape (List ℕ)) → IsThere (all_classes p.files) kind → IsThereIn group p.files kind
  type_in kind there = record {
    own = there;
    together = type_there members modes is q p.files (files_at members q p at) kind there;
  }

  module _ (m : Method) (files_is : files_for (homes_of members) m ≡ p.files) (stack : List Cell) where
    abbrev Alone : JOp → Type 0
    Alone op = IsIntNamed p.files p.image p.near p.tables (modes q) m stack op

    abbrev Together : JOp → Type 0
    Together op = IsIntNamedIn group (joint_image (images_of members)) (homes_of members) (tables_of members)
        (modes_of members modes) m stack op

    pub named_in : (op : JOp) → ((h : Alone op) → IsLeftByMode h → Together op) → Alone op → Together op
    named_in _ rest (alone.names_nothing plain) = names.names_nothing plain
    named_in _ rest (alone.is_on_array on) = names.is_on_array on
    named_in _ rest (alone.returns is) = names.returns is
    named_in _ rest alone.throws = names.throws
    named_in _ rest (alone.a_field f h) = rest (alone.a_field f h) tt
    named_in _ rest (alone.a_put_field f h) = rest (alone.a_put_field f h) tt
    named_in _ rest (alone.a_static {put = put} f h) = rest (alone.a_static {put = put} f h) tt
    named_in _ rest (alone.a_constant {named = id} z number holds found) = names.a_constant z number holds
        (subst (λ f. IsFieldIn group f id (Constant z)) (sym files_is) (constant_in id z found))
    named_in _ rest (alone.a_class fields made are) = rest (alone.a_class fields made are) tt
    named_in _ rest (alone.an_array {class = class} c there) =
        let d = class_there members modes is q p.files (files_at members q p at) class c there in
        names.an_array d.0 (ap (λ f. have_class (Some f) class) files_is ∙ ap is_some there) d.1
    named_in _ rest alone.booleans = names.booleans
    named_in _ rest alone.bytes = names.bytes
    named_in _ rest alone.shorts = names.shorts
    named_in _ rest alone.ints = names.ints
    named_in _ rest (alone.a_cast kind named there) = names.a_cast kind named
        (subst (λ f. IsThereIn group f kind) (sym files_is) (type_in kind there))
    named_in _ rest (alone.a_test kind named there) = names.a_test kind named
        (subst (λ f. IsThereIn group f kind) (sym files_is) (type_in kind there))
    named_in op rest (alone.calls h) = rest (alone.calls h) tt
