-- The receiver of a reached call is of the class that the call takes, in the joint world too.
use Rattle.std.proofs.Common.{◌≡◌, ℕ, ◌<◌, refl, sym, ap, ◌∙◌, arith, Bool, true, false, List, Some}
use Rattle.std.specs.Prelude.{nat_lt, slice_get, if◌then◌else◌}
use Rattle.std.specs.List.{list_all}
use Rattle.cjc_bytes.specs.declared.fault.MemberId.{MemberId}
use Rattle.cjc_components.specs.Bytecode.declared.insn.JOp.TheVariants as jop
use Rattle.cjc_components.specs.Bytecode.declared.method_code.MethodCode.{MethodCode}
use Rattle.cjc_jvm_semantics.specs.Group.{joint_image}
use Rattle.cjc_jvm_semantics.specs.Linked.{Method}
use Rattle.cjc_world.specs.Classes.{Class, all_classes}
use Rattle.cjc_world.specs.Subtype.{is_subtype}
use Rattle.cjc_narrow_proof.specs.NCode.ByLabel.{Named}
use Rattle.cjc_narrow_proof.specs.Script.Sorts.{Shape, shape_name}
use Rattle.cjc_narrow_proof.specs.Tables.Calls.{count_of}
use Rattle.cjc_narrow_proof.specs.Tables.Kinds.{is_one_of}
use Rattle.cjc_token_proof.specs.Types.declared.cell.Cell.{Cell}
use Rattle.cjc_token_proof.specs.Types.declared.cell.Cell.TheVariants.{Refs}
use Rattle.cjc_token_proof.specs.Types.declared.state.State.{State}
use Rattle.cjc_token_proof.specs.Types.Rules.{is_of, receiver_class}
use Rattle.cjc_token_proof.specs.Types.Search.{cells_of}
use Rattle.cjc_token_proof.specs.Types.Steps.{operand, receivers, takes}
use Rattle.cjc_joint_theorem.specs.Asked.{group_named}
use Rattle.cjc_joint_theorem.specs.Members.{Member, files_of, homes_of, images_of, tables_of}
use Rattle.cjc_joint_theorem.specs.Together.Homes.{group_look_ups, joint_world}
use Rattle.cjc_joint_theorem.proofs.MembersLaws.Worlds.{files_at}
use Rattle.cjc_joint_whole.specs.Whole.{AreWholeWith}
use Rattle.cjc_joint_whole.proofs.WholeLaws.Fields.{all_below, named_of}
use Rattle.cjc_joint_whole.proofs.WholeLaws.Members.{supers_together}
use Rattle.cjc_joint_whole.proofs.WholeLaws.Reached.{IsReached}

otherwise : (c x y : Bool) → c ≡ false → (if c then x else y) ≡ true → y ≡ true
otherwise true x y f e = absurd cc
otherwise false x y f e = e

module _ {K : _} (members : List Member) (is : AreWholeWith K members) (q : ℕ) (p : Member)
    (at : slice_get members q ≡ Some p)
    (codes : List MethodCode) (m : Method) (t : State) (op : ℕ) (id : MemberId)
    (r : IsReached p.files codes m (jop.Call op id) t) (on_object : receivers op ≡ 1) (class : List ℕ)
    (takes_class : receiver_class (all_classes p.files) r.body op id ≡ class) where
  abbrev v : List Class
  v = all_classes p.files

  abbrev w : List Class
  w = joint_world (files_of members)

  abbrev l : Named
  l = group_look_ups (files_of members) (joint_image (images_of members)) (homes_of members) (tables_of members)

  abbrev stack : List Cell
  stack = cells_of t.stack

  accepted : is_of v class (operand stack (count_of id.desc)) ≡ true
  accepted =
      let n = count_of id.desc in
      let no : nat_lt n n ≡ false = grind arith in
      let takes_it : n < takes (jop.Call op id) = omega (arith, on_object) in
      ap (λ k. is_of v k (operand stack n)) (sym takes_class)
      ∙ otherwise (nat_lt n n) _ (is_of v (receiver_class v r.body op id) (operand stack n)) no (r.fits n takes_it)

  subtypes : (a b : Shape (List ℕ)) → l.is_of a b ≡ is_subtype w (shape_name a) (shape_name b)
  unfolding group_named
  subtypes a b = refl

  pub receiver_is : (names : List (List ℕ)) → operand stack (count_of id.desc) ≡ Refs names
      → (kind : Shape (List ℕ)) → is_one_of l names kind ≡ true → is_subtype w (shape_name kind) class ≡ true
  receiver_is names on kind some =
      let all : list_all (λ name. is_subtype v name class) names ≡ true = ap (is_of v class) (sym on) ∙ accepted in
      named_of w l subtypes class names kind (all_below (λ name. is_subtype v name class)
      (λ name. is_subtype w name class) (λ name e. supers_together members is q p.files (files_at members q p at) name
      class e) names all) some
