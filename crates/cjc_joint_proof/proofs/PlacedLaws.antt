-- Methods of several packages that calls reach by name begin where they stand.
use Rattle.std.proofs.Common.{◌≡◌, refl, List, Some, None}
use Rattle.std.specs.Prelude.{Option, option_map}
use Rattle.cjc_card_semantics.specs.Bytecode.Alike.{reached_as, start_as}
use Rattle.cjc_card_semantics.specs.Bytecode.Renaming.{option_as}
use Rattle.cjc_exported.specs.Narrow.Rows.Package.{start_of}
use Rattle.cjc_exported.specs.World.Files.{Files}
use Rattle.cjc_link_semantics.specs.JvmSemantics.Linked.{Inside, Method}
use Rattle.cjc_link_semantics.specs.JvmSemantics.Linked
use Rattle.cjc_token_proof.specs.Calls.Reaching.{start_placed}
use Rattle.cjc_token_proof.specs.NCode.Lowering.Placed.{Placed}
use Rattle.cjc_joint_proof.specs.JointAlike.{JointMethodsAgree, method_alone}
use Rattle.cjc_joint_proof.specs.JointNames.{joint_calls, joint_labels, reached_for, start_for}

module _ (group : List Files) (place : Method → Placed) where
  reached_there : (o : Option Linked.Callee) → reached_for group (start_of (λ m. (let p = place m in p.method))) o
      ≡ reached_as method_alone (λ p label. label) (reached_for group (start_placed place) o)
  reached_there None = refl
  reached_there (Some (Inside m)) = refl
  reached_there (Some (Linked.Abroad event)) = refl

  begins_there : (o : Option Method) → option_map (start_for group (start_of (λ m. (let p = place m in p.method)))) o
      ≡ option_as (start_as method_alone (λ p label. label)) (option_map (start_for group (start_placed place)) o)
  begins_there None = refl
  begins_there (Some m) = refl

  pub methods_placed : JointMethodsAgree (joint_labels group (λ m. (let p = place m in p.method))) (joint_calls group
      (start_placed place))
  unfolding joint_labels
  methods_placed = record {
    words = λ m. refl;
    reached = λ m o. reached_there _;
    called = λ id. begins_there _;
    sent = λ kind id. begins_there _;
  }
