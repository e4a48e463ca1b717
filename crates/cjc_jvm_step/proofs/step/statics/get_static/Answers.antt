use Rattle.std.proofs.Common.{rules, ◌≡◌, ◌∙◌, ap, subst}
use Rattle.std.specs.Prelude.{FitsSigned, Some, ℤ}
use Rattle.std.specs.Int.{w32, cast_signed, cast_unsigned}
use Rattle.std.proofs.lemmas.Int.{to_z-of_z}
use Rattle.std.proofs.lemmas.Result.{IfOk-weaker}
use Rattle.cjc_script.specs.declared.value.Value.TheVariants.{Num}
use Rattle.cjc_jvm_semantics.specs.Effects.{push}
use Rattle.cjc_jvm_step.specs.Frame.Deeds.{FollowsEffect}
use Rattle.cjc_jvm_step.specs.declared.step.lookups.ResolvedField.TheVariants as fields
use Rattle.cjc_jvm_step.specs.Step.Rows.{store_of}
use Rattle.cjc_jvm_step.proofs.step.statics.get_static.Goals as goal

pub returns-in-Some-Constant : goal.returns-in-Some-Constant
returns-in-Some-Constant c =
    let z = c.in-Some-Constant.z in
    let inner : c.in-Some-Constant.field-0 ≡ fields.Constant z =
    rw c.in-Some-Constant.is at c.in-Some-Constant.field-0-is in
    let found : c.args.field ≡ Some (fields.Constant z) = c.in-Some-Constant.is ∙ ap (λ r. Some r) inner in
    let fits : FitsSigned w32 z = search rules in
    let same : cast_signed w32 (cast_unsigned w32 z) ≡ z = to_z-of_z w32 z fits in
    let f = c.args.frame.now in
    rw found (IfOk-weaker c.push.result _ _ (λ deed h. λ l heap.
    let store = store_of heap c.args.statics.now in
    let P : ℤ → Type 0 = λ x. FollowsEffect (push l f.method f.at f.locals store (Num x) f.stack) deed f c.push.new.self
    store store in
    subst P same (h l store)) c.push.ensures)

pub returns-in-Some-Static : goal.returns-in-Some-Static
returns-in-Some-Static c =
    let inner : c.in-Some-Static.field-0 ≡ fields.Static c.in-Some-Static.class =
    rw c.in-Some-Static.is at c.in-Some-Static.field-0-is in
    let found : c.args.field ≡ Some (fields.Static c.in-Some-Static.class) = c.in-Some-Static.is
    ∙ ap (λ r. Some r) inner in
    rw found c.get_cell.ensures
