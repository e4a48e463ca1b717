use Rattle.std.proofs.Common.{◌≡◌, sym}
use Rattle.std.specs.Prelude.{Some}
use Rattle.cjc_jvm_semantics.specs.Effects.{value_in}
use Rattle.cjc_jvm_semantics.specs.OnePackage.{of_class}
use Rattle.cjc_jvm_step.specs.Step.Rows.{store_of}
use Rattle.cjc_jvm_step.proofs.step.statics.get_cell.Goals as goal

pub returns-in_ok-push-in-Some : goal.returns-in_ok-push-in-Some
returns-in_ok-push-in-Some c =
    let there : value_in c.args.statics.now (of_class c.args.class.now c.args.id.now) ≡ Some c.in-Some.value =
    sym c.in-Some.ensures in
    λ l heap. rw there (c.in_ok-push-in-Some.ensures l (store_of heap c.args.statics.now))
