use Rattle.std.proofs.Common.{rules, ◌≡◌, refl, subst, ◌-ℤ◌}
use Rattle.std.specs.Prelude.{FitsSigned, ℤ, slice_get}
use Rattle.std.specs.Int.{w16, w32, cast_signed, cast_unsigned}
use Rattle.std.proofs.lemmas.Int.{to_z-of_z}
use Rattle.std.proofs.lemmas.Result.{IfOk-weaker}
use Rattle.cjc_script.specs.declared.value.Value.TheVariants.{Num}
use Rattle.cjc_jvm_step.specs.Frame.Deeds.{FollowsEffect}
use Rattle.cjc_jvm_semantics.specs.Effects.{effect, push, local_value, after_increase, one_number, jump, entry_of}
use Rattle.cjc_jvm_step.specs.Step.Rows.{store_of}
use Rattle.cjc_jvm_step.proofs.step.instruction.act.Goals as goal

pub returns-in-Nop-clause-row : goal.returns-in-Nop-clause-row
unfolding effect
returns-in-Nop-clause-row g c = rw c.in-Nop.is (c.do_nothing.ensures (g.L.LookUps.linked c.args.links.now)
    (store_of c.args.heap.now c.args.statics.now))

pub returns-in-Null-clause-row : goal.returns-in-Null-clause-row
unfolding effect
returns-in-Null-clause-row g c =
    rw c.in-Null.is (IfOk-weaker c.push.result _ _ (λ deed h. h (g.L.LookUps.linked c.args.links.now)
    (store_of c.args.heap.now c.args.statics.now)) c.push.ensures)

pub returns-in-Load-clause-row : goal.returns-in-Load-clause-row
unfolding effect
returns-in-Load-clause-row g c =
    rw c.in-Load.is (IfOk-weaker c.load.result _ _ (λ deed h. h (g.L.LookUps.linked c.args.links.now)
    (store_of c.args.heap.now c.args.statics.now)) c.load.ensures)

pub returns-in-Store-clause-row : goal.returns-in-Store-clause-row
unfolding effect
returns-in-Store-clause-row g c = rw c.in-Store.is (c.store.ensures (g.L.LookUps.linked c.args.links.now)
    (store_of c.args.heap.now c.args.statics.now))

pub returns-in-ArrayLoad-clause-row : goal.returns-in-ArrayLoad-clause-row
unfolding effect
returns-in-ArrayLoad-clause-row g c = rw c.in-ArrayLoad.is (IfOk-weaker c.array_load.result _ _
    (λ deed h. h (g.L.LookUps.linked c.args.links.now) c.args.statics.now) c.array_load.ensures)

pub returns-in-ArrayStore-clause-row : goal.returns-in-ArrayStore-clause-row
unfolding effect
returns-in-ArrayStore-clause-row g c = rw c.in-ArrayStore.is (c.array_store.ensures.row c.args.statics.now)

pub returns-in-Stack-clause-row : goal.returns-in-Stack-clause-row
unfolding effect
returns-in-Stack-clause-row g c =
    rw c.in-Stack.is (IfOk-weaker c.arrange.result _ _ (λ deed h. h (g.L.LookUps.linked c.args.links.now)
    (store_of c.args.heap.now c.args.statics.now)) c.arrange.ensures)

pub returns-in-Arith-clause-row : goal.returns-in-Arith-clause-row
unfolding effect
returns-in-Arith-clause-row g c =
    rw c.in-Arith.is (IfOk-weaker c.calculate.result _ _ (λ deed h. h (g.L.LookUps.linked c.args.links.now)
    (store_of c.args.heap.now c.args.statics.now)) c.calculate.ensures)

pub returns-in-Narrow-clause-row : goal.returns-in-Narrow-clause-row
unfolding effect
returns-in-Narrow-clause-row g c =
    rw c.in-Narrow.is (IfOk-weaker c.narrow.result _ _ (λ deed h. h (g.L.LookUps.linked c.args.links.now)
    (store_of c.args.heap.now c.args.statics.now)) c.narrow.ensures)

pub returns-in-Goto-clause-row : goal.returns-in-Goto-clause-row
unfolding effect
returns-in-Goto-clause-row g c = rw c.in-Goto.is (c.go_to.ensures (g.L.LookUps.linked c.args.links.now)
    (store_of c.args.heap.now c.args.statics.now))

pub returns-in-LookupSwitch-clause-row : goal.returns-in-LookupSwitch-clause-row
unfolding effect
returns-in-LookupSwitch-clause-row g c =
    rw c.in-LookupSwitch.is ((rw c.items-in-LookupSwitch.ensures at c.switch_by_cases.ensures)
    (g.L.LookUps.linked c.args.links.now) (store_of c.args.heap.now c.args.statics.now))

pub returns-in-Return-clause-row : goal.returns-in-Return-clause-row
unfolding effect
returns-in-Return-clause-row g c = rw c.in-Return.is (c.leave.ensures (g.L.LookUps.linked c.args.links.now)
    (store_of c.args.heap.now c.args.statics.now))

pub returns-in-Static-clause-row : goal.returns-in-Static-clause-row
unfolding effect
returns-in-Static-clause-row g c = rw c.in-Static.is (IfOk-weaker c.act_on_static.result _ _
    (λ deed h. h c.args.heap.now) c.act_on_static.ensures)

pub returns-in-Field-clause-row : goal.returns-in-Field-clause-row
unfolding effect
returns-in-Field-clause-row g c =
    rw c.in-Field.is (IfOk-weaker c.act_on_field.result _ _ (λ deed h. h c.args.statics.now) c.act_on_field.ensures.row)

pub returns-in-New-clause-row : goal.returns-in-New-clause-row
unfolding effect
returns-in-New-clause-row g c = rw c.in-New.is (IfOk-weaker c.new_of.result _ _ (λ deed h. h c.args.statics.now)
    (rw c.items-in-New.ensures at c.new_of.ensures.row))

pub returns-in-NewArray-clause-row : goal.returns-in-NewArray-clause-row
unfolding effect
returns-in-NewArray-clause-row g c = rw c.in-NewArray.is (IfOk-weaker c.new_numbers.result _ _
    (λ deed h. h (g.L.LookUps.linked c.args.links.now) c.args.statics.now) c.new_numbers.ensures.row)

pub returns-in-ANewArray-clause-row : goal.returns-in-ANewArray-clause-row
unfolding effect
returns-in-ANewArray-clause-row g c = rw c.in-ANewArray.is (IfOk-weaker c.new_references.result _ _
    (λ deed h. h c.args.statics.now) (rw c.items-in-ANewArray.ensures at c.new_references.ensures.row))

pub returns-in-ArrayLength-clause-row : goal.returns-in-ArrayLength-clause-row
unfolding effect
returns-in-ArrayLength-clause-row g c = rw c.in-ArrayLength.is (IfOk-weaker c.array_length.result _ _
    (λ deed h. h (g.L.LookUps.linked c.args.links.now) c.args.statics.now) c.array_length.ensures)

pub returns-in-Throw-clause-row : goal.returns-in-Throw-clause-row
unfolding effect
returns-in-Throw-clause-row g c = rw c.in-Throw.is (c.throw.ensures (g.L.LookUps.linked c.args.links.now)
    (store_of c.args.heap.now c.args.statics.now))

pub returns-in-CheckCast-clause-row : goal.returns-in-CheckCast-clause-row
unfolding effect
returns-in-CheckCast-clause-row g c = rw c.in-CheckCast.is (IfOk-weaker c.check_cast.result _ _
    (λ deed h. h c.args.statics.now) (rw c.items-in-CheckCast.ensures at c.check_cast.ensures))

pub returns-in-InstanceOf-clause-row : goal.returns-in-InstanceOf-clause-row
unfolding effect
returns-in-InstanceOf-clause-row g c = rw c.in-InstanceOf.is (IfOk-weaker c.instance_of.result _ _
    (λ deed h. h c.args.statics.now) (rw c.items-in-InstanceOf.ensures at c.instance_of.ensures))

pub returns-in-If-clause-row : goal.returns-in-If-clause-row
unfolding effect
returns-in-If-clause-row g c = rw c.in-If.is (c.branch-frame.ensures (g.L.LookUps.linked c.args.links.now)
    (store_of c.args.heap.now c.args.statics.now))

pub returns-in-Number-clause-row : goal.returns-in-Number-clause-row
unfolding effect
returns-in-Number-clause-row g c =
    let l = g.L.LookUps.linked c.args.links.now in
    let f = c.args.frame.now in
    let store = store_of c.args.heap.now c.args.statics.now in
    let z = c.in-Number.z in
    let fits : FitsSigned w32 z = search rules in
    let same : cast_signed w32 (cast_unsigned w32 z) ≡ z = to_z-of_z w32 z fits in
    rw c.in-Number.is (IfOk-weaker c.push-in-Number.result _ _ (λ deed h.
    let P : ℤ → Type 0 = λ x. FollowsEffect (push l f.method f.at f.locals store (Num x) f.stack) deed f
    c.push-in-Number.new.self store store in
    subst P same (h l store)) c.push-in-Number.ensures)

pub returns-in-Inc-clause-row : goal.returns-in-Inc-clause-row
unfolding effect
returns-in-Inc-clause-row g c =
    let l = g.L.LookUps.linked c.args.links.now in
    let f = c.args.frame.now in
    let store = store_of c.args.heap.now c.args.statics.now in
    let by = c.in-Inc.by in
    let fits : FitsSigned w16 by = search rules in
    let same : cast_signed w16 (cast_unsigned w16 by) ≡ by = to_z-of_z w16 by fits in
    let P : ℤ → Type 0 = λ x. FollowsEffect (local_value (slice_get f.locals c.in-Inc.local) (λ v. after_increase l
    f.method f.at f.locals store c.in-Inc.local x v f.stack)) c.increase.result f c.increase.new.self store store in
    rw c.in-Inc.is (subst P same (c.increase.ensures l store))

pub returns-in-TableSwitch-clause-row : goal.returns-in-TableSwitch-clause-row
unfolding effect
returns-in-TableSwitch-clause-row g c =
    let l = g.L.LookUps.linked c.args.links.now in
    let f = c.args.frame.now in
    let store = store_of c.args.heap.now c.args.statics.now in
    let low = c.in-TableSwitch.low in
    let fits : FitsSigned w32 low = search rules in
    let same : cast_signed w32 (cast_unsigned w32 low) ≡ low = to_z-of_z w32 low fits in
    let P : ℤ → Type 0 = λ y. FollowsEffect (one_number f.stack (λ x rest. jump l f.method f.at f.locals store
    (entry_of c.in-TableSwitch.other c.in-TableSwitch.targets (x -ℤ y)) rest)) c.switch_by_table.result f
    c.switch_by_table.new.self store store in
    rw c.in-TableSwitch.is (subst P same (rw c.items.ensures at (c.switch_by_table.ensures l store)))

pub returns-in-Call-clause-row : goal.returns-in-Call-clause-row
unfolding effect
returns-in-Call-clause-row g c = rw c.in-Call.is (record { effect = refl; keeps = (refl, refl) })
