use Rattle.std.proofs.Common.{◌+◌, ◌≤◌, ◌<◌, sym, subst, arith}
use Rattle.cjc_jvm_semantics.specs.Machine.{State}
use Rattle.cjc_jvm.specs.States.{objects_at_most}
use Rattle.cjc_jvm.proofs.runs.runs.turn.Goals as goal

pub returns-in-Some-pop-clause-most : goal.returns-in-Some-pop-clause-most
returns-in-Some-pop-clause-most g c =
    subst (λ (s : State). objects_at_most c.step-in-Some-pop.new.machine ≤ objects_at_most s + 1) c.machine.view_is
    c.in_ok-step-2.ensures.most

pub step-requires-in-Frame-clause-few : goal.step-requires-in-Frame-clause-few
step-requires-in-Frame-clause-few g c =
    let few = subst (λ (s : State). objects_at_most s < 4294967296) (sym c.machine.view_is) c.requires.few in
    omega (arith, few, c.in_ok-frame.ensures.most)
