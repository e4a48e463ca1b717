use Rattle.std.proofs.Common.{◌≡◌, ◌-◌, sym, ap, arith, ◌∙◌}
use Rattle.cjc_jvm_step.specs.CardSemantics.Bytecode.Runs
use Rattle.cjc_jvm_semantics.specs.Machine.{device, report}
use Rattle.cjc_jvm.specs.States.{with_frame}
use Rattle.cjc_jvm.proofs.RunsLaws.OneTurn.{run_on, run_over}
use Rattle.cjc_jvm.proofs.runs.runs.turns.Goals as goal

pub loop-i-preserved : goal.loop-i-preserved
loop-i-preserved g c =
    let d = device (g.L.LookUps.linked c.args.links.now) in
    let turned = rw c.in-On.is at c.in_ok-next.ensures.next in
    let same = run_on d c.args.n c.loop-i.i (with_frame c.loop-i.top c.loop-i.machine) (with_frame c.in-On.next
    c.turn.new.machine) c.loop-i-test.true turned in
    record {
      same = c.loop-i.invariant.same ∙ same;
      most = omega (arith, c.loop-i.invariant.most, c.in_ok-next.ensures.most);
      spent = omega (arith, c.loop-i.invariant.spent, c.in_ok-next.ensures.spent);
    }

pub returns-in-Ended : goal.returns-in-Ended
returns-in-Ended g c =
    let d = device (g.L.LookUps.linked c.args.links.now) in
    let turned = rw c.in-Ended.is at c.in_ok-next.ensures.next in
    c.loop-i.invariant.same
    ∙ run_over d c.args.n c.loop-i.i (with_frame c.loop-i.top c.loop-i.machine) (report c.in-Ended.outcome
    c.turn.new.machine) c.loop-i-test.true turned

pub returns : goal.returns
returns g c =
    let l = g.L.LookUps.linked c.args.links.now in
    let d = device l in
    let none_left : c.args.n - c.loop-i.i ≡ 0 = omega arith in
    c.loop-i.invariant.same
    ∙ ap (λ k. Runs.run d k (with_frame c.loop-i.top c.loop-i.machine)) none_left
    ∙ ap (λ o. report o c.loop-i.machine) (sym (c.idle.ensures l))
