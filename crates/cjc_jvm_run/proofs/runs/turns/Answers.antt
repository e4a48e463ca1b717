use Rattle.std.proofs.Common.{arith, ◌∙◌}
use Rattle.cjc_by_name.specs.Machine.{device, report}
use Rattle.cjc_turns.specs.States.{with_frame}
use Rattle.cjc_jvm_run.proofs.OneTurn.{run_on, run_over}
use Rattle.cjc_jvm_run.proofs.runs.turns.Goals as goal

pub loop-i-preserved : goal.loop-i-preserved
loop-i-preserved g c =
    let d = device (g.L.LookUps.linked c.args.links.now) in
    let turned = rw c.in-On.is at c.in_ok-turn.ensures.next in
    let same = run_on d c.args.n c.loop-i.i (with_frame c.loop-i.top c.loop-i.machine) (with_frame c.in-On.next c.turn.new.machine) c.loop-i-test.true turned in
    record {
      same = c.loop-i.invariant.same ∙ same;
      most = omega (arith, c.in_ok-turn.ensures.most);
      spent = omega (arith, c.in_ok-turn.ensures.spent);
    }
