use Rattle.std.proofs.Common.{◌≡◌, ◌-◌, sym, ap, arith, ◌∙◌}
use Rattle.cjc_card_semantics.specs.Bytecode.Machine
use Rattle.cjc_card_semantics.specs.Bytecode.Machine.{report}
use Rattle.cjc_card_semantics.specs.Machine.ByToken.{by_token}
use Rattle.cjc_card.specs.declared.turns.after.After.TheVariants as afters
use Rattle.cjc_card.specs.States.{with_frame}
use Rattle.cjc_card.proofs.RunsLaws.OneTurn.{run_more}
use Rattle.cjc_card.proofs.runs.runs.turns.Goals as goal

pub loop-i-preserved : goal.loop-i-preserved
loop-i-preserved g c =
    let l = g.L.LookUps.loaded c.args.links.now in
    let turned = rw c.in-On.is at c.in_ok-next.ensures.next in
    record {
      same = c.loop-i.invariant.same ∙ run_more l c.args.n c.loop-i.i (with_frame c.loop-i.top c.loop-i.machine)
          (afters.On c.in-On.next) c.turn.new.machine c.loop-i-test.true turned;
      most = omega (arith, c.loop-i.invariant.most, c.in_ok-next.ensures.most);
      spent = omega (arith, c.loop-i.invariant.spent, c.in_ok-next.ensures.spent);
    }

pub returns-in-Ended : goal.returns-in-Ended
returns-in-Ended g c =
    let l = g.L.LookUps.loaded c.args.links.now in
    let turned = rw c.in-Ended.is at c.in_ok-next.ensures.next in
    c.loop-i.invariant.same
    ∙ run_more l c.args.n c.loop-i.i (with_frame c.loop-i.top c.loop-i.machine) (afters.Ended c.in-Ended.outcome)
    c.turn.new.machine c.loop-i-test.true turned

pub returns-in-Stuck : goal.returns-in-Stuck
returns-in-Stuck g c =
    let l = g.L.LookUps.loaded c.args.links.now in
    let turned = rw c.in-Stuck.is at c.in_ok-next.ensures.next in
    c.loop-i.invariant.same
    ∙ run_more l c.args.n c.loop-i.i (with_frame c.loop-i.top c.loop-i.machine) (afters.Stuck c.in-Stuck.at)
    c.turn.new.machine c.loop-i-test.true turned

pub returns : goal.returns
returns g c =
    let l = g.L.LookUps.loaded c.args.links.now in
    let none_left : c.args.n - c.loop-i.i ≡ 0 = omega arith in
    c.loop-i.invariant.same
    ∙ ap (λ k. Machine.run (by_token l) k (with_frame c.loop-i.top c.loop-i.machine)) none_left
    ∙ ap (λ o. report (by_token l) o c.loop-i.machine) (sym (c.idle.ensures l))
