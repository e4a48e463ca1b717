use Rattle.std.proofs.Common.{sym, ◌∙◌}
use Rattle.cjc_narrow.proofs.PairsLaws.Walks.{wait_over}
use Rattle.cjc_narrow.proofs.select.pairs.last_wait.Goals as goal

pub returns-else-waits : goal.returns-else-waits
returns-else-waits c =
    wait_over c.loop-k.wait c.args.steps.now c.loop-k.k _ (sym c.waits.ensures ∙ c.if-waits.false) c.loop-k.invariant
