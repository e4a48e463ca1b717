use Rattle.cjc_cmd_link.proofs.Gathers.{group_then}
use Rattle.cjc_cmd_link.proofs.reads.gather_group.Goals as goal

pub returns-clause-gathers : goal.returns-clause-gathers
returns-clause-gathers g c =
    let rest = rw c.items.ensures at c.gather_text.ensures.gathers in
    group_then _ _ _ _ _ _ _ c.in_ok-text.ensures.gathers rest
