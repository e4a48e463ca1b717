use Rattle.cjc_shelf.proofs.CommandLaws.Published.{publishes_stop}
use Rattle.cjc_shelf.proofs.command.publishing.publish.Goals as goal

pub returns-in-Err : goal.returns-in-Err
returns-in-Err g c =
    let writes = rw c.items.ensures at c.in-Err.ensures in
    rw c.stopped.ensures (publishes_stop _ _ _ _ _ writes)
