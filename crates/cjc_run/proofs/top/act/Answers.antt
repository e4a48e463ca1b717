use Rattle.cjc_shelf.proofs.CommandLaws.Acting.{acts_end, acts_published}
use Rattle.cjc_run.specs.Asked.{asked}
use Rattle.cjc_run.specs.Command.{command_of}
use Rattle.cjc_run.proofs.top.act.Goals as goal

pub returns-in-Ok : goal.returns-in-Ok
returns-in-Ok g c = acts_published (command_of (asked c.args.command)) _ _ _ _ _ _ _ c.in-Ok.ensures c.publish.ensures

pub returns-in-Err : goal.returns-in-Err
returns-in-Err g c = acts_end (command_of (asked c.args.command)) _ _ _ _ c.in-Err.ensures
