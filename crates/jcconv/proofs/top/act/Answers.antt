use Rattle.cjc_command.proofs.Acting.{acts_end}
use Rattle.jcconv.proofs.top.act.Goals as goal

pub returns-in-Err : goal.returns-in-Err
returns-in-Err g c = acts_end _ _ _ _ _ c.in-Err.ensures
