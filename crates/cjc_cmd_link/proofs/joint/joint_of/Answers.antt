use Rattle.cjc_cmd_link.proofs.Joined.{cycle_refused}
use Rattle.cjc_cmd_link.specs.Working.{worlds_of}
use Rattle.cjc_cmd_link.proofs.joint.joint_of.Goals as goal

pub returns-in-None-clause-refused : goal.returns-in-None-clause-refused
returns-in-None-clause-refused c =
    let cycle = rw c.in-None.is at c.in_ok-joint.ensures in
    cycle_refused c.args.name.now (worlds_of c.args.members.now) c.refused.result cycle c.refused.ensures
