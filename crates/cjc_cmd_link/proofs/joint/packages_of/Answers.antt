use Rattle.cjc_cmd_link.proofs.Made.{each_more}
use Rattle.cjc_cmd_link.specs.Working.{world_of}
use Rattle.cjc_cmd_link.proofs.joint.packages_of.Goals as goal

pub loop-member-preserved : goal.loop-member-preserved
loop-member-preserved c =
    each_more world_of c.args.members.now c.loop-member.member-index c.member-item.result _ _ c.loop-member-test.true
    c.member-item.is c.loop-member.invariant c.in_ok-push.ensures.ok
