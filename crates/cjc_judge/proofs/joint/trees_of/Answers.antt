use Rattle.cjc_judge.proofs.JointLaws.{not_refused, read_again}
use Rattle.cjc_judge.proofs.joint.trees_of.Goals as goal

pub returns-in-Ok : goal.returns-in-Ok
returns-in-Ok c = read_again c.args.lines.now c.args.files.now c.in-Ok.trees c.in-Ok.ensures

pub unreachable-requires : goal.unreachable-requires
unreachable-requires c =
    not_refused c.args.lines.now c.args.files.now c.requires.spelt.0 c.requires.spelt.1 _ _ c.in-Err-Refused.field-0-is
    c.in-Err-Refused.ensures
