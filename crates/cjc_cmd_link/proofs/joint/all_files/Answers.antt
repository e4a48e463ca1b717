use Rattle.std.proofs.Common.{◌∙◌, ◌++◌, ap}
use Rattle.cjc_cmd_link.proofs.Made.{flat_more}
use Rattle.cjc_cmd_link.specs.Working.{texts_of}
use Rattle.cjc_cmd_link.proofs.joint.all_files.Goals as goal

pub loop-member-preserved : goal.loop-member-preserved
loop-member-preserved c =
    flat_more texts_of c.args.members.now c.loop-member.member-index c.member-item.result _ _ c.loop-member-test.true
    c.member-item.is c.loop-member.invariant
    (c.in_ok-put_files.ensures ∙ ap (λ xs. c.loop-member.files ++ xs) c.items.ensures)
