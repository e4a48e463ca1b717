use Rattle.std.proofs.Common.{◌∙◌, ap, ◌++◌, ◌∷◌, []}
use Rattle.cjc_cmd_link.proofs.Made.{each_more, made_at}
use Rattle.cjc_cmd_link.specs.Working.{written_of}
use Rattle.cjc_cmd_link.proofs.members.all_written.Goals as goal

pub written_of-requires : goal.written_of-requires
written_of-requires c =
    let r = c.requires in
    made_at r.inputs c.args.members.now r.images c.loop-member.member-index c.member-item.result r.are_made
    c.loop-member-test.true c.member-item.is

pub loop-member-preserved : goal.loop-member-preserved
loop-member-preserved c =
    each_more written_of c.args.members.now c.loop-member.member-index c.member-item.result _ _ c.loop-member-test.true
    c.member-item.is c.loop-member.invariant
    (c.in_ok-push.ensures.ok ∙ ap (λ t. c.loop-member.trees ++ t ∷ []) c.in_ok-tree.ensures)
