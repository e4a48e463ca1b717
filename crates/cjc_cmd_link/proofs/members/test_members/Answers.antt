use Rattle.cjc_cmd_link.proofs.Made.{all_made, follows, input_at, none_made}
use Rattle.cjc_cmd_link.proofs.members.test_members.Goals as goal

pub loop-member-init : goal.loop-member-init
loop-member-init c = none_made c.args.inputs.now _ _ c.requires.members c.requires.images

pub test_next-requires : goal.test_next-requires
test_next-requires c = input_at c.args.inputs.now c.loop-member.member-index c.member-item.result c.requires.inputs
    c.loop-member-test.true c.member-item.is

pub loop-member-preserved : goal.loop-member-preserved
loop-member-preserved c =
    follows c.consistent_where_unbroken.ensures.unbroken c.args.inputs.now c.loop-member.member-index
    c.member-item.result _ _ _ _ _ _ c.loop-member-test.true c.member-item.is c.in_ok-refusal.ensures
    c.loop-member.invariant

pub returns-clause-parts : goal.returns-clause-parts
returns-clause-parts c =
    (all_made c.args.inputs.now _ _ _ _ c.loop-member-test.false c.loop-member.invariant).0

pub returns-clause-made : goal.returns-clause-made
returns-clause-made c =
    (all_made c.args.inputs.now _ _ _ _ c.loop-member-test.false c.loop-member.invariant).1
