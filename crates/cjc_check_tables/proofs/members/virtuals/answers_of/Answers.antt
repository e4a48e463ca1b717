use Rattle.std.proofs.Common.{arith, length}
use Rattle.cjc_check_tables.specs.Members.Working.Above.{has_among}
use Rattle.cjc_check_tables.proofs.MembersLaws.Above.{row_more, row_all}
use Rattle.cjc_check_tables.proofs.members.virtuals.answers_of.Goals as goal

pub loop-token-preserved : goal.loop-token-preserved
loop-token-preserved c =
    row_more (has_among c.args.names.now.parts.now.class.now c.args.names.now.exports.now (length c.args.above.now)
    c.args.class) c.loop-token.token c.loop-token.row _ _ c.in_ok-push.ensures.ok c.has_among.ensures
    c.loop-token.invariant

pub returns : goal.returns
returns c = row_all (has_among c.args.names.now.parts.now.class.now c.args.names.now.exports.now
    (length c.args.above.now) c.args.class) c.loop-token.token c.loop-token.row (omega arith) c.loop-token.invariant
