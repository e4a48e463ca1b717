use Rattle.std.proofs.Common.{◌≡◌, length, map}
use Rattle.std.specs.List.{range_with_len}
use Rattle.cjc_check_tables.specs.Members.Working.Above.{has_among}
use Rattle.cjc_check_tables.proofs.members.virtuals.answers_of.Given as goal

abbrev pub invariant-loop-token : goal.invariant-loop-token
invariant-loop-token l = l.row ≡ map (has_among l.names.parts.now.class.now l.names.exports.now (length l.above)
    l.class) (range_with_len 0 l.token)
