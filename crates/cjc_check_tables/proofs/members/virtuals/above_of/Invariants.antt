use Rattle.std.proofs.Common.{◌≡◌, length}
use Rattle.cjc_check_tables.specs.Members.Working.Above.{AreAbove}
use Rattle.cjc_check_tables.proofs.members.virtuals.above_of.Given as goal

abbrev pub invariant-loop-class : goal.invariant-loop-class
invariant-loop-class l = AreAbove l.names.parts.now.class.now l.names.exports.now l.above
    × (length l.above ≡ l.class-index)
