use Rattle.std.proofs.Common.{◌≡◌, ◌-◌, ◌≤◌, drop, length}
use Rattle.cjc_check_rules.specs.ClassRefs.{in_nibbles}
use Rattle.cjc_check_rules.specs.Spots.{earlier, first}
use Rattle.cjc_check_index.specs.Lookup.Indexed.{names_as}
use Rattle.cjc_check_tables.proofs.links.refs.Refs.in_nibbles.Given as goal

abbrev pub invariant-loop-i : goal.invariant-loop-i
invariant-loop-i l =
    (l.i ≤ length l.nibbles)
    × (earlier l.least (first (in_nibbles (names_as l.self.want l.self.names.now.parts.now.class.now
    l.self.names.now.exports.now) l.at l.i (drop l.i l.nibbles)))
    ≡ first (in_nibbles (names_as l.self.want l.self.names.now.parts.now.class.now l.self.names.now.exports.now)
    l.at 0 l.nibbles))

abbrev pub decreases-loop-i : goal.decreases-loop-i
decreases-loop-i l = length l.initial.nibbles - l.i
