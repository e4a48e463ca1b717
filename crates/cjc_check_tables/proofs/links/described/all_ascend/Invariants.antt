use Rattle.std.proofs.Common.{◌≡◌, ◌+◌, drop}
use Rattle.std.specs.Prelude.{sum_by, None}
use Rattle.cjc_check_rules.specs.Complete.{described_size}
use Rattle.cjc_check_rules.specs.Described.{all_ascend}
use Rattle.cjc_check_rules.specs.Spots.{earlier, first}
use Rattle.cjc_check_tables.proofs.links.described.all_ascend.Given as goal

abbrev pub invariant-loop-class : goal.invariant-loop-class
invariant-loop-class l =
    (l.at + sum_by described_size (drop l.class-index l.classes) ≡ 1 + sum_by described_size l.classes)
    × (earlier l.least (first (all_ascend l.names.parts.now.class.now l.last l.at (drop l.class-index l.classes)))
    ≡ first (all_ascend l.names.parts.now.class.now None 1 l.classes))
