use Rattle.std.proofs.Common.{◌≡◌, ◌+◌, ◌*◌, drop}
use Rattle.cjc_check_rules.specs.Described.{methods_ascend}
use Rattle.cjc_check_rules.specs.Spots.{earlier, first}
use Rattle.cjc_check_tables.proofs.links.described.methods_ascend.Given as goal

abbrev pub invariant-loop-method : goal.invariant-loop-method
invariant-loop-method l =
    (l.at ≡ l.from + 12 * l.method-index)
    × (earlier l.least (first (methods_ascend l.last l.at (drop l.method-index l.methods)))
    ≡ first (methods_ascend l.fn.before l.from l.methods))
