use Rattle.std.proofs.Common.{◌≡◌, ◌+◌, drop}
use Rattle.std.specs.Prelude.{sum_by}
use Rattle.cjc_check_index.specs.Lookup.Parts.{complete_of}
use Rattle.cjc_check_rules.specs.Complete.{exported_size}
use Rattle.cjc_check_rules.specs.Spots.{earlier, first, numbered}
use Rattle.cjc_check_tables.specs.Exported.{exported_spot}
use Rattle.cjc_check_tables.proofs.exported.offsets.class_spot.Given as goal

abbrev pub invariant-loop-i : goal.invariant-loop-i
invariant-loop-i l =
    (l.at + sum_by exported_size (drop l.i l.exported) ≡ 1 + sum_by exported_size l.exported)
    × (earlier l.least (first (numbered exported_size (exported_spot (complete_of l.methods.names.now.parts.now)) l.i
    l.at (drop l.i l.exported)))
    ≡ first (numbered exported_size (exported_spot (complete_of l.methods.names.now.parts.now)) 0 1 l.exported))
