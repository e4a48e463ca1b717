use Rattle.std.proofs.Common.{◌≡◌, ◌++◌, drop}
use Rattle.cjc_ncode.specs.Written.{table_cases}
use Rattle.cjc_narrow.specs.Written.Labels.{place_of}
use Rattle.cjc_narrow.proofs.written.switches.table_cases.Given as goal

abbrev pub invariant-loop-target : goal.invariant-loop-target
invariant-loop-target l = l.cases ++ table_cases (place_of l.places) l.value (drop l.target-index l.targets)
    ≡ table_cases (place_of l.places) l.low l.targets
