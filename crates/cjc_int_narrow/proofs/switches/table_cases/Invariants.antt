use Rattle.std.proofs.Common.{◌≡◌, ◌++◌, drop}
use Rattle.std.specs.Prelude.{pos, ◌+ℤ◌}
use Rattle.cjc_ncode.specs.IntCode.IntCode.{table_cases}
use Rattle.cjc_narrow.specs.Written.Labels.{place_of}
use Rattle.cjc_int_narrow.proofs.switches.table_cases.Given as goal

abbrev pub invariant-loop-k : goal.invariant-loop-k
invariant-loop-k l = l.cases ++ table_cases (place_of l.places) (l.low +ℤ pos l.k) (drop l.k l.targets)
    ≡ table_cases (place_of l.places) l.low l.targets
