use Rattle.std.proofs.Common.{◌≡◌, ◌++◌, drop}
use Rattle.cjc_ncode.specs.Written.{pair_cases}
use Rattle.cjc_narrow.specs.Written.Labels.{place_of}
use Rattle.cjc_narrow.proofs.written.switches.pair_cases.Given as goal

abbrev pub invariant-loop-pair : goal.invariant-loop-pair
invariant-loop-pair l = l.cases ++ pair_cases (place_of l.places) (drop l.pair-index l.pairs)
    ≡ pair_cases (place_of l.places) l.pairs
