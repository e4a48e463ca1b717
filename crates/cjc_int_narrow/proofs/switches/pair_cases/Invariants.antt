use Rattle.std.proofs.Common.{◌≡◌, map, take}
use Rattle.cjc_ncode.specs.Written.{pair_case}
use Rattle.cjc_narrow.specs.Written.Labels.{place_of}
use Rattle.cjc_int_narrow.proofs.switches.pair_cases.Given as goal

abbrev pub invariant-loop-pair : goal.invariant-loop-pair
invariant-loop-pair l = l.cases ≡ map (pair_case (place_of l.places)) (take l.pair-index l.pairs)
