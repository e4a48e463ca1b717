use Rattle.std.proofs.Common.{◌≡◌, length}
use Rattle.std.specs.List.{list_all}
use Rattle.cjc_code.specs.Numbers.{target, seconds}
use Rattle.cjc_code.specs.Unfit.{is_start}
use Rattle.cjc_code.proofs.starts.seconds_land.Given as goal

abbrev pub invariant-loop-left : goal.invariant-loop-left
invariant-loop-left l = list_all (λ offset. is_start l.starts (target l.at offset)) (seconds l.left)
    ≡ list_all (λ offset. is_start l.starts (target l.at offset)) (seconds l.pairs)

abbrev pub decreases-loop-left : goal.decreases-loop-left
decreases-loop-left l = length l.left
