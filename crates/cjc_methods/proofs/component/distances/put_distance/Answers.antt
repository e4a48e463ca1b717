use Rattle.std.proofs.Common.{◌∙◌, ap, ◌++◌, List, ℕ, ◌-◌}
use Rattle.cjc_pool.specs.CheckRules.Locations.{distance}
use Rattle.cjc_check.proofs.JumpsLaws.Listed.{full_more}
use Rattle.cjc_methods.proofs.component.distances.put_distance.Goals as goal

pub loop-left-preserved : goal.loop-left-preserved
loop-left-preserved c =
    ap (λ (xs : List ℕ). xs ++ distance (c.loop-left.left - 255)) c.in_ok-push.ensures.ok
    ∙ full_more c.loop-left.bytes c.loop-left.left _ c.loop-left-test.true c.loop-left.invariant
