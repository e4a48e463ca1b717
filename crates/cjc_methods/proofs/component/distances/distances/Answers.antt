use Rattle.std.proofs.Common.{◌∙◌, ap, ◌++◌, ℕ}
use Rattle.cjc_pool.specs.CheckRules.Locations.{distance}
use Rattle.cjc_check.proofs.JumpsLaws.Listed.{distances_all, distances_more}
use Rattle.cjc_bytes.proofs.Gets.{same_item}
use Rattle.cjc_methods.proofs.component.distances.distances.Goals as goal

pub loop-at-preserved : goal.loop-at-preserved
loop-at-preserved c =
    let xs = c.args.places.now in
    let i = c.loop-at.at-index in
    distances_more c.loop-at.before i _ xs c.loop-at.bytes _ _ c.loop-at-test.true
    (same_item xs i _ c.loop-at-test.true)
    (c.in_ok-put_distance.ensures ∙ ap (λ (k : ℕ). c.loop-at.bytes ++ distance k) c.gap.ensures) c.loop-at.invariant

pub returns : goal.returns
returns c = distances_all c.loop-at.before c.loop-at.at-index c.args.places.now c.loop-at.bytes _ c.loop-at-test.false
    c.loop-at.invariant
