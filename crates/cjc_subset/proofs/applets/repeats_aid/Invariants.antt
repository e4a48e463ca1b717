use Rattle.std.proofs.Common.{◌≡◌, drop}
use Rattle.cjc_subset.specs.Applets.{repeats_aid}
use Rattle.cjc_subset.proofs.applets.repeats_aid.Given as goal

abbrev pub invariant-loop-place : goal.invariant-loop-place
invariant-loop-place l = repeats_aid (drop l.place l.applets) ≡ repeats_aid l.applets
