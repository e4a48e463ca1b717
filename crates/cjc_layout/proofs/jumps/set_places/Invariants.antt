use Rattle.std.proofs.Common.{◌≡◌, ℕ, ◌<◌}
use Rattle.std.specs.Prelude.{slice_index}
use Rattle.cjc_layout.specs.Working.{sum_before}
use Rattle.cjc_layout.proofs.jumps.set_places.Given as goal

abbrev pub invariant-loop-k : goal.invariant-loop-k
invariant-loop-k l = record {
  each : (j : ℕ) → j < l.k → slice_index l.places j ≡ sum_before l.sizes l.wide j;
  at : l.at ≡ sum_before l.sizes l.wide l.k;
}
