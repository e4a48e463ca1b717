use Rattle.std.proofs.Common.{ℕ, ◌<◌}
use Rattle.cjc_convert.specs.Conversion.{IsFine}
use Rattle.cjc_convert.proofs.ClassFiles.{GoesBack}
use Rattle.cjc_convert.proofs.classes.read_classes.Given as goal

abbrev pub invariant-loop-at : goal.invariant-loop-at
invariant-loop-at l = record {
  back : GoesBack l.lines l.files l.trees l.at;
  fine : (i : ℕ) → i < l.at → IsFine l.lines l.files i;
}
