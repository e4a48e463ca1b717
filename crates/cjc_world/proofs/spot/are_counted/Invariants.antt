use Rattle.std.proofs.Common.{◌<◌, ◌+◌, ◌^◌, ℕ, length, get_or}
use Rattle.cjc_export.specs.declared.tree.ExportClass.{ExportClass}
use Rattle.cjc_world.proofs.spot.are_counted.Given as goal

abbrev pub invariant-loop-class : goal.invariant-loop-class
invariant-loop-class l = (k : ℕ) (d : ExportClass) → k < l.class-index → length (get_or l.classes k d).fields + length
    (get_or l.classes k d).methods < 2 ^ 32
