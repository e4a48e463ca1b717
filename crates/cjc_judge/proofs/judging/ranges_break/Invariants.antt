use Rattle.std.proofs.Common.{take}
use Rattle.std.specs.Prelude.{option_map}
use Rattle.cjc_bytes.specs.Told.{break_of}
use Rattle.cjc_judge.specs.Modes.{AreModes}
use Rattle.cjc_judge.specs.Rules.{BreaksRange, IsFirstIn}
use Rattle.cjc_judge.proofs.Folds.{BreaksBelow}
use Rattle.cjc_judge.proofs.judging.ranges_break.Given as goal

abbrev pub invariant-loop-place : goal.invariant-loop-place
invariant-loop-place l = IsFirstIn (BreaksBelow (BreaksRange l.ints l.world) l.codes l.place)
    (option_map break_of l.least) × AreModes l.ints l.world (take l.place l.codes) l.modes
