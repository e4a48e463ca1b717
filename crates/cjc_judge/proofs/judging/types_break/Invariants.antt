use Rattle.std.proofs.Common.{take}
use Rattle.std.specs.Prelude.{IfNone, option_map}
use Rattle.cjc_bytes.specs.Told.{break_of}
use Rattle.cjc_judge.specs.Rules.{BreaksType, IsFirstIn}
use Rattle.cjc_judge.specs.Types.{AreTables}
use Rattle.cjc_judge.proofs.Folds.{BreaksBelow}
use Rattle.cjc_judge.proofs.judging.types_break.Given as goal

abbrev pub invariant-loop-code : goal.invariant-loop-code
invariant-loop-code l = IsFirstIn (BreaksBelow (BreaksType l.world) l.codes l.code-index) (option_map break_of l.least)
    × IfNone l.least (AreTables l.world (take l.code-index l.codes) l.types)
