use Rattle.std.specs.Prelude.{option_map}
use Rattle.cjc_bytes.specs.Told.{break_of}
use Rattle.cjc_judge.specs.Rules.{IsFirstIn}
use Rattle.cjc_judge.specs.Working.Groups.{EarlyBreaks}
use Rattle.cjc_judge.proofs.Folds.{BreaksBelow}
use Rattle.cjc_judge.proofs.judging.groups_break.Given as goal

abbrev pub invariant-loop-group : goal.invariant-loop-group
invariant-loop-group l = IsFirstIn (BreaksBelow (EarlyBreaks l.list l.world l.codes l.unsupported_insns) l.groups
    l.group-index) (option_map break_of l.least)
