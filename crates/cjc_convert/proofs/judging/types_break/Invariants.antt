use Rattle.std.specs.Prelude.{option_map}
use Rattle.cjc_subset.specs.Breaks.{break_of}
use Rattle.cjc_convert.specs.Rules.{IsFirstIn}
use Rattle.cjc_convert.proofs.Typed.{BreaksBelow}
use Rattle.cjc_convert.proofs.judging.types_break.Given as goal

abbrev pub invariant-loop-code : goal.invariant-loop-code
invariant-loop-code l = IsFirstIn (BreaksBelow l.world l.codes l.code-index) (option_map break_of l.least)
