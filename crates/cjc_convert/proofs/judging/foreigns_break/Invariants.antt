use Rattle.std.proofs.Common.{take}
use Rattle.std.specs.Prelude.{option_map}
use Rattle.cjc_subset.specs.Breaks.{break_of}
use Rattle.cjc_subset.specs.Places.{IsFirstOf, each}
use Rattle.cjc_convert.specs.Rules.{foreign_break}
use Rattle.cjc_convert.proofs.judging.foreigns_break.Given as goal

abbrev pub invariant-loop-foreign : goal.invariant-loop-foreign
invariant-loop-foreign l = IsFirstOf (each (λ _ x. foreign_break l.world x) (take l.foreign-index l.foreigns)) (option_map break_of l.least)
