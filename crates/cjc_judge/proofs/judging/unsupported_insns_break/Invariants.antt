use Rattle.std.proofs.Common.{take}
use Rattle.std.specs.Prelude.{option_map}
use Rattle.cjc_bytes.specs.Told.{break_of}
use Rattle.cjc_bytes.specs.Breaks.{IsFirstOf, each}
use Rattle.cjc_judge.specs.Rules.{unsupported_break}
use Rattle.cjc_judge.proofs.judging.unsupported_insns_break.Given as goal

abbrev pub invariant-loop-unsupported : goal.invariant-loop-unsupported
invariant-loop-unsupported l = IsFirstOf (each (λ _ x. unsupported_break l.world x) (take l.unsupported-index
    l.unsupported_insns)) (option_map break_of l.least)
