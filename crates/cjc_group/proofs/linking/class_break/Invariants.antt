use Rattle.std.proofs.Common.{take}
use Rattle.std.specs.Prelude.{option_map}
use Rattle.cjc_bytes.specs.Breaks.{IsFirstOf, at, each}
use Rattle.cjc_bytes.specs.Told.{break_of}
use Rattle.cjc_group.specs.Implementing.{lacks_implementation}
use Rattle.cjc_group.specs.Rules.{class_at}
use Rattle.cjc_group.proofs.linking.class_break.Given as goal

abbrev pub invariant-loop-number : goal.invariant-loop-number
invariant-loop-number l = IsFirstOf (each (λ k c. at (lacks_implementation l.group l.place c)
    (class_at l.place l.member k c) 735) (take l.number l.member.files.classes)) (option_map break_of l.least)
