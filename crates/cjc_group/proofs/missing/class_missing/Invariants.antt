use Rattle.std.proofs.Common.{take}
use Rattle.std.specs.Prelude.{option_map}
use Rattle.cjc_bytes.specs.Breaks.{IsFirstOf, at, each}
use Rattle.cjc_bytes.specs.Told.{break_of}
use Rattle.cjc_world.specs.Classes.{all_classes}
use Rattle.cjc_group.specs.Missing.{implements_one}
use Rattle.cjc_group.specs.Rules.{class_at}
use Rattle.cjc_group.proofs.missing.class_missing.Given as goal

abbrev pub invariant-loop-number : goal.invariant-loop-number
invariant-loop-number l = IsFirstOf (each (λ k c. at (implements_one (all_classes l.member.files) l.names c)
    (class_at l.place l.member k c) 203) (take l.number l.member.files.classes)) (option_map break_of l.least)
