use Rattle.std.proofs.Common.{take}
use Rattle.std.specs.Prelude.{option_map}
use Rattle.cjc_bytes.specs.Told.{break_of}
use Rattle.cjc_subset.specs.Checks.{class_breaks}
use Rattle.cjc_bytes.specs.Breaks.{IsFirstOf, each}
use Rattle.cjc_bytes.specs.Order.{file_of}
use Rattle.cjc_subset.proofs.checking.classes_break.Given as goal

abbrev pub invariant-loop-number : goal.invariant-loop-number
invariant-loop-number l = IsFirstOf (each (λ n x. class_breaks l.world l.settings (file_of l.world.lines n) n x)
    (take l.number l.world.classes)) (option_map break_of l.least)
