use Rattle.std.proofs.Common.{take}
use Rattle.std.specs.Prelude.{option_map}
use Rattle.cjc_bytes.specs.Told.{break_of}
use Rattle.cjc_bytes.specs.Breaks.{IsFirstOf, each}
use Rattle.cjc_bytes.specs.Order.{file_of}
use Rattle.cjc_clinit.specs.Working.Reading.{class_breaks}
use Rattle.cjc_clinit.proofs.breaks.classes_break.Given as goal

abbrev pub invariant-loop-number : goal.invariant-loop-number
invariant-loop-number l = IsFirstOf (each (λ n c. class_breaks (file_of l.world.lines n) c)
    (take l.number l.world.classes)) (option_map break_of l.least)
