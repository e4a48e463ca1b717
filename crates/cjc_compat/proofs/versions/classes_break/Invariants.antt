use Rattle.std.proofs.Common.{take}
use Rattle.std.specs.Prelude.{option_map}
use Rattle.cjc_export.specs.Bytes.Breaks.{IsFirstOf, each}
use Rattle.cjc_export.specs.Bytes.Told.{break_of, file_place_of}
use Rattle.cjc_compat.specs.Rules.{class_breaks, with_token}
use Rattle.cjc_compat.proofs.versions.classes_break.Given as goal

abbrev pub invariant-loop-number : goal.invariant-loop-number
invariant-loop-number l = IsFirstOf (each (λ n c. class_breaks (file_place_of l.file) n c (with_token c.token
    l.new.classes)) (take l.number l.old.classes)) (option_map break_of l.least)
