use Rattle.std.proofs.Common.{◌≡◌, ◌++◌, drop, map}
use Rattle.std.specs.Prelude.{slice_get}
use Rattle.cjc_card_frame.specs.Objects.{class_of}
use Rattle.cjc_card_link.specs.Tables.{loaded_of}
use Rattle.cjc_card_calls.specs.Lines.Every.{classes_at}
use Rattle.cjc_card_calls.proofs.lines.every.put_part.Given as goal

abbrev pub invariant-loop-number : goal.invariant-loop-number
invariant-loop-number l =
    map class_of l.classes ++ drop l.number (classes_at l.part (slice_get (loaded_of l.tables).parts l.part))
    ≡ map class_of l.fn.classes ++ classes_at l.part (slice_get (loaded_of l.tables).parts l.part)
