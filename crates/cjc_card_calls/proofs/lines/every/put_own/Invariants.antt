use Rattle.std.proofs.Common.{◌≡◌, ◌++◌, drop, map}
use Rattle.cjc_card_frame.specs.Objects.{class_of}
use Rattle.cjc_card_link.specs.Tables.{loaded_of}
use Rattle.cjc_card_calls.specs.Lines.Every.{own_classes, part_classes}
use Rattle.cjc_card_calls.proofs.lines.every.put_own.Given as goal

abbrev pub invariant-loop-part : goal.invariant-loop-part
invariant-loop-part l =
    map class_of l.classes ++ part_classes l.part (drop l.part (loaded_of l.tables).parts)
    ≡ map class_of l.fn.classes ++ own_classes (loaded_of l.tables)
