use Rattle.std.proofs.Common.{◌≡◌, drop, map}
use Rattle.cjc_card_semantics.specs.Machine.Classes.{Class, or_else}
use Rattle.cjc_card_frame.specs.Objects.{class_of}
use Rattle.cjc_card_link.specs.Tables.{loaded_of}
use Rattle.cjc_card_calls.specs.Lines.Lines.{line_by, line_under}
use Rattle.cjc_card_calls.proofs.lines.lines.Lines.note_all.Given as goal

abbrev pub invariant-loop-class : goal.invariant-loop-class
invariant-loop-class l =
    (x : Class) → or_else (line_under l.self x) (line_by (loaded_of l.tables)
    (map class_of (drop l.class-index l.classes)) x)
    ≡ or_else (line_under l.fn.self x) (line_by (loaded_of l.tables) (map class_of l.classes) x)
