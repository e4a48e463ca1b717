use Rattle.cjc_card_frame.specs.Objects.{class_of}
use Rattle.cjc_card_link.specs.Tables.{loaded_of}
use Rattle.cjc_card_calls.proofs.LinesLaws.Kept.{line_noted}
use Rattle.cjc_card_calls.proofs.lines.lines.Lines.note.Goals as goal

pub returns : goal.returns
returns c = λ x. line_noted (loaded_of c.args.tables.now) (class_of c.args.class) x _ _ _ c.in_ok-line.ensures
    (c.in_ok-keep.ensures x)
