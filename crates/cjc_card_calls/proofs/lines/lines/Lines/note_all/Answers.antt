use Rattle.std.proofs.Common.{refl, map}
use Rattle.cjc_card_frame.specs.Objects.{class_of}
use Rattle.cjc_card_link.specs.Tables.{loaded_of}
use Rattle.cjc_card_link.proofs.OrElse.{note_all}
use Rattle.cjc_card_calls.specs.Lines.Lines.{line_by}
use Rattle.cjc_card_calls.proofs.LinesLaws.Kept.{lines_more}
use Rattle.cjc_card_calls.proofs.lines.lines.Lines.note_all.Goals as goal

pub loop-class-preserved : goal.loop-class-preserved
loop-class-preserved c = λ x. lines_more (loaded_of c.args.tables.now) x c.loop-class.class-index _ c.args.classes.now _
    _ _ c.loop-class-test.true (c.in_ok-note.ensures x) (c.loop-class.invariant x)

pub returns : goal.returns
returns c = λ x.
    let l = loaded_of c.args.tables.now in
    note_all (λ n cs. line_by l (map class_of cs) x) (λ n. refl) c.loop-class.class-index c.args.classes.now _ _
    c.loop-class-test.false (c.loop-class.invariant x)
