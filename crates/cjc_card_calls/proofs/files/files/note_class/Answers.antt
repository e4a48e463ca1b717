use Rattle.std.specs.Prelude.{◌==◌}
use Rattle.cjc_card_calls.proofs.FilesLaws.Lines.{line_noted}
use Rattle.cjc_card_calls.proofs.files.files.note_class.Goals as goal

pub returns-clause-lines : goal.returns-clause-lines
returns-clause-lines c = λ x. let d = c.args.class.now in line_noted c.args.names.now c.args.class.now (d.token == x) _
    _ _ c.in_ok-line.ensures (c.in_ok-note.ensures.kept x)
