use Rattle.std.proofs.Common.{List, ap, ◌∙◌}
use Rattle.std.specs.Prelude.{slice_get}
use Rattle.cjc_card_semantics.specs.ExportFile.declared.tree.ExportClass.{ExportClass}
use Rattle.cjc_card_semantics.specs.ExportFile.declared.tree.ExportTree.{ExportTree}
use Rattle.cjc_card_semantics.specs.ExportFile.Supers.{classes_of}
use Rattle.cjc_card_link.specs.Tables.{loaded_of}
use Rattle.cjc_card_calls.specs.Files.Files.{line_listed}
use Rattle.cjc_card_calls.proofs.FilesLaws.Lines.{line_there, none_read}
use Rattle.cjc_card_calls.proofs.files.files.Files.new.Goals as goal

pub returns : goal.returns
returns c = λ tree token.
    let l = loaded_of c.args.tables.now in
    line_there l token (slice_get c.in_ok-kept.kept tree) (slice_get l.trees tree) c.new-2.result
    (none_read _ _ (c.new-2.ensures.kept token) c.new-2.ensures.nothing)
    (c.in_ok-kept.ensures tree token
    ∙ ap (λ (cs : List ExportClass). line_listed cs c.trees-trees.result.now tree token) c.in_ok-names.ensures
    ∙ ap (λ (ts : List ExportTree). line_listed (classes_of ts) ts tree token) c.trees-trees.ensures)
