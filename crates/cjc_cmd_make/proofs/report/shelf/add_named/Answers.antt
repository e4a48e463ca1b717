use Rattle.std.proofs.Common.{◌≡◌, ◌∷◌, ap, drop, sym, ◌∙◌, List, ℕ}
use Rattle.std.proofs.lemmas.List.{take_rest}
use Rattle.cjc_cmd_card.specs.Shelf.Command.Publish.{written_files}
use Rattle.cjc_cmd_make.specs.Report.Package.{named_classes, named_files}
use Rattle.cjc_cmd_make.proofs.ReportLaws.Files.{with_one}
use Rattle.cjc_cmd_card.specs.Shelf.Memory.{clean_shelved, files_of}
use Rattle.cjc_cmd_convert.proofs.BytesGets.{drop_next}
use Rattle.cjc_cmd_make.proofs.report.shelf.add_named.Goals as goal

pub returns-in_ok-add_classes-in-len1-up : goal.returns-in_ok-add_classes-in-len1-up
returns-in_ok-add_classes-in-len1-up c =
    let files : List (List ℕ) = c.args.files.now in
    let before = files_of (clean_shelved c.args.shelf.now) in
    let lang = rw c.items.ensures at c.in_ok-add-in-len1-up.ensures.ok in
    let more = rw (take_rest files 1) at c.in_ok-add_classes-in-len1-up.ensures in
    let first : files ≡ c.lang-item.result ∷ drop 1 files = drop_next files 0 c.lang-item.result
    c.in-len1-up.len_at_least c.lang-item.is in
    more ∙ ap (written_files (named_classes 0 (drop 1 files))) (with_one (clean_shelved c.args.shelf.now) _ _ _ lang)
    ∙ ap (λ all. written_files (named_files all) before) (sym first)
