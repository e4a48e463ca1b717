use Rattle.std.proofs.lemmas.Result.{err_from_is_err_and}
use Rattle.cjc_cmd_card.proofs.RunningLaws.Gathers.{is_input}
use Rattle.cjc_cmd_card.proofs.RunningLaws.Package.{all_read, empty_is_short, files_end, parts_end}
use Rattle.cjc_cmd_card.proofs.running.package.gather_listed.Goals as goal

pub returns-in_err-files-clause-gathers : goal.returns-in_err-files-clause-gathers
returns-in_err-files-clause-gathers g c =
    let p = err_from_is_err_and c.from_residual.result c.from_residual.ensures.1 in
    let names = rw c.items.ensures at c.in-Ok.ensures in
    let reads = rw c.items-2.ensures at c.in_err-files.ensures.gathers in
    rw (p.1, p.2) (files_end _ _ _ _ _ _ names reads)

pub returns-in_err-parts-clause-gathers : goal.returns-in_err-parts-clause-gathers
returns-in_err-parts-clause-gathers g c =
    let p = err_from_is_err_and c.from_residual-in_err-parts.result c.from_residual-in_err-parts.ensures.1 in
    let names = rw c.items.ensures at c.in-Ok.ensures in
    let reads = rw c.items-2.ensures at c.in_ok-files.ensures.gathers in
    rw (p.1, p.2) (parts_end _ _ _ _ _ _ _ _ names reads c.in_err-parts.ensures.gathers)

pub returns-clause-gathers : goal.returns-clause-gathers
returns-clause-gathers g c =
    let names = rw c.items.ensures at c.in-Ok.ensures in
    let reads = rw c.items-2.ensures at c.in_ok-files.ensures.gathers in
    all_read _ _ _ _ _ _ _ _ _ names reads c.in_ok-parts.ensures.gathers c.new.ensures

pub returns-clause-input : goal.returns-clause-input
returns-clause-input g c =
    let names = rw c.items.ensures at c.in-Ok.ensures in
    let count = rw c.items-2.ensures at c.in_ok-files.ensures.count in
    is_input _ _ _ _ _ c.requires names count c.in_ok-files.ensures.short c.in_ok-parts.ensures.short
    c.in_ok-parts.ensures.read (empty_is_short _ c.new.ensures)
