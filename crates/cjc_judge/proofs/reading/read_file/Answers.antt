use Rattle.std.proofs.lemmas.Result.{err_from_is_err_and}
use Rattle.cjc_judge.proofs.Files.{export_stops, export_read, as_class}
use Rattle.cjc_judge.proofs.reading.read_file.Goals as goal

pub returns-in_err-read : goal.returns-in_err-read
returns-in_err-read c =
    let p = err_from_is_err_and c.from_residual.result c.from_residual.ensures.1 in
    let stop = rw c.items-else-line.ensures at c.in_err-read.ensures.refused in
    rw (p.1, p.2) (export_stops _ _ c.args.trees.now c.args.trees.now _ c.if-line.false stop)

pub returns-then-line : goal.returns-then-line
returns-then-line c = as_class c.args.line.now c.args.bytes.now c.args.trees.now _ _ c.if-line.true _ c.items.ensures
    c.read_class.ensures

pub returns-in_ok-push : goal.returns-in_ok-push
returns-in_ok-push c = export_read c.args.line.now c.args.bytes.now c.args.trees.now _ _ c.if-line.false
    c.in_ok-read.ensures.found c.in_ok-read.ensures.writable c.in_ok-push.ensures.ok
