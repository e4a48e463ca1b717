use Rattle.std.proofs.Common.{◌<◌, length, arith}
use Rattle.std.proofs.lemmas.Result.{err_from_is_err_and}
use Rattle.cjc_judge.proofs.Files.{read_more, read_stops, all_read}
use Rattle.cjc_judge.proofs.reading.read_files.Goals as goal

pub returns-in_err-read_file : goal.returns-in_err-read_file
returns-in_err-read_file c =
    let p = err_from_is_err_and c.from_residual.result c.from_residual.ensures.1 in
    let files : c.loop-at.at < length c.args.files.now = omega arith in
    rw (p.1, p.2) (read_stops _ _ _ c.read_file.new.trees _ _ _ _ _ c.loop-at-test.true files c.index-lines-at.is
    c.index-files-at.is c.items.ensures c.loop-at.invariant c.in_err-read_file.ensures)

pub loop-at-preserved : goal.loop-at-preserved
loop-at-preserved c =
    let files : c.loop-at.at < length c.args.files.now = omega arith in
    read_more _ _ _ _ _ _ _ _ c.loop-at-test.true files c.index-lines-at.is c.index-files-at.is c.items.ensures
    c.loop-at.invariant c.in_ok-read_file.ensures

pub returns : goal.returns
returns c = all_read _ _ _ _ c.loop-at-test.false c.loop-at.auto.at-end c.requires.count c.loop-at.invariant
