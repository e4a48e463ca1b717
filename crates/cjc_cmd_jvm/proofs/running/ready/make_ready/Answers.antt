use Rattle.std.proofs.lemmas.Result.{err_from_is_err_and}
use Rattle.cjc_cmd_jvm.specs.Running.Ready.{tested}
use Rattle.cjc_cmd_jvm.proofs.RunningLaws.Order.{file_stops, package_stops, script_stops}
use Rattle.cjc_cmd_jvm.proofs.running.ready.make_ready.Goals as goal

pub returns-in_err-judged-in-Ok-clause-refused : goal.returns-in_err-judged-in-Ok-clause-refused
returns-in_err-judged-in-Ok-clause-refused c =
    let p = err_from_is_err_and c.from_residual.result c.from_residual.ensures.1 in
    let list = c.args.list.now in
    let files = c.args.files.now in
    rw (p.1, p.2) (package_stops list files c.args.name.now c.args.text.now c.requires.read (c.files_first.ensures.files
    list files) (c.files_first.ensures.others list files tested) _ c.in-Ok.script c.in-Ok.ensures.exact
    c.in_err-judged-in-Ok.ensures.refused)

pub returns-in_err-test_files-in-Err-clause-refused : goal.returns-in_err-test_files-in-Err-clause-refused
returns-in_err-test_files-in-Err-clause-refused c =
    let p = err_from_is_err_and c.from_residual-in_err-test_files-in-Err.result
    c.from_residual-in_err-test_files-in-Err.ensures.1 in
    let list = c.args.list.now in
    let files = c.args.files.now in
    rw (p.1, p.2) (file_stops list files c.args.name.now c.args.text.now c.requires.read (c.files_first.ensures.files
    list files) (c.files_first.ensures.others list files tested) _ c.in_err-test_files-in-Err.ensures.refused)

pub returns-in_ok-test_files-in-Err-clause-refused : goal.returns-in_ok-test_files-in-Err-clause-refused
returns-in_ok-test_files-in-Err-clause-refused c =
    let list = c.args.list.now in
    let files = c.args.files.now in
    script_stops list files c.args.name.now c.args.text.now c.requires.read (c.files_first.ensures.files list files)
    (c.files_first.ensures.others list files tested) _ c.in-Err.ensures.exact
    c.in_ok-test_files-in-Err.ensures.unbroken
