use Rattle.std.proofs.lemmas.Result.{err_from_is_err_and}
use Rattle.cjc_cmd_check.proofs.CheckingLaws.Tested.{files_break}
use Rattle.cjc_cmd_check.proofs.checking.checking.test.Goals as goal

pub returns-in_err-trees-clause-refused : goal.returns-in_err-trees-clause-refused
returns-in_err-trees-clause-refused c =
    let p = err_from_is_err_and c.from_residual.result c.from_residual.ensures.1 in
    rw (p.1, p.2) (files_break c.args.folder.now _ c.in_err-trees.ensures.refused)
