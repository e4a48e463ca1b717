use Rattle.std.proofs.lemmas.Result.{err_from_is_err_and}
use Rattle.cjc_cmd_verify.proofs.VerifyingLaws.Free.{first_fault_of_all}
use Rattle.cjc_cmd_verify.proofs.verifying.test.Goals as goal

pub returns-in_err-ready-clause-refused : goal.returns-in_err-ready-clause-refused
returns-in_err-ready-clause-refused c =
    let e = err_from_is_err_and c.from_residual.result c.from_residual.ensures.1 in
    rw (e.1, e.2) (first_fault_of_all c.args.input.now _ c.in_err-ready.ensures.refused)
