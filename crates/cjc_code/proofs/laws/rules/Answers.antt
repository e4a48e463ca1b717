use Rattle.cjc_code.proofs.Decided.{first_unfit, unfit_first, unsupported_is, is_unsupported_there, decoded_is}
use Rattle.cjc_code.proofs.Decided.{is_decoded}
use Rattle.cjc_code.proofs.StartLaws.{start_is, is_start_there}
use Rattle.cjc_code.proofs.laws.rules.Goals as goal

pub returns-clause-starts : goal.returns-clause-starts
returns-clause-starts c = λ code place. (start_is code place, is_start_there code place)

pub returns-clause-unfit : goal.returns-clause-unfit
returns-clause-unfit c = λ class method code k. (first_unfit class method code k, unfit_first class method code k)

pub returns-clause-unsupported : goal.returns-clause-unsupported
returns-clause-unsupported c = λ class method code k. (
  unsupported_is class method code k,
  is_unsupported_there class method code k,
)

pub returns-clause-decoded : goal.returns-clause-decoded
returns-clause-decoded c = λ class method code insns. (
  decoded_is class method code insns,
  is_decoded class method code insns,
)
