use Rattle.cjc_int_theorem.proofs.Constants.{puts_none}
use Rattle.cjc_int_theorem.proofs.Methods.{are_methods, code_named}
use Rattle.cjc_int_theorem.proofs.written.packages_by_modes_put_no_constants.Goals as goal

pub returns-clause-puts : goal.returns-clause-puts
returns-clause-puts c = λ list codes t p is. puts_none list codes p is.checked (are_methods list codes t p is)

pub returns-clause-names : goal.returns-clause-names
returns-clause-names c = code_named
