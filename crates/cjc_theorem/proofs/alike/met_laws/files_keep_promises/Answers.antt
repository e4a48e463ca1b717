use Rattle.cjc_theorem.proofs.AlikeLaws.VirtualCalls.Words.{exports_have_one_access}
use Rattle.cjc_theorem.proofs.alike.met_laws.files_keep_promises.Goals as goal

pub returns-clause-access : goal.returns-clause-access
returns-clause-access c = λ list codes p is. exports_have_one_access p is.checked.plain

pub returns-clause-applets : goal.returns-clause-applets
returns-clause-applets c = c.interfaces_and_applets_fit.ensures.applets
