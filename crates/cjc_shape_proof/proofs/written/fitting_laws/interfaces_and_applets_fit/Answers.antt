use Rattle.cjc_shape_proof.proofs.WrittenLaws.FittingLaws.Consistency.{installs, unbound}
use Rattle.cjc_shape_proof.proofs.written.fitting_laws.interfaces_and_applets_fit.Goals as goal

pub returns-clause-interfaces : goal.returns-clause-interfaces
returns-clause-interfaces c = λ list files judged p is. unbound list files judged p is

pub returns-clause-applets : goal.returns-clause-applets
returns-clause-applets c = λ list files judged p is. installs list files judged p is
