use Rattle.cjc_flag_laws.proofs.Fits.{access, statics, unbound}
use Rattle.cjc_flag_laws.proofs.methods_keep_flags.Goals as goal

pub returns-clause-access : goal.returns-clause-access
returns-clause-access c = λ list p codes settings sound unbroken. access list p codes settings sound unbroken

pub returns-clause-statics : goal.returns-clause-statics
returns-clause-statics c = λ list p codes settings sound unbroken. statics list p codes settings sound unbroken

pub returns-clause-unbound : goal.returns-clause-unbound
returns-clause-unbound c = λ list p codes settings sound unbroken. unbound list p codes settings sound unbroken
