use Rattle.cjc_check_proof.proofs.FlagsLaws.Fits.{access, statics, unbound}
use Rattle.cjc_check_proof.proofs.flags.methods_keep_flags.Goals as goal

pub returns-clause-access : goal.returns-clause-access
returns-clause-access c = λ list p codes settings sound unbroken. access list p codes settings sound unbroken

pub returns-clause-statics : goal.returns-clause-statics
returns-clause-statics c = λ list p codes settings sound unbroken. statics list p codes settings sound unbroken

pub returns-clause-unbound : goal.returns-clause-unbound
returns-clause-unbound c = λ list p codes settings sound unbroken. unbound list p codes settings sound unbroken
