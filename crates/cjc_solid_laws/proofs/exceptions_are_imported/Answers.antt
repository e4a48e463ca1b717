use Rattle.cjc_solid_laws.proofs.Exceptions.{exception_is}
use Rattle.cjc_solid_laws.proofs.exceptions_are_imported.Goals as goal

pub returns : goal.returns
returns c = exception_is
