use Rattle.cjc_narrow_finds.proofs.Whole.{exceptions_are}
use Rattle.cjc_narrow_finds.proofs.own_exceptions_are_imported.Goals as goal

pub returns : goal.returns
returns c = λ list files codes settings tables whole fault. exceptions_are list files codes settings tables whole fault
