use Rattle.cjc_narrow_proof.proofs.SelectionLaws.Stores.{istore, astore, iinc}
use Rattle.cjc_narrow_proof.proofs.selection.locals_are_written_alike.Goals as goal

pub returns-clause-istore : goal.returns-clause-istore
returns-clause-istore c = istore

pub returns-clause-astore : goal.returns-clause-astore
returns-clause-astore c = astore

pub returns-clause-iinc : goal.returns-clause-iinc
returns-clause-iinc c = iinc
