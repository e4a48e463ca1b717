use Rattle.cjc_narrow_proof.proofs.SelectionLaws.Branches.{ireturn, areturn, returns}
use Rattle.cjc_narrow_proof.proofs.selection.returns_agree.Goals as goal

pub returns-clause-ireturn : goal.returns-clause-ireturn
returns-clause-ireturn c = ireturn

pub returns-clause-areturn : goal.returns-clause-areturn
returns-clause-areturn c = areturn

pub returns-clause-returns : goal.returns-clause-returns
returns-clause-returns c = returns
