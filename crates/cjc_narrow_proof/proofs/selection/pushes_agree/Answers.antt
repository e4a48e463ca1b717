use Rattle.cjc_narrow_proof.proofs.SelectionLaws.Pushes.{aconst_null, constant, iload, aload}
use Rattle.cjc_narrow_proof.proofs.selection.pushes_agree.Goals as goal

pub returns-clause-aconst_null : goal.returns-clause-aconst_null
returns-clause-aconst_null c = aconst_null

pub returns-clause-number : goal.returns-clause-number
returns-clause-number c = constant

pub returns-clause-iload : goal.returns-clause-iload
returns-clause-iload c = iload

pub returns-clause-aload : goal.returns-clause-aload
returns-clause-aload c = aload
