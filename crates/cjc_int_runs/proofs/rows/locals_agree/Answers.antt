use Rattle.cjc_int_runs.proofs.Locals.{iload, aload, istore, astore, iinc}
use Rattle.cjc_int_runs.proofs.rows.locals_agree.Goals as goal

pub returns-clause-iload : goal.returns-clause-iload
returns-clause-iload c = iload

pub returns-clause-aload : goal.returns-clause-aload
returns-clause-aload c = aload

pub returns-clause-istore : goal.returns-clause-istore
returns-clause-istore c = istore

pub returns-clause-astore : goal.returns-clause-astore
returns-clause-astore c = astore

pub returns-clause-iinc : goal.returns-clause-iinc
returns-clause-iinc c = iinc
