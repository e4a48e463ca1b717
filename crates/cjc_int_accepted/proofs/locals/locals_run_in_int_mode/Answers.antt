use Rattle.cjc_int_accepted.proofs.RowsLaws.Locals.{increase_runs, load_runs, store_runs}
use Rattle.cjc_int_accepted.proofs.locals.locals_run_in_int_mode.Goals as goal

pub returns-clause-loads : goal.returns-clause-loads
returns-clause-loads c = load_runs

pub returns-clause-increases : goal.returns-clause-increases
returns-clause-increases c = increase_runs

pub returns-clause-stores : goal.returns-clause-stores
returns-clause-stores c = store_runs
