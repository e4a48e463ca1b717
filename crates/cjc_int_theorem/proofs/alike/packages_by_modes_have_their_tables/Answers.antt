use Rattle.cjc_int_theorem.proofs.IntTables.{class_names, exceptions_are, first_fits, has_int_tables}
use Rattle.cjc_int_theorem.proofs.alike.packages_by_modes_have_their_tables.Goals as goal

pub returns-clause-names : goal.returns-clause-names
returns-clause-names c = class_names

pub returns-clause-exceptions : goal.returns-clause-exceptions
returns-clause-exceptions c = exceptions_are

pub returns-clause-first : goal.returns-clause-first
returns-clause-first c = first_fits

pub returns-clause-int_methods : goal.returns-clause-int_methods
returns-clause-int_methods c = has_int_tables
