use Rattle.cjc_int_alike.proofs.Modes.{int_begun}
use Rattle.cjc_int_alike.proofs.packages.int_methods_with_least_tables_begin.Goals as goal

pub returns : goal.returns
returns c = int_begun
