use Rattle.cjc_int_alike.proofs.Short.{short_begun}
use Rattle.cjc_int_alike.proofs.packages.other_methods_with_least_tables_begin.Goals as goal

pub returns : goal.returns
returns c = short_begun
