use Rattle.cjc_int_alike.proofs.Written.{is_written}
use Rattle.cjc_int_alike.proofs.methods.int_methods_are_written.Goals as goal

pub returns : goal.returns
returns c = is_written
