use Rattle.cjc_int_accepted.proofs.ReachedLaws.{is_written}
use Rattle.cjc_int_accepted.proofs.selection.laid_int_code_is_written_in_int_mode.Goals as goal

pub returns : goal.returns
returns c = is_written
