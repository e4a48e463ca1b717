use Rattle.cjc_int_accepted.proofs.RowsLaws.Prologue.{arguments_walk}
use Rattle.cjc_int_accepted.proofs.entry.arguments_go_to_their_locals.Goals as goal

pub returns : goal.returns
returns c = arguments_walk
