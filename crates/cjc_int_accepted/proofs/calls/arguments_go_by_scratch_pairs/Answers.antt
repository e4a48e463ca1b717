use Rattle.cjc_int_accepted.proofs.RowsLaws.Aside.{pairs_free, pairs_walk}
use Rattle.cjc_int_accepted.proofs.calls.arguments_go_by_scratch_pairs.Goals as goal

pub returns-clause-walks : goal.returns-clause-walks
returns-clause-walks c = pairs_walk

pub returns-clause-frames : goal.returns-clause-frames
returns-clause-frames c = pairs_free
