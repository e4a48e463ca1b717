use Rattle.cjc_card_files.proofs.Climbing.{passed_after}
use Rattle.cjc_card_files.proofs.upwards.Passed.note.Goals as goal

pub returns : goal.returns
returns c = λ x. passed_after c.args.name.now x _ _ (c.in_ok-keep.ensures x)
