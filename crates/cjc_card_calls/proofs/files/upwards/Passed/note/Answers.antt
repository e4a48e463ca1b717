use Rattle.cjc_card_calls.proofs.FilesLaws.Climbing.{passed_after}
use Rattle.cjc_card_calls.proofs.files.upwards.Passed.note.Goals as goal

pub returns : goal.returns
returns c = λ x. passed_after c.args.name.now x _ _ (c.in_ok-keep.ensures x)
