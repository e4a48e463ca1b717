use Rattle.cjc_card_frame.specs.Objects.{class_of}
use Rattle.cjc_card_link.proofs.Climbing.{met_after}
use Rattle.cjc_card_link.proofs.met.Met.note.Goals as goal

pub returns : goal.returns
returns c = λ x. met_after x (class_of c.args.class) _ _ (c.in_ok-keep.ensures x)
