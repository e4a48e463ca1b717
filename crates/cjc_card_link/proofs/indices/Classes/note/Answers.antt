use Rattle.std.specs.Str.{bytes_eq}
use Rattle.cjc_card_link.proofs.ByName.{class_noted}
use Rattle.cjc_card_link.proofs.indices.Classes.note.Goals as goal

pub returns : goal.returns
returns c = λ x. class_noted (bytes_eq c.args.name.now x) c.args.class _ _ (c.in_ok-note_data.ensures x)
