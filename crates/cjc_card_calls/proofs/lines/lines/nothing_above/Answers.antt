use Rattle.std.proofs.Common.{◌∙◌, sym}
use Rattle.cjc_card_semantics.specs.Machine.Classes.{is_there, upwards}
use Rattle.cjc_card_calls.proofs.LinesLaws.Upward.{by_itself, gone}
use Rattle.cjc_card_calls.proofs.lines.lines.nothing_above.Goals as goal

pub returns : goal.returns
returns c = λ l lines x are none. by_itself l x (gone (is_there l x) (upwards l x) (sym none ∙ are x))
