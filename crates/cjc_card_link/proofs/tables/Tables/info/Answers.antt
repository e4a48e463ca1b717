use Rattle.std.proofs.Common.{ap, ◌∙◌}
use Rattle.std.specs.Prelude.{option_and_then}
use Rattle.cjc_card_semantics.specs.Machine.Classes.{info_at}
use Rattle.cjc_card_link.proofs.tables.Tables.info.Goals as goal

pub returns-in-Some-clause-at : goal.returns-in-Some-clause-at
returns-in-Some-clause-at c = c.info.ensures.at ∙ ap (option_and_then (λ q. info_at q c.args.offset)) c.in-Some.ensures

pub returns-in-None-clause-at : goal.returns-in-None-clause-at
returns-in-None-clause-at c = ap (option_and_then (λ q. info_at q c.args.offset)) c.in-None.ensures
