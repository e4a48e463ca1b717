use Rattle.std.proofs.Common.{ap, ◌∙◌}
use Rattle.std.specs.Prelude.{option_and_then, slice_get}
use Rattle.cjc_card_link.proofs.tables.Tables.import.Goals as goal

pub returns-in-Some : goal.returns-in-Some
returns-in-Some c = c.import.ensures ∙ ap (option_and_then (λ q. slice_get q.imports c.args.token)) c.in-Some.ensures

pub returns-in-None : goal.returns-in-None
returns-in-None c = ap (option_and_then (λ q. slice_get q.imports c.args.token)) c.in-None.ensures
