use Rattle.std.proofs.Common.{ap, ◌∙◌}
use Rattle.std.specs.Prelude.{option_and_then}
use Rattle.cjc_card_semantics.specs.Machine.Methods.{start_in}
use Rattle.cjc_card_link.proofs.tables.Tables.start.Goals as goal

pub returns-in-Some : goal.returns-in-Some
returns-in-Some c = c.start.ensures ∙ ap (option_and_then (start_in c.args.part c.args.offset)) c.in-Some.ensures

pub returns-in-None : goal.returns-in-None
returns-in-None c = ap (option_and_then (start_in c.args.part c.args.offset)) c.in-None.ensures
