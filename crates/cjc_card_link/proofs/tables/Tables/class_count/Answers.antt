use Rattle.std.proofs.Common.{ap, ◌∙◌}
use Rattle.cjc_card_link.specs.Tables.{class_count}
use Rattle.cjc_card_link.proofs.tables.Tables.class_count.Goals as goal

pub returns-in-Some : goal.returns-in-Some
returns-in-Some c = c.count.ensures ∙ ap class_count c.in-Some.ensures

pub returns-in-None : goal.returns-in-None
returns-in-None c = ap class_count c.in-None.ensures
