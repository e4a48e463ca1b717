use Rattle.std.proofs.Common.{ap, ◌∙◌}
use Rattle.cjc_card_link.proofs.Outer.{outer_by}
use Rattle.cjc_card_link.proofs.tables.Tables.file_method.Goals as goal

pub returns-in-Some : goal.returns-in-Some
returns-in-Some c = c.outer_of.ensures ∙ ap (outer_by c.args.on_object c.args.token) c.in-Some.ensures

pub returns-in-None : goal.returns-in-None
returns-in-None c = ap (outer_by c.args.on_object c.args.token) c.in-None.ensures
