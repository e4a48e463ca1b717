use Rattle.std.proofs.Common.{◌∙◌}
use Rattle.cjc_card_calls.specs.LowerCardLink.Tables.{loaded_of}
use Rattle.cjc_card.proofs.GroupLaws.Near.{near_alone}
use Rattle.cjc_card.proofs.group.group.Group.new.Goals as goal

pub over-requires-clause-near : goal.over-requires-clause-near
over-requires-clause-near c = near_alone c.args.part c.args.trees.now (loaded_of c.in_ok-tables.tables)
    c.in_ok-tables.ensures.of c.in_ok-check_handlers.ensures

pub returns : goal.returns
returns c = c.in_ok-group.ensures ∙ c.in_ok-tables.ensures.of
