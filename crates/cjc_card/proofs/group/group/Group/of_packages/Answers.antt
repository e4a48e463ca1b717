use Rattle.std.proofs.Common.{◌≡◌, List, map, true, ◌∙◌, subst}
use Rattle.cjc_card_calls.specs.LowerCardLink.declared.part.GroupPart.{GroupPart}
use Rattle.cjc_card_calls.specs.LowerCardLink.Group.{group_part}
use Rattle.cjc_card_calls.specs.LowerCardLink.Tables.{loaded_of}
use Rattle.cjc_card_calls.specs.Lines.Handlers.{are_parts_near}
use Rattle.cjc_card.proofs.GroupLaws.Near.{near_group}
use Rattle.cjc_card.proofs.group.group.Group.of_packages.Goals as goal

pub over-requires-clause-near : goal.over-requires-clause-near
over-requires-clause-near c =
    near_group c.args.parts c.args.trees.now (loaded_of c.in_ok-tables.tables) c.in_ok-tables.ensures.of
    (subst (λ (ps : List GroupPart). are_parts_near (map group_part ps) ≡ true) c.items.ensures
    c.in_ok-check_all_handlers.ensures)

pub returns : goal.returns
returns c = c.in_ok-group.ensures ∙ c.in_ok-tables.ensures.of
