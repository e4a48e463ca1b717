use Rattle.std.proofs.Common.{ap, ◌∙◌}
use Rattle.std.specs.Prelude.{option_and_then, option_map}
use Rattle.cjc_card_semantics.specs.Machine.Classes.{Own, offset_of}
use Rattle.cjc_card_link.proofs.tables.Tables.class_numbered.Goals as goal

pub returns-in-Some-offset_of : goal.returns-in-Some-offset_of
returns-in-Some-offset_of c =
    ap (option_map (Own c.args.part)) (c.in-Some-offset_of.ensures.offset
    ∙ ap (option_and_then (λ p. offset_of p c.args.number)) c.in-Some.ensures)

pub returns-in-None-offset_of : goal.returns-in-None-offset_of
returns-in-None-offset_of c =
    ap (option_map (Own c.args.part)) (c.in-None-offset_of.ensures.offset
    ∙ ap (option_and_then (λ p. offset_of p c.args.number)) c.in-Some.ensures)

pub returns-in-None : goal.returns-in-None
returns-in-None c =
    ap (λ o. option_map (Own c.args.part) (option_and_then (λ p. offset_of p c.args.number) o)) c.in-None.ensures
