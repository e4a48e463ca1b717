use Rattle.std.proofs.Common.{List, sym, ap, ◌∙◌}
use Rattle.std.specs.Prelude.{option_map}
use Rattle.cjc_card_semantics.specs.Machine.Classes.{Class}
use Rattle.cjc_card_semantics.specs.Machine.Calls.{start_selected, through_first}
use Rattle.cjc_card_frame.specs.Objects.{class_of}
use Rattle.cjc_card_link.specs.Tables.{loaded_of}
use Rattle.cjc_card_calls.proofs.NamesLaws.Above.{line_above}
use Rattle.cjc_card_calls.proofs.names.interfaces.through_above.Goals as goal

pub returns-in-Some : goal.returns-in-Some
returns-in-Some c =
    let l = loaded_of c.args.tables.now in
    c.through_first.ensures
    ∙ ap (λ (cs : List Class). start_selected l (through_first l (option_map class_of c.args.receiver) cs
    c.args.id.now))
    (line_above l (class_of c.args.named) _ (c.in-Some.ensures ∙ c.requires.lines (class_of c.args.named)))

pub returns-in-None : goal.returns-in-None
returns-in-None c =
    let l = loaded_of c.args.tables.now in
    c.through_first-in-None.ensures
    ∙ ap (λ (cs : List Class). start_selected l (through_first l (option_map class_of c.args.receiver) cs
    c.args.id.now))
    (sym (c.nothing_above.ensures l c.args.lines.now (class_of c.args.named) c.requires.lines (sym c.in-None.ensures)))
