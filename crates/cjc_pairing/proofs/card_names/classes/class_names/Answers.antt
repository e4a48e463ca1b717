use Rattle.std.proofs.Common.{ap, ◌∙◌, map, ◌++◌}
use Rattle.std.specs.List.{flat_map}
use Rattle.cjc_card_link.specs.Names.{class_names_of}
use Rattle.cjc_pairing.specs.CardNames.Working.Classes.{names_at}
use Rattle.cjc_pairing.proofs.CardNames.ByNumber.{both_are}
use Rattle.cjc_pairing.proofs.card_names.classes.class_names.Goals as goal

pub returns : goal.returns
returns c =
    let files = c.args.world.now in
    let a = c.args.tokens.now in
    both_are files a c.in_ok-interfaces.interfaces c.in_ok-classes.classes _ _ c.in_ok-interfaces.ensures.order
    c.in_ok-classes.ensures.order
    (c.in_ok-put_classes.ensures ∙ ap (λ ns. map class_names_of ns ++ flat_map (names_at files a) c.items.result.now)
    c.new-names.ensures ∙ ap (flat_map (names_at files a)) c.items.ensures)
    (c.in_ok-put_classes-2.ensures ∙ ap (λ ns. map class_names_of c.put_classes.new.names
    ++ flat_map (names_at files a) ns) c.items-2.ensures)
