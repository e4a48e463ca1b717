use Rattle.std.proofs.Common.{◌≡◌, ap, ◌∙◌, sym, true, arith}
use Rattle.std.specs.List.{flat_map}
use Rattle.cjc_card_link.specs.Bytes.AccessFlags.{is_interface}
use Rattle.cjc_classes.specs.LowerTokens.Methods.{interface_methods}
use Rattle.cjc_classes.specs.LowerTokens.Working.{signs}
use Rattle.cjc_card_link.specs.World.Classes.{all_classes, declared}
use Rattle.cjc_pairing.specs.CardNames.Working.Classes.{name_in}
use Rattle.cjc_pairing.proofs.CardNames.ByNumber.{interface_is, slots_are}
use Rattle.cjc_pairing.proofs.card_names.methods.interface_names.Goals as goal

pub returns : goal.returns
returns c =
    let w = all_classes c.args.world.now in
    let k = declared c.args.number c.args.class.now in
    let interface : is_interface k.flags ≡ true = sym c.is_interface.ensures ∙ c.if-not-is_interface.false in
    c.in_ok-names.ensures
    ∙ ap (λ slots. flat_map name_in (signs slots)) c.deref.ensures.value
    ∙ ap (flat_map name_in) c.in_ok-slots.ensures
    ∙ slots_are (interface_methods w k)
    ∙ interface_is w k interface
