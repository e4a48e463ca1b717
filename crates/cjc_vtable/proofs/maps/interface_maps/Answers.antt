use Rattle.std.proofs.Common.{◌≡◌, ◌∙◌, ap, false, map, subst, sym}
use Rattle.std.specs.Prelude.{IfOk}
use Rattle.cjc_world.specs.Bytes.AccessFlags.{is_interface}
use Rattle.cjc_world.specs.Classes.{Class, all_classes}
use Rattle.cjc_world.specs.Working.Known.{class_of}
use Rattle.cjc_world.specs.Working.Places.{at_places}
use Rattle.cjc_tokens.specs.Lines.{line_at}
use Rattle.cjc_tokens.specs.Slots.{row, shown_token}
use Rattle.cjc_tokens.specs.Working.{signs}
use Rattle.cjc_tokens.proofs.Listings.{slot_token-is}
use Rattle.cjc_vtable.specs.Tables.{interface_map}
use Rattle.cjc_vtable.proofs.Assigned.{public-row}
use Rattle.cjc_vtable.proofs.MapPlaces.{interfaces-are}
use Rattle.cjc_vtable.proofs.maps.interface_maps.Goals as goal

pub returns : goal.returns
returns c =
    let w = all_classes c.args.world.now in
    let d = class_of c.args.class in
    let k = c.requires.class in
    let t = c.requires.tokens in
    let plain : is_interface k.1.flags ≡ false = ap (λ (q : Class). is_interface q.flags) (sym k.3)
    ∙ c.requires.plain in
    let methods = c.public_methods-methods.ensures ∙ public-row c.args.world.now t.0 c.args.number k.1 k.2 plain
    c.args.tokens.now t.1 ∙ ap (λ q. row (line_at w q)) (sym k.3) in
    let shown = slot_token-is (line_at w d) c.in_ok-told.told c.deref.result.now c.public_methods-methods.result.now
    c.in_ok-told.ensures (ap signs c.deref.ensures.value ∙ c.in_ok-row.ensures) methods in
    subst (λ q. IfOk c.maps_by.result (λ maps. maps ≡ q))
    (ap (λ q. map (interface_map w q) (at_places w c.items.result.now)) shown
    ∙ ap (λ q. map (interface_map w (shown_token (line_at w d))) (at_places w q)) c.items.ensures
    ∙ ap (map (interface_map w (shown_token (line_at w d)))) (c.in_ok-places.ensures ∙ interfaces-are w d))
    c.maps_by.ensures
