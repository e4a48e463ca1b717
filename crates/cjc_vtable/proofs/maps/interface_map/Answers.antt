use Rattle.std.proofs.Common.{◌∙◌, ap, map}
use Rattle.cjc_world.specs.Classes.{all_classes}
use Rattle.cjc_world.specs.Working.Known.{class_of}
use Rattle.cjc_tokens.specs.Working.{signs, slot_token}
use Rattle.cjc_vtable.specs.Working.Naming.{index_of}
use Rattle.cjc_vtable.proofs.MapPlaces.{map-is}
use Rattle.cjc_vtable.proofs.maps.interface_map.Goals as goal

pub returns : goal.returns
returns c =
    let all = slot_token c.args.shown.now in
    map-is (all_classes c.args.world.now) all (signs c.in_ok-methods.methods.items) (class_of c.args.interface)
    c.in_ok-interface.interface c.in_ok-index.index
    (c.in_ok-interface.ensures ∙ c.name.ensures)
    (c.in_ok-index.ensures ∙ ap (λ q. map (index_of all) (signs q)) c.deref.ensures.value)
    c.in_ok-methods.ensures
