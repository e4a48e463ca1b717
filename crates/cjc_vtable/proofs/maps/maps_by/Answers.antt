use Rattle.std.proofs.Common.{◌≡◌, List, map, subst}
use Rattle.std.specs.Prelude.{IfOk, Option}
use Rattle.cjc_world.specs.Classes.{all_classes}
use Rattle.cjc_world.specs.Working.Places.{at_places}
use Rattle.cjc_tokens.specs.declared.slot.Slot.{Slot}
use Rattle.cjc_tokens.specs.Slots.{token_among}
use Rattle.cjc_tokens.specs.Working.{signs, token_under}
use Rattle.cjc_vtable.specs.Tables.{interface_map}
use Rattle.cjc_vtable.proofs.maps.maps_by.Goals as goal

pub returns : goal.returns
returns c =
    let w = all_classes c.args.world.now in
    subst (λ (q : List (Option Slot)). IfOk c.maps_at.result (λ maps. maps
    ≡ map (interface_map w (λ s. token_among (token_under c.args.told.now s) (signs q) c.args.methods.now s))
    (at_places w c.args.places.now))) c.in_ok-indexed.ensures c.maps_at.ensures
