use Rattle.std.proofs.Common.{◌≡◌, drop, map}
use Rattle.cjc_world.specs.Added.{methods_of}
use Rattle.cjc_world.specs.Classes.{all_classes}
use Rattle.cjc_world.specs.Working.Places.{at_places}
use Rattle.cjc_tokens.specs.Members.{signature_of}
use Rattle.cjc_tokens.specs.Slots.{with_new}
use Rattle.cjc_tokens.specs.Working.{signs}
use Rattle.cjc_tokens.proofs.interfaces.put_places.Given as goal

abbrev pub invariant-loop-place : goal.invariant-loop-place
invariant-loop-place l =
    with_new (signs l.row.items)
    (map signature_of (methods_of (at_places (all_classes l.world) (drop l.place-index l.places))))
    ≡ with_new (signs l.initial.row.items) (map signature_of (methods_of (at_places (all_classes l.world) l.places)))
