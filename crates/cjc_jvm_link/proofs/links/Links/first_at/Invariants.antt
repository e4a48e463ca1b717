use Rattle.std.proofs.Common.{◌≡◌, drop}
use Rattle.std.specs.Prelude.{option_and_then, slice_get}
use Rattle.cjc_world.specs.Classes.{all_classes}
use Rattle.cjc_world.specs.Working.Places.{first_place}
use Rattle.cjc_jvm_link.specs.Wanted.{own_by}
use Rattle.cjc_jvm_link.proofs.links.Links.first_at.Given as goal

abbrev pub invariant-loop-place : goal.invariant-loop-place
invariant-loop-place l =
    first_place (λ p. option_and_then (own_by l.wanted l.id.name l.id.desc) (slice_get (all_classes l.self.files) p))
    (drop l.place-index l.places)
    ≡ first_place (λ p. option_and_then (own_by l.wanted l.id.name l.id.desc) (slice_get (all_classes l.self.files) p))
    l.places
