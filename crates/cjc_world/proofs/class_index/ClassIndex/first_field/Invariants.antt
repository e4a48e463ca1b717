use Rattle.std.proofs.Common.{◌≡◌, drop}
use Rattle.std.specs.Prelude.{slice_get}
use Rattle.cjc_world.specs.Classes.{all_classes}
use Rattle.cjc_world.specs.Working.Places.{field_of, first_place}
use Rattle.cjc_world.proofs.class_index.ClassIndex.first_field.Given as goal

abbrev pub invariant-loop-place : goal.invariant-loop-place
invariant-loop-place l = first_place (λ p. field_of l.name l.desc (slice_get (all_classes l.self) p))
    (drop l.place-index l.places) ≡ first_place (λ p. field_of l.name l.desc (slice_get (all_classes l.self) p))
    l.places
