use Rattle.std.specs.Prelude.{slice_get}
use Rattle.cjc_world.specs.Classes.{all_classes}
use Rattle.cjc_world.specs.Working.Places.{field_of}
use Rattle.cjc_world.proofs.Walked.{first-here, first-on, first-end}
use Rattle.cjc_world.proofs.class_index.ClassIndex.first_field.Goals as goal

pub returns-in-Some : goal.returns-in-Some
returns-in-Some c = first-here (λ p. field_of c.args.name.now c.args.desc.now (slice_get (all_classes c.args.self.now)
    p)) c.args.places.now c.loop-place.place-index 0 c.in-Some.found c.loop-place-test.true c.in-Some.ensures
    c.loop-place.invariant

pub loop-place-preserved : goal.loop-place-preserved
loop-place-preserved c =
    first-on (λ p. field_of c.args.name.now c.args.desc.now (slice_get (all_classes c.args.self.now) p))
    c.args.places.now c.loop-place.place-index 0 c.loop-place-test.true c.in_default.ensures c.loop-place.invariant

pub returns : goal.returns
returns c = first-end (λ p. field_of c.args.name.now c.args.desc.now (slice_get (all_classes c.args.self.now) p))
    c.args.places.now c.loop-place.place-index c.loop-place-test.false c.loop-place.invariant
