use Rattle.std.specs.Prelude.{option_and_then, slice_get}
use Rattle.cjc_world.specs.Classes.{all_classes}
use Rattle.cjc_world.proofs.Walked.{first-here, first-on, first-end}
use Rattle.cjc_jvm_link.specs.Wanted.{own_by}
use Rattle.cjc_jvm_link.proofs.links.Links.first_at.Goals as goal

pub returns-in-Some : goal.returns-in-Some
returns-in-Some c = first-here (λ p. option_and_then (own_by c.args.wanted c.args.id.now.name c.args.id.now.desc)
    (slice_get (all_classes c.args.self.now.files) p)) c.args.places.now c.loop-place.place-index 0 c.in-Some.found
    c.loop-place-test.true c.in-Some.ensures c.loop-place.invariant

pub loop-place-preserved : goal.loop-place-preserved
loop-place-preserved c = first-on (λ p. option_and_then (own_by c.args.wanted c.args.id.now.name c.args.id.now.desc)
    (slice_get (all_classes c.args.self.now.files) p)) c.args.places.now c.loop-place.place-index 0
    c.loop-place-test.true c.in_default.ensures c.loop-place.invariant

pub returns : goal.returns
returns c = first-end (λ p. option_and_then (own_by c.args.wanted c.args.id.now.name c.args.id.now.desc)
    (slice_get (all_classes c.args.self.now.files) p)) c.args.places.now c.loop-place.place-index
    c.loop-place-test.false c.loop-place.invariant
