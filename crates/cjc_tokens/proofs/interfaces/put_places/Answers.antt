use Rattle.std.proofs.Common.{◌+◌, ◌∙◌, drop, map, ap}
use Rattle.cjc_world.specs.Added.{methods_of}
use Rattle.cjc_world.specs.Classes.{all_classes}
use Rattle.cjc_world.specs.Working.Known.{class_of}
use Rattle.cjc_world.specs.Working.Places.{at_places}
use Rattle.cjc_tokens.specs.Members.{signature_of}
use Rattle.cjc_tokens.specs.Slots.{with_new}
use Rattle.cjc_tokens.specs.Working.{signs}
use Rattle.cjc_tokens.proofs.Once.{offer-at, offer-over, offer-past}
use Rattle.cjc_tokens.proofs.interfaces.put_places.Goals as goal
use Rattle.cjc_tokens.proofs.interfaces.put_places.Goals.{in-Some+in_ok-put_own, in_default}

pub loop-place-preserved : goal.loop-place-preserved
loop-place-preserved c =
    let w = all_classes c.args.world.now in
    let ps = c.args.places.now in
    let i = c.loop-place.place-index in
    let whole = with_new (signs c.args.row.now.items) (map signature_of (methods_of (at_places w ps))) in
    elim c.match-class_in.branch [
      | in-Some+in_ok-put_own b ↦
          ap (λ q. with_new (signs q.items) (map signature_of (methods_of (at_places w (drop (i + 1) ps))))) b.row-is
          ∙ offer-at w (signs c.loop-place.row.items) (signs b.put_own.new.row.items) whole ps i 0
          (class_of b.in-Some.class) c.loop-place-test.true b.in-Some.ensures.at b.in_ok-put_own.ensures
          c.loop-place.invariant
      | in_default b ↦
          ap (λ q. with_new (signs q.items) (map signature_of (methods_of (at_places w (drop (i + 1) ps))))) b.row-is
          ∙ offer-over w (signs c.loop-place.row.items) whole ps i 0 c.loop-place-test.true b.in_default.ensures.at
          c.loop-place.invariant
    ]

pub returns : goal.returns
returns c =
    offer-past (all_classes c.args.world.now) (signs c.loop-place.row.items) (with_new (signs c.args.row.now.items)
    (map signature_of (methods_of (at_places (all_classes c.args.world.now) c.args.places.now)))) c.args.places.now
    c.loop-place.place-index c.loop-place-test.false c.loop-place.invariant
