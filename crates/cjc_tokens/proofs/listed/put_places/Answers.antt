use Rattle.std.proofs.Common.{◌+◌, ◌∙◌, ◌++◌, [], ◌∷◌, drop, map, sym, ap, append-nil}
use Rattle.std.specs.Prelude.{Some, None}
use Rattle.cjc_world.specs.Classes.{all_classes}
use Rattle.cjc_world.specs.Working.Known.{class_of}
use Rattle.cjc_world.specs.Working.Places.{at_places}
use Rattle.cjc_tokens.proofs.Once.{put-at, put-past}
use Rattle.cjc_tokens.proofs.listed.put_places.Goals as goal
use Rattle.cjc_tokens.proofs.listed.put_places.Goals.{in-Some+in_ok-push, in_default}
use Rattle.cjc_bytes.proofs.Lists.{map_append}

pub loop-place-preserved : goal.loop-place-preserved
loop-place-preserved c =
    let w = all_classes c.args.world.now in
    let ps = c.args.places.now in
    let i = c.loop-place.place-index in
    let all = map class_of c.args.classes.now.items ++ at_places w ps in
    elim c.match-class_in.branch [
      | in-Some+in_ok-push b ↦
          ap (λ q. map class_of q.items ++ at_places w (drop (i + 1) ps)) b.classes-is
          ∙ put-at w (map class_of c.loop-place.classes.items) (map class_of b.push.new.self.items) all ps i 0
          (Some (class_of b.in-Some.class)) c.loop-place-test.true b.in-Some.ensures.at
          (ap (map class_of) b.in_ok-push.ensures.items ∙ map_append class_of c.loop-place.classes.items
          (b.in-Some.class ∷ []))
          c.loop-place.invariant
      | in_default b ↦
          ap (λ q. map class_of q.items ++ at_places w (drop (i + 1) ps)) b.classes-is
          ∙ put-at w (map class_of c.loop-place.classes.items) (map class_of c.loop-place.classes.items) all ps i 0 None
          c.loop-place-test.true b.in_default.ensures.at
          (sym (append-nil (map class_of c.loop-place.classes.items)))
          c.loop-place.invariant
    ]

pub returns : goal.returns
returns c = put-past (all_classes c.args.world.now) (map class_of c.loop-place.classes.items)
    (map class_of c.args.classes.now.items ++ at_places (all_classes c.args.world.now) c.args.places.now)
    c.args.places.now c.loop-place.place-index c.loop-place-test.false c.loop-place.invariant
