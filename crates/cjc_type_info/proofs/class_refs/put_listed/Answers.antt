use Rattle.cjc_world.specs.Classes.{all_classes}
use Rattle.cjc_type_info.proofs.Kept.{listed_all, listed_next}
use Rattle.cjc_type_info.proofs.class_refs.put_listed.Goals as goal

pub loop-place-preserved : goal.loop-place-preserved
loop-place-preserved c = λ x. listed_next (all_classes c.args.world.now) c.args.classes.now c.loop-place.place _ x _ _ _ c.loop-place-test.true (c.in_ok-put_at.ensures x) (c.loop-place.invariant x)

pub returns : goal.returns
returns c = λ x. listed_all (all_classes c.args.world.now) c.args.classes.now c.loop-place.place x _ _ c.loop-place-test.false (c.loop-place.invariant x)
