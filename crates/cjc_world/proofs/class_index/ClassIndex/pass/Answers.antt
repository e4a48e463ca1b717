use Rattle.cjc_world.specs.Classes.{all_classes}
use Rattle.cjc_world.proofs.Filling.{closer-then}
use Rattle.cjc_world.proofs.class_index.ClassIndex.pass.Goals as goal

pub loop-place-preserved : goal.loop-place-preserved
loop-place-preserved c = closer-then (all_classes c.args.self.now) c.args.rows.now.items c.loop-place.rows.items
    c.settle.new.rows.items 0 c.loop-place.place c.loop-place.invariant c.in_ok-settle.ensures
