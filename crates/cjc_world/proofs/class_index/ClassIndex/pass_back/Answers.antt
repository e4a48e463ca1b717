use Rattle.std.proofs.Common.{◌-◌, ◌+◌}
use Rattle.cjc_world.specs.Classes.{all_classes}
use Rattle.cjc_world.proofs.Filling.{closer-still}
use Rattle.cjc_world.proofs.class_index.ClassIndex.pass_back.Goals as goal

pub loop-left-preserved : goal.loop-left-preserved
loop-left-preserved c =
    let p = c.args.count - 1 - c.loop-left.left in
    closer-still (all_classes c.args.self.now) c.args.rows.now.items c.loop-left.rows.items c.settle.new.rows.items 0 0
    p (p + 1) c.loop-left.invariant c.in_ok-settle.ensures
