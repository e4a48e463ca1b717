use Rattle.std.proofs.Common.{map}
use Rattle.cjc_world.specs.Working.Known.{class_of}
use Rattle.cjc_tokens.specs.Members.{all_methods}
use Rattle.cjc_tokens.specs.Slots.{listed_slots}
use Rattle.cjc_tokens.specs.Working.{signs}
use Rattle.cjc_tokens.proofs.Overlays.{classes-next, classes-end}
use Rattle.cjc_tokens.proofs.listed.listed.Goals as goal

pub loop-class-preserved : goal.loop-class-preserved
loop-class-preserved c =
    classes-next (listed_slots (all_methods (map class_of c.args.classes.now))) (signs c.loop-class.row.items)
    (signs c.put_listed.new.row.items) c.args.classes.now c.loop-class.class-index c.class-item.result
    c.loop-class-test.true c.class-item.is c.in_ok-put_listed.ensures c.loop-class.invariant

pub returns : goal.returns
returns c = classes-end (listed_slots (all_methods (map class_of c.args.classes.now))) (signs c.loop-class.row.items)
    c.args.classes.now c.loop-class.class-index c.loop-class-test.false c.loop-class.invariant
