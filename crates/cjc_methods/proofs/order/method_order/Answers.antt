use Rattle.std.proofs.Common.{false}
use Rattle.std.proofs.lemmas.Option.{slice_get-get_or}
use Rattle.cjc_world.specs.Classes.{all_classes}
use Rattle.cjc_world.specs.Order.{in_order}
use Rattle.cjc_methods.proofs.Ordered.{at_place, in_turn_next}
use Rattle.cjc_methods.proofs.order.method_order.Goals as goal

pub put_class-requires : goal.put_class-requires
put_class-requires c =
    let k = c.loop-number.number-index in
    let order = c.args.order.now in
    let (x, at, is) = at_place (all_classes c.args.world.now) (in_order (all_classes c.args.world.now) false) order k _
    c.requires (slice_get-get_or order k 0 c.loop-number-test.true) in
    (x, is)

pub loop-number-preserved : goal.loop-number-preserved
loop-number-preserved c =
    let k = c.loop-number.number-index in
    let order = c.args.order.now in
    let w = all_classes c.args.world.now in
    let (x, at, is) = at_place w (in_order w false) order k _ c.requires (slice_get-get_or order k 0
    c.loop-number-test.true) in
    in_turn_next w (in_order w false) k x c.loop-number.out c.put_class.new.out _ at (c.in_ok-put_class.ensures x is)
    c.loop-number.invariant
