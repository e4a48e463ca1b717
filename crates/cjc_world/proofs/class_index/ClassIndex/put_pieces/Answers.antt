use Rattle.std.proofs.Common.{◌∙◌}
use Rattle.cjc_world.specs.Classes.{all_classes}
use Rattle.cjc_world.proofs.Piecing.{pieces-step, pieces-end}
use Rattle.cjc_world.proofs.class_index.ClassIndex.put_pieces.Goals as goal

pub loop-name-preserved : goal.loop-name-preserved
loop-name-preserved c =
    pieces-step (all_classes c.args.self.now) c.args.order c.args.listed c.args.rows.now c.args.places.now
    c.loop-name.places c.put_piece.new.places
    c.args.names.now c.loop-name.name-index _ c.items.result.now c.place_named.result c.loop-name-test.true
    (c.items.ensures ∙ c.name-item.is) c.place_named.ensures c.in_ok-put_piece.ensures c.loop-name.invariant

pub returns : goal.returns
returns c = pieces-end (all_classes c.args.self.now) c.args.order c.args.listed c.args.rows.now c.args.places.now
    c.loop-name.places c.args.names.now c.loop-name.name-index c.loop-name-test.false c.loop-name.invariant
