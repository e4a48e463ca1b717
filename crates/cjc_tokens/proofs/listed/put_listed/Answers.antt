use Rattle.std.proofs.Common.{arith, length, ◌≤◌, ◌<◌}
use Rattle.cjc_world.specs.Working.Known.{class_of}
use Rattle.cjc_tokens.specs.Slots.{listed_slots}
use Rattle.cjc_tokens.specs.Working.{overlay, signs}
use Rattle.cjc_tokens.proofs.Overlays.{listed-next, listed-end, member-there}
use Rattle.cjc_tokens.proofs.listed.put_listed.Goals as goal

pub loop-place-preserved : goal.loop-place-preserved
loop-place-preserved c =
    let lt : c.loop-place.place < length (class_of c.args.class).methods = omega arith in
    let m = member-there (class_of c.args.class).methods c.loop-place.place lt in
    listed-next (overlay (signs c.args.row.now.items) (listed_slots (class_of c.args.class).methods))
    (signs c.loop-place.row.items) (signs c.put_one.new.row.items) (class_of c.args.class).methods
    c.loop-place.place m.0 lt m.1
    (c.in_ok-put_one.ensures m.0 m.1) c.loop-place.invariant

pub returns : goal.returns
returns c =
    let le : length (class_of c.args.class).methods ≤ c.loop-place.place = omega arith in
    listed-end (overlay (signs c.args.row.now.items) (listed_slots (class_of c.args.class).methods))
    (signs c.loop-place.row.items) (class_of c.args.class).methods c.loop-place.place le c.loop-place.invariant
