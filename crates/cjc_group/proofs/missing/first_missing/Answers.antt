use Rattle.std.specs.Prelude.{option_map}
use Rattle.cjc_bytes.specs.Told.{break_of}
use Rattle.cjc_bytes.proofs.Firsts.{each_all, each_more, each_none}
use Rattle.cjc_group.specs.Members.{Member}
use Rattle.cjc_group.specs.Missing.{member_missing}
use Rattle.cjc_group.proofs.missing.first_missing.Goals as goal

pub loop-place-init : goal.loop-place-init
loop-place-init c = each_none (λ i (p : Member). member_missing c.args.group.now i p) c.args.group.now

pub loop-place-preserved : goal.loop-place-preserved
loop-place-preserved c =
    let i = c.loop-place.place in
    each_more (λ i (p : Member). member_missing c.args.group.now i p) i c.args.group.now c.index-group-place.result
    (option_map break_of c.first-least.result) c.loop-place-test.true c.index-group-place.is
    (c.first-least.ensures _ _ c.loop-place.invariant c.in_ok-member_missing.ensures)

pub returns : goal.returns
returns c = each_all (λ i (p : Member). member_missing c.args.group.now i p) c.loop-place.place c.args.group.now
    (option_map break_of c.loop-place.least) c.loop-place-test.false c.loop-place.invariant
