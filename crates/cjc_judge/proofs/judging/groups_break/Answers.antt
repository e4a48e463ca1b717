use Rattle.std.specs.Prelude.{option_map}
use Rattle.cjc_bytes.specs.Told.{break_of}
use Rattle.cjc_bytes.proofs.Gets.{same_item, slice_get_at}
use Rattle.cjc_judge.specs.Tokens.{asks_tokens}
use Rattle.cjc_judge.specs.Working.Groups.{EarlyBreaks}
use Rattle.cjc_judge.proofs.Early.{asked}
use Rattle.cjc_judge.proofs.Folds.{none_below, more_below, all_below}
use Rattle.cjc_judge.proofs.judging.groups_break.Goals as goal

pub group_break-requires-clause-high : goal.group_break-requires-clause-high
group_break-requires-clause-high c = λ asks.
    let groups = c.args.groups.now in
    let k = c.loop-group.group-index in
    let lt = c.loop-group-test.true in
    c.requires.high (asked asks_tokens groups k _ (slice_get_at groups k _ lt (same_item groups k _ lt)) asks)

pub loop-group-init : goal.loop-group-init
loop-group-init c = none_below (EarlyBreaks c.args.list.now c.args.world.now c.args.codes.now
    c.args.unsupported_insns.now) c.args.groups.now

pub loop-group-preserved : goal.loop-group-preserved
loop-group-preserved c =
    let Breaks = EarlyBreaks c.args.list.now c.args.world.now c.args.codes.now c.args.unsupported_insns.now in
    let is = same_item c.args.groups.now c.loop-group.group-index _ c.loop-group-test.true in
    more_below Breaks c.args.groups.now c.loop-group.group-index _ (option_map break_of c.loop-group.least)
    (option_map break_of c.in_ok-broken.broken) (option_map break_of c.first-least.result)
    c.loop-group-test.true is c.first-least.ensures c.loop-group.invariant c.in_ok-broken.ensures

pub returns : goal.returns
returns c = all_below (EarlyBreaks c.args.list.now c.args.world.now c.args.codes.now c.args.unsupported_insns.now)
    c.args.groups.now c.loop-group.group-index (option_map break_of c.loop-group.least) c.loop-group-test.false
    c.loop-group.invariant
