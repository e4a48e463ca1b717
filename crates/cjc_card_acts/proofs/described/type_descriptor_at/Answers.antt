use Rattle.std.proofs.Common.{ℕ, ◌+◌, ap}
use Rattle.cjc_check_rules.specs.Described.{types_at}
use Rattle.cjc_check_rules.specs.Spots.{item_at}
use Rattle.cjc_card_acts.proofs.Descriptors.{nothing_left, starts_later, still_small}
use Rattle.cjc_card_acts.proofs.described.type_descriptor_at.Goals as goal

pub loop-left-preserved : goal.loop-left-preserved
loop-left-preserved c =
    let all = item_at (types_at c.args.descriptor.now) c.args.offset in
    let on = ap (λ (n : ℕ). c.loop-left.at + n) c.type_size-at.ensures in
    record {
      is = starts_later c.loop-left.at (c.loop-left.at + c.type_size-at.result) c.args.offset c.first-item.result
          c.loop-left.left.now all c.in-len1-up.len_at_least c.first-item.is c.if-at-offset.false on
          c.loop-left.invariant.is;
      small = still_small c.loop-left.at (c.loop-left.at + c.type_size-at.result) c.first-item.result
          c.loop-left.left.now c.in-len1-up.len_at_least c.first-item.is on c.loop-left.invariant.small;
    }

pub returns : goal.returns
returns c = nothing_left c.loop-left.at c.args.offset c.loop-left.left.now (item_at (types_at c.args.descriptor.now)
    c.args.offset) c.in_default.len_below c.loop-left.invariant.is
