use Rattle.std.proofs.Common.{◌≡◌, ◌+◌, ap, arith, drop, get_or, length, map, sym, ◌∙◌}
use Rattle.std.specs.Prelude.{sum_by}
use Rattle.cjc_card_link.proofs.CheckRulesFirsts.{sum_step}
use Rattle.cjc_classes.specs.CheckRules.Complete.{described_size}
use Rattle.cjc_classes.specs.CheckRules.Consistent.{break_at}
use Rattle.cjc_pairing.proofs.Heads.{all, passed, short, stopped}
use Rattle.cjc_pairing.proofs.pair.method_break.Goals as goal

pub returns-then-i-counts : goal.returns-then-i-counts
returns-then-i-counts c = ap (map (break_at 719)) (short c.loop-i.at c.loop-i.i c.items-classes.result.now
    c.args.counts.now _ c.if-i-counts.true c.loop-i.invariant.1)

pub returns-then-items-counts : goal.returns-then-items-counts
returns-then-items-counts c =
    let x = c.index-classes-i.result in
    let other : length x.methods ≡ get_or c.args.counts.now c.loop-i.i 0
    → ⊥ = λ e. c.if-items-counts.true (ap length c.items.ensures ∙ e) in
    c.in_descriptor.ensures ∙ ap (map (break_at 719)) (stopped c.loop-i.at c.loop-i.i 0 x c.items-classes.result.now
    c.args.counts.now _ c.loop-i-test.true c.if-i-counts.false c.index-classes-i.is other c.loop-i.invariant.1)

pub loop-i-preserved : goal.loop-i-preserved
loop-i-preserved c =
    let xs = c.items-classes.result.now in
    let i = c.loop-i.i in
    let x = c.index-classes-i.result in
    let n : c.size-at.result ≡ described_size x = c.size-at.ensures in
    let next : c.loop-i.at + c.size-at.result ≡ c.loop-i.at + described_size x = ap (λ k. c.loop-i.at + k) n in
    let s : sum_by described_size (drop i xs) ≡ described_size x + sum_by described_size (drop (i + 1) xs) =
    sum_step described_size i x xs c.loop-i-test.true c.index-classes-i.is in
    let h = c.loop-i.invariant.0 in
    let same : length x.methods ≡ get_or c.args.counts.now i 0 = ap length (sym c.items.ensures)
    ∙ c.if-items-counts.false in (
      omega (arith, s, n, h),
      passed c.loop-i.at _ i 0 x xs c.args.counts.now _ c.loop-i-test.true c.if-i-counts.false
          c.index-classes-i.is same next c.loop-i.invariant.1,
    )

pub returns : goal.returns
returns c = ap (map (break_at 719)) (all c.loop-i.at c.loop-i.i c.items-classes.result.now c.args.counts.now _
    c.loop-i-test.false c.loop-i.invariant.1)
