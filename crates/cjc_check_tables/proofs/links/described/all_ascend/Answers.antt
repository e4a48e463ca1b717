use Rattle.std.proofs.Common.{◌≡◌, ◌+◌, arith, drop}
use Rattle.std.specs.Prelude.{sum_by}
use Rattle.cjc_check_rules.specs.Complete.{described_size}
use Rattle.cjc_check_rules.proofs.Firsts.{sum_step}
use Rattle.cjc_check_tables.proofs.LinksLaws.Ascents.{ascend_more, ascend_all}
use Rattle.cjc_check_tables.proofs.links.described.all_ascend.Goals as goal

pub loop-class-preserved : goal.loop-class-preserved
loop-class-preserved c =
    let xs = c.args.classes.now in
    let i = c.loop-class.class-index in
    let x = c.class-item.result in
    let n : c.size-at.result ≡ described_size x = c.size-at.ensures in
    let s : sum_by described_size (drop i xs) ≡ described_size x + sum_by described_size (drop (i + 1) xs) =
    sum_step described_size i x xs c.loop-class-test.true c.class-item.is in
    let h = c.loop-class.invariant.0 in (
      omega (arith, s, n, h),
      rw c.earlier-least.ensures (ascend_more c.args.names.now.parts.now.class.now
          c.loop-class.last _ c.loop-class.at _ i x xs c.loop-class.least c.methods_in_class.result _
          c.loop-class-test.true c.class-item.is (omega (arith, n)) c.offset_after-last.ensures
          c.methods_in_class.ensures
          c.loop-class.invariant.1),
    )

pub returns : goal.returns
returns c = ascend_all c.args.names.now.parts.now.class.now c.loop-class.last c.loop-class.at c.loop-class.class-index
    c.args.classes.now c.loop-class.least _ c.loop-class-test.false c.loop-class.invariant.1
