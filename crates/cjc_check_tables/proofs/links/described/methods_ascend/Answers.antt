use Rattle.std.proofs.Common.{arith, ap, ◌∙◌, ◌+◌, Bool}
use Rattle.cjc_check_rules.specs.Spots.{first, in_info, unless}
use Rattle.cjc_check_tables.proofs.LinksLaws.Ascents.{methods_more, methods_all}
use Rattle.cjc_check_tables.proofs.links.described.methods_ascend.Goals as goal

pub loop-method-preserved : goal.loop-method-preserved
loop-method-preserved c =
    let h = c.loop-method.invariant.0 in (
      omega (arith, h),
      rw c.earlier-least.ensures (methods_more c.loop-method.last c.loop-method.at
          c.loop-method.method-index _ c.args.methods.now c.loop-method.least _ _ c.loop-method-test.true
          (c.unless.ensures ∙ ap (λ (b : Bool). first (unless b (in_info 11 (c.loop-method.at + 2))))
          c.is_after.ensures)
          c.loop-method.invariant.1),
    )

pub returns : goal.returns
returns c = methods_all c.loop-method.last c.loop-method.at c.loop-method.method-index c.args.methods.now
    c.loop-method.least _ c.loop-method-test.false c.loop-method.invariant.1
