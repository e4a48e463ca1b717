use Rattle.std.proofs.Common.{◌∙◌, ◌++◌, ap}
use Rattle.cjc_group.specs.Missing.{lists_missed, name_where}
use Rattle.cjc_group.proofs.Missed.{flat_next}
use Rattle.cjc_group.proofs.missing.put_missing.Goals as goal

pub loop-class-preserved : goal.loop-class-preserved
loop-class-preserved c =
    let group = c.args.group.now in
    let p = c.args.member.now in
    let e = c.class-item.result in
    flat_next (λ e. name_where (lists_missed group p e) e.name) c.args.classes.now c.loop-class.class-index e
    _ _ _ c.loop-class-test.true c.class-item.is c.loop-class.invariant
    (c.in_ok-put_where.ensures ∙ ap (λ b. c.loop-class.names ++ name_where b c.items.result.now) c.lists_missed-so.ensures
    ∙ ap (λ x. c.loop-class.names ++ name_where (lists_missed group p e) x) c.items.ensures)
