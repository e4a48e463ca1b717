use Rattle.std.proofs.Common.{◌∙◌, sym, false}
use Rattle.cjc_exported.specs.World.Classes.{all_classes, class_at}
use Rattle.cjc_captree.proofs.LimitsLaws.IntMembers.{ints_found, ints_more, ints_none, is_found, is_missing}
use Rattle.cjc_captree.proofs.limits.ints.uses_int.Goals as goal

pub returns-then-is_none : goal.returns-then-is_none
returns-then-is_none c =
    let files = c.args.world.now in
    let n = c.loop-number.number in
    ints_none files n (is_missing c.class_at.result (class_at (all_classes files) false n) c.is_none.result
    c.class_at.ensures.at c.is_none.ensures c.if-is_none.true) c.loop-number.invariant

pub returns-then-has_int : goal.returns-then-has_int
returns-then-has_int c =
    let files = c.args.world.now in
    let n = c.loop-number.number in
    let (d, there) = is_found c.class_at.result (class_at (all_classes files) false n) c.is_none.result
    c.class_at.ensures.at c.is_none.ensures c.if-is_none.false in
    ints_found files n d there (sym (c.has_int.ensures d there) ∙ c.if-has_int.true)

pub loop-number-preserved : goal.loop-number-preserved
loop-number-preserved c =
    let files = c.args.world.now in
    let n = c.loop-number.number in
    let (d, there) = is_found c.class_at.result (class_at (all_classes files) false n) c.is_none.result
    c.class_at.ensures.at c.is_none.ensures c.if-is_none.false in
    ints_more files n d there (sym (c.has_int.ensures d there) ∙ c.if-has_int.false) c.loop-number.invariant
