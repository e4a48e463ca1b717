use Rattle.std.proofs.Common.{◌∙◌, sym, refl, subst, ◌<◌}
use Rattle.std.proofs.lemmas.Option.{slice_get_read}
use Rattle.cjc_vtable.proofs.Standing.{next-here, next-on, next-end, row-at, stands-marked}
use Rattle.cjc_vtable.proofs.order.next_class.Goals as goal

pub returns-then-may_stand : goal.returns-then-may_stand
returns-then-may_stand c w placed is marked =
    let k = c.loop-number.number in
    let x = c.index-classes-number.result in
    let trees = c.args.classes.now in
    let at = slice_get_read trees _ k x refl c.loop-number-test.true c.index-classes-number.is in
    let there = slice_get_read c.args.listed.now _ k c.index-listed-number.result refl (subst (λ n. k < n) (sym c.requires.same) c.loop-number-test.true) c.index-listed-number.is in
    let row = row-at w trees c.args.listed.now k x c.index-listed-number.result at there is in
    let same = stands-marked w placed c.args.marks.now marked k x c.items.result.now (c.items.ensures ∙ row) in
    (x, at, c.loop-number.invariant w placed is marked ∙ next-here w placed trees k x c.loop-number-test.true c.index-classes-number.is (sym same ∙ sym c.may_stand.ensures ∙ c.if-may_stand.true))

pub loop-number-preserved : goal.loop-number-preserved
loop-number-preserved c w placed is marked =
    let k = c.loop-number.number in
    let x = c.index-classes-number.result in
    let trees = c.args.classes.now in
    let at = slice_get_read trees _ k x refl c.loop-number-test.true c.index-classes-number.is in
    let there = slice_get_read c.args.listed.now _ k c.index-listed-number.result refl (subst (λ n. k < n) (sym c.requires.same) c.loop-number-test.true) c.index-listed-number.is in
    let row = row-at w trees c.args.listed.now k x c.index-listed-number.result at there is in
    let same = stands-marked w placed c.args.marks.now marked k x c.items.result.now (c.items.ensures ∙ row) in
    c.loop-number.invariant w placed is marked ∙ next-on w placed trees k x c.loop-number-test.true c.index-classes-number.is (sym same ∙ sym c.may_stand.ensures ∙ c.if-may_stand.false)

pub returns : goal.returns
returns c w placed is marked = c.loop-number.invariant w placed is marked ∙ next-end w placed c.args.classes.now c.loop-number.number c.loop-number-test.false
