use Rattle.std.proofs.Common.{rules, Fits, w32, ◌≡◌, ℕ, List, Some, slice_get, length, sym, ◌∙◌, ap, subst, arith}
use Rattle.std.proofs.lemmas.Option.{slice_get_within}
use Rattle.cjc_fixpoint.proofs.Runs.{few_marks}
use Rattle.cjc_fixpoint.proofs.Walking.{read_row, row_own, kept_row, handed_row, after_mark, after_unmarked, inside}
use Rattle.cjc_fixpoint.proofs.Walking.{over}
use Rattle.cjc_fixpoint.proofs.walk.Walk.advance.Goals as goal

pub passed_on_copy-requires-clause-row : goal.passed_on_copy-requires-clause-row
passed_on_copy-requires-clause-row g c =
    let flow = g.F.Flow.meaning c.self.inside.flow.now in
    let walk = c.self.inside in
    let inv = c.self.invariant in
    let marks = walk.table.now.marks in
    let rows = walk.table.now.rows in
    let there : slice_get marks walk.mark ≡ Some walk.at = subst (λ (ms : List ℕ). slice_get ms walk.mark
    ≡ Some walk.at) c.items-marks.ensures (c.is_at.ensures.0 c.if-is_at.true) in
    let in_marks = slice_get_within marks walk.mark walk.at there in
    let lt = inside flow walk.places marks rows walk.at (rw (sym c.self.view_is) at c.requires) in
    let is_row = read_row _ rows walk.mark c.index-rows-mark.result c.items-rows.ensures (let sized = inv.stands.sized
    in omega (arith, sized, in_marks)) c.index-rows-mark.is in
    row_own flow walk.places marks rows inv.stands walk.at lt c.index-rows-mark.result (kept_row flow walk.places marks
    rows walk.at walk.mark walk.handed inv there ∙ sym is_row)

pub invariant_of-self : goal.invariant_of-self
invariant_of-self g c =
    let flow = g.F.Flow.meaning c.self.inside.flow.now in
    let walk = c.self.inside in
    let inv = c.self.invariant in
    let marks = walk.table.now.marks in
    let rows = walk.table.now.rows in
    over flow walk.places marks rows inv.stands (length c.items-marks.result.now) c.replace-row.new.dest
    (ap length c.items-marks.ensures)

pub overflow_add-self-then-is_at : goal.overflow_add-self-then-is_at
overflow_add-self-then-is_at g c =
    let walk = c.self.inside in
    let marks = walk.table.now.marks in
    let there : slice_get marks walk.mark ≡ Some walk.at = subst (λ (ms : List ℕ). slice_get ms walk.mark
    ≡ Some walk.at) c.items-marks.ensures (c.is_at.ensures.0 c.if-is_at.true) in
    let in_marks = slice_get_within marks walk.mark walk.at there in
    let few = few_marks walk.places marks c.self.invariant.stands.marked in
    let fits : Fits w32 c.self.inside.places = search rules in
    omega (arith, in_marks, few, fits)

pub invariant_of-self-in_ok-next : goal.invariant_of-self-in_ok-next
invariant_of-self-in_ok-next g c =
    let flow = g.F.Flow.meaning c.self.inside.flow.now in
    let walk = c.self.inside in
    let inv = c.self.invariant in
    let marks = walk.table.now.marks in
    let rows = walk.table.now.rows in
    let there : slice_get marks walk.mark ≡ Some walk.at = subst (λ (ms : List ℕ). slice_get ms walk.mark
    ≡ Some walk.at) c.items-marks.ensures (c.is_at.ensures.0 c.if-is_at.true) in
    let in_marks = slice_get_within marks walk.mark walk.at there in
    let lt = inside flow walk.places marks rows walk.at (rw (sym c.self.view_is) at c.requires) in
    let is_row = read_row _ rows walk.mark c.index-rows-mark.result c.items-rows.ensures (let sized = inv.stands.sized
    in omega (arith, sized, in_marks)) c.index-rows-mark.is in
    after_mark flow walk.places marks rows walk.at walk.mark walk.handed inv c.index-rows-mark.result c.in_ok-next.next
    lt there is_row (rw c.items-marks.ensures at c.in_ok-next.ensures)

pub invariant_of-self-in_ok-next-2 : goal.invariant_of-self-in_ok-next-2
invariant_of-self-in_ok-next-2 g c =
    let flow = g.F.Flow.meaning c.self.inside.flow.now in
    let walk = c.self.inside in
    let inv = c.self.invariant in
    let marks = walk.table.now.marks in
    let rows = walk.table.now.rows in
    let there : slice_get marks walk.mark ≡ Some walk.at = subst (λ (ms : List ℕ). slice_get ms walk.mark
    ≡ Some walk.at) c.items-marks.ensures (c.is_at.ensures.0 c.if-is_at.true) in
    let in_marks = slice_get_within marks walk.mark walk.at there in
    let lt = inside flow walk.places marks rows walk.at (rw (sym c.self.view_is) at c.requires) in
    let is_row = read_row _ rows walk.mark c.index-rows-mark.result c.items-rows.ensures (let sized = inv.stands.sized
    in omega (arith, sized, in_marks)) c.index-rows-mark.is in
    after_mark flow walk.places marks rows walk.at walk.mark walk.handed inv c.index-rows-mark.result c.in_ok-next.next
    lt there is_row (rw c.items-marks.ensures at c.in_ok-next.ensures)

pub passed_on-requires-clause-row : goal.passed_on-requires-clause-row
passed_on-requires-clause-row g c =
    let flow = g.F.Flow.meaning c.self.inside.flow.now in
    let walk = c.self.inside in
    let inv = c.self.invariant in
    let marks = walk.table.now.marks in
    let rows = walk.table.now.rows in
    let lt = inside flow walk.places marks rows walk.at (rw (sym c.self.view_is) at c.requires) in
    let is_row = c.replace-row.ensures.value in
    rw is_row (row_own flow walk.places marks rows inv.stands walk.at lt walk.handed (handed_row flow walk.places marks
    rows walk.at walk.mark walk.handed inv
    (λ there. let yes = c.is_at.ensures.1 (subst (λ (ms : List ℕ). slice_get ms walk.mark ≡ Some walk.at)
    (sym c.items-marks.ensures) there) in let no = c.if-is_at.false in cc) lt))

pub invariant_of-self-in_err-next-2 : goal.invariant_of-self-in_err-next-2
invariant_of-self-in_err-next-2 g c =
    let flow = g.F.Flow.meaning c.self.inside.flow.now in
    let walk = c.self.inside in
    let inv = c.self.invariant in
    let marks = walk.table.now.marks in
    let rows = walk.table.now.rows in
    over flow walk.places marks rows inv.stands (length c.items-marks.result.now) c.replace-row.new.dest
    (ap length c.items-marks.ensures)

pub invariant_of-self-else-is_at : goal.invariant_of-self-else-is_at
invariant_of-self-else-is_at g c =
    let flow = g.F.Flow.meaning c.self.inside.flow.now in
    let walk = c.self.inside in
    let inv = c.self.invariant in
    let marks = walk.table.now.marks in
    let rows = walk.table.now.rows in
    let lt = inside flow walk.places marks rows walk.at (rw (sym c.self.view_is) at c.requires) in
    after_unmarked flow walk.places marks rows walk.at walk.mark walk.handed inv c.in_ok-next-2.next lt
    (λ there. let yes = c.is_at.ensures.1 (subst (λ (ms : List ℕ). slice_get ms walk.mark ≡ Some walk.at)
    (sym c.items-marks.ensures) there) in let no = c.if-is_at.false in cc)
    (rw (c.items-marks.ensures, c.replace-row.ensures.value) at c.in_ok-next-2.ensures)
