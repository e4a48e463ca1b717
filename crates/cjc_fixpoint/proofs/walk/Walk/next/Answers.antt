use Rattle.std.proofs.Common.{rules, Fits, w32, ◌≡◌, ◌<◌, ℕ, List, Some, slice_get, refl, sym, ◌∙◌, subst, arith}
use Rattle.std.proofs.lemmas.Option.{slice_get_within}
use Rattle.cjc_fixpoint.proofs.Runs.{few_marks}
use Rattle.cjc_fixpoint.proofs.Walking.{read_row, row_own, kept_row, handed_row, after_mark, after_unmarked, given}
use Rattle.cjc_fixpoint.proofs.walk.Walk.next.Goals as goal

pub passed_on_copy-requires-clause-row : goal.passed_on_copy-requires-clause-row
passed_on_copy-requires-clause-row g c =
    let flow = g.F.Flow.meaning c.self.inside.flow.now in
    let walk = c.self.inside in
    let inv = c.self.invariant in
    let marks = walk.table.now.marks in
    let rows = walk.table.now.rows in
    let there : slice_get marks walk.mark ≡ Some walk.at = subst (λ (ms : List ℕ). slice_get ms walk.mark
    ≡ Some walk.at) c.items-marks.ensures (c.is_at.ensures.0 c.if-is_at.true) in
    let lt : walk.at < walk.places = let within = inv.within in let other = c.if-at-self.false
    in omega (arith, within, other) in
    let in_marks = slice_get_within marks walk.mark walk.at there in
    let is_row = c.in_ok-row.ensures ∙ read_row _ rows walk.mark c.index-items-self.result c.items.ensures
    (let sized = inv.stands.sized in omega (arith, sized, in_marks)) c.index-items-self.is in
    row_own flow walk.places marks rows inv.stands walk.at lt c.in_ok-row.row (kept_row flow walk.places marks rows
    walk.at walk.mark walk.handed inv there ∙ sym is_row)

pub overflow_add-self-then-is_at : goal.overflow_add-self-then-is_at
overflow_add-self-then-is_at g c =
    let walk = c.self.inside in
    let marks = walk.table.now.marks in
    let there : slice_get marks walk.mark ≡ Some walk.at = subst (λ (ms : List ℕ). slice_get ms walk.mark
    ≡ Some walk.at) c.items-marks.ensures (c.is_at.ensures.0 c.if-is_at.true) in
    let in_marks = slice_get_within marks walk.mark walk.at there in
    let few = few_marks walk.places marks c.self.invariant.stands.marked in
    let fits : Fits w32 c.self.inside.places = search rules in
    omega (arith, in_marks, few, fits)

pub invariant_of-self : goal.invariant_of-self
invariant_of-self g c =
    let flow = g.F.Flow.meaning c.self.inside.flow.now in
    let walk = c.self.inside in
    let inv = c.self.invariant in
    let marks = walk.table.now.marks in
    let rows = walk.table.now.rows in
    let there : slice_get marks walk.mark ≡ Some walk.at = subst (λ (ms : List ℕ). slice_get ms walk.mark
    ≡ Some walk.at) c.items-marks.ensures (c.is_at.ensures.0 c.if-is_at.true) in
    let lt : walk.at < walk.places = let within = inv.within in let other = c.if-at-self.false
    in omega (arith, within, other) in
    let in_marks = slice_get_within marks walk.mark walk.at there in
    let is_row = c.in_ok-row.ensures ∙ read_row _ rows walk.mark c.index-items-self.result c.items.ensures
    (let sized = inv.stands.sized in omega (arith, sized, in_marks)) c.index-items-self.is in
    after_mark flow walk.places marks rows walk.at walk.mark walk.handed inv c.in_ok-row.row c.in_ok-handed.handed lt
    there is_row (rw c.items-marks.ensures at c.in_ok-handed.ensures)

pub passed_on_copy-requires-else-is_at-clause-row : goal.passed_on_copy-requires-else-is_at-clause-row
passed_on_copy-requires-else-is_at-clause-row g c =
    let flow = g.F.Flow.meaning c.self.inside.flow.now in
    let walk = c.self.inside in
    let inv = c.self.invariant in
    let marks = walk.table.now.marks in
    let lt : walk.at < walk.places = let within = inv.within in let other = c.if-at-self.false
    in omega (arith, within, other) in
    row_own flow walk.places marks walk.table.now.rows inv.stands walk.at lt walk.handed (handed_row flow walk.places
    marks walk.table.now.rows walk.at walk.mark walk.handed inv
    (λ there. let yes = c.is_at.ensures.1 (subst (λ (ms : List ℕ). slice_get ms walk.mark ≡ Some walk.at)
    (sym c.items-marks.ensures) there) in let no = c.if-is_at.false in cc) lt)

pub invariant_of-self-else-is_at : goal.invariant_of-self-else-is_at
invariant_of-self-else-is_at g c =
    let flow = g.F.Flow.meaning c.self.inside.flow.now in
    let walk = c.self.inside in
    let inv = c.self.invariant in
    let marks = walk.table.now.marks in
    let lt : walk.at < walk.places = let within = inv.within in let other = c.if-at-self.false
    in omega (arith, within, other) in
    rw c.replace-row.ensures.after (after_unmarked flow walk.places marks walk.table.now.rows walk.at walk.mark
    walk.handed inv c.in_ok-handed-2.handed lt
    (λ there. let yes = c.is_at.ensures.1 (subst (λ (ms : List ℕ). slice_get ms walk.mark ≡ Some walk.at)
    (sym c.items-marks.ensures) there) in let no = c.if-is_at.false in cc)
    (rw c.items-marks.ensures at c.in_ok-handed-2.ensures))

pub returns-in_ok-handed-clause-given : goal.returns-in_ok-handed-clause-given
returns-in_ok-handed-clause-given g c =
    let flow = g.F.Flow.meaning c.self.inside.flow.now in
    let walk = c.self.inside in
    let inv = c.self.invariant in
    let marks = walk.table.now.marks in
    let rows = walk.table.now.rows in
    let there : slice_get marks walk.mark ≡ Some walk.at = subst (λ (ms : List ℕ). slice_get ms walk.mark
    ≡ Some walk.at) c.items-marks.ensures (c.is_at.ensures.0 c.if-is_at.true) in
    let lt : walk.at < walk.places = let within = inv.within in let other = c.if-at-self.false
    in omega (arith, within, other) in
    let in_marks = slice_get_within marks walk.mark walk.at there in
    let is_row = c.in_ok-row.ensures ∙ read_row _ rows walk.mark c.index-items-self.result c.items.ensures
    (let sized = inv.stands.sized in omega (arith, sized, in_marks)) c.index-items-self.is in
    rw (← c.self.view_is) (record {
      is_place = refl;
      is_row = given flow walk.places marks rows walk.at walk.mark walk.handed inv c.in_ok-row.row lt (is_row
          ∙ sym (kept_row flow walk.places marks rows walk.at walk.mark walk.handed inv there));
      goes_on = refl;
    })

pub returns-in_ok-handed-2-clause-given : goal.returns-in_ok-handed-2-clause-given
returns-in_ok-handed-2-clause-given g c =
    let flow = g.F.Flow.meaning c.self.inside.flow.now in
    let walk = c.self.inside in
    let inv = c.self.invariant in
    let marks = walk.table.now.marks in
    let rows = walk.table.now.rows in
    let lt : walk.at < walk.places = let within = inv.within in let other = c.if-at-self.false
    in omega (arith, within, other) in
    rw (← c.self.view_is) (record {
      is_place = refl;
      is_row = given flow walk.places marks rows walk.at walk.mark walk.handed inv c.replace-row.result lt
          (c.replace-row.ensures.value ∙ sym (handed_row flow walk.places marks rows walk.at walk.mark walk.handed inv
          (λ there. let yes = c.is_at.ensures.1 (subst (λ (ms : List ℕ). slice_get ms walk.mark ≡ Some walk.at)
          (sym c.items-marks.ensures) there) in let no = c.if-is_at.false in cc) lt));
      goes_on = refl;
    })
