use Rattle.std.proofs.Common.{ℕ, List, length, sym, ◌∙◌, subst, arith}
use Rattle.cjc_fixpoint.specs.Tables.{IsLeastClosed}
use Rattle.cjc_fixpoint.specs.Kept.{StandsForLeast}
use Rattle.cjc_fixpoint.specs.Shortened.{shortened}
use Rattle.cjc_fixpoint.specs.Gathered.{gathering}
use Rattle.cjc_fixpoint.specs.Working.GatheredLaws.{gathering_stays}
use Rattle.cjc_fixpoint.proofs.Shortening.{short_stands}
use Rattle.cjc_fixpoint.proofs.Runs.{few_marks}
use Rattle.cjc_fixpoint.proofs.table.solve.Goals as goal

pub overflow_cast-items : goal.overflow_cast-items
overflow_cast-items g c =
    let few = few_marks c.args.places c.args.marks.now c.requires.marks in
    let fits = c.ranges.places.fits in
    rw c.items-items.ensures (omega (arith, few, fits))

pub solve-requires : goal.solve-requires
solve-requires g c = gathering_stays (shortened (g.F.Flow.meaning c.args.flow.now) c.args.places
    c.items-items.result.now (g.F.Repeating.again c.args.flow.now)) (length c.items-items.result.now)

pub returns-clause-stands : goal.returns-clause-stands
returns-clause-stands g c =
    let flow = g.F.Flow.meaning c.args.flow.now in
    let again = g.F.Repeating.again c.args.flow.now in
    let places = c.args.places in
    let rows = c.in_ok-rows.rows in
    let is_items = c.items-items.ensures in
    let is_marks = c.of.ensures ∙ c.in_ok-from_slice.ensures.items ∙ is_items in
    let solved : IsLeastClosed (gathering (shortened flow places c.args.marks.now again) (length c.args.marks.now))
    (length c.args.marks.now) rows =
    subst (λ (marks : List ℕ). IsLeastClosed (gathering (shortened flow places marks again) (length marks))
    (length marks) rows) is_items c.in_ok-rows.ensures in
    subst (λ (marks : List ℕ). StandsForLeast flow places marks rows) (sym is_marks)
    (short_stands flow (g.met.F.Flow.laws c.args.flow.now) places c.args.marks.now again (g.met.F.Repeating.repeated
    c.args.flow.now) rows c.requires.marks c.requires.stays c.requires.meets solved)
