-- Gathered edges have the same closed tables.
use Rattle.std.proofs.Common.{◌≡◌, ◌<◌, ℕ, List, Option, Some, None, slice_get, length, Contains, refl, sym, ◌∙◌, ap}
use Rattle.std.proofs.Common.{subst, arith}
use Rattle.std.proofs.lemmas.Option.{slice_get_within}
use Rattle.cjc_fixpoint.specs.declared.flow.Edge.{Edge}
use Rattle.cjc_fixpoint.specs.Dataflow.{Dataflow, IsLawful, StaysWithin}
use Rattle.cjc_fixpoint.specs.Tables.{HasRow, Covers, IsBelow, IsClosed, IsLeastClosed}
use Rattle.cjc_fixpoint.specs.Kept.{handed, AreMarks, MeetsAt, StandsForLeast}
use Rattle.cjc_fixpoint.specs.Segments.{mark_edge, segments}
use Rattle.cjc_fixpoint.specs.Working.SegmentLaws.{segments_laws, segments_stay}
use Rattle.cjc_fixpoint.specs.Gathered.{gathered, gathering}
use Rattle.cjc_fixpoint.specs.Working.HandedLaws.{OwnMaybe, AboveMaybe, handed_own, handed_in, handed_least}
use Rattle.cjc_fixpoint.specs.Working.HandedLaws.{handed_some}
use Rattle.cjc_fixpoint.specs.Working.GatheredLaws.{gathered_from, gathered_to}
use Rattle.cjc_fixpoint.proofs.Steps.{row_same}
use Rattle.cjc_fixpoint.proofs.Filled.{stands}

module _ {S : Type 0} (flow : Dataflow S) (laws : IsLawful flow) (places : ℕ) (rows : List (Option S)) where
  -- a table that covers the gathered edges covers each edge
  pub closed_from_gathered : StaysWithin flow places → IsClosed (gathering flow places) places rows
      → IsClosed flow places rows
  closed_from_gathered stays closed = record {
    sized = closed.sized;
    own = closed.own;
    entry = λ some. let c = closed.entry some in record { row = c.row; is_row = c.is_row; above = c.above };
    steps = λ at x has e is.
        let own = closed.own at x has in
        let es = flow.edges at x in
        let own_es = laws.own_edges at x own in
        let sized = closed.sized in
        let lt = slice_get_within rows at (Some x) has in
        let inside = stays at x (omega (arith, sized, lt)) own e is in
        let top = handed_in flow laws e.to es own_es e is refl in
        let own_top : OwnMaybe flow (Some top.state) = subst (λ (o : Option S). OwnMaybe flow o) top.is
        (handed_own flow laws e.to es own_es) in
        let c = closed.steps at x has (mark_edge top.state e.to) (gathered_to flow places es e.to top.state inside
        top.is) in
        record {
          row = c.row;
          is_row = c.is_row;
          above = laws.transitive e.state top.state c.row (own_es e is) own_top
              (closed.own e.to c.row c.is_row) top.above c.above;
        };
  }

  -- and the other way round
  pub closed_to_gathered : IsClosed flow places rows → IsClosed (gathering flow places) places rows
  closed_to_gathered closed = record {
    sized = closed.sized;
    own = closed.own;
    entry = λ some. let c = closed.entry some in record { row = c.row; is_row = c.is_row; above = c.above };
    steps = λ at x has f is.
        let es = flow.edges at x in
        let own_es = laws.own_edges at x (closed.own at x has) in
        let from = gathered_from flow places es f is in
        let source = handed_some flow f.to es f.state from.is in
        let up = closed.steps at x has source.0 source.1 in
        let there : HasRow rows f.to up.row = subst (λ (i : ℕ). HasRow rows i up.row) source.2 up.is_row in
        let above : AboveMaybe flow (Some f.state) up.row = subst (λ (o : Option S). AboveMaybe flow o up.row) from.is
        (handed_least flow laws f.to es up.row (closed.own f.to up.row there) own_es (λ e has_e to.
        let c = closed.steps at x has e has_e in
        subst (λ (v : S). flow.Below e.state v) (row_same rows f.to c.row up.row (subst (λ (i : ℕ). HasRow rows i c.row)
        to c.is_row) there) c.above)) in
        record { row = up.row; is_row = there; above = above };
  }

-- the least closed table over gathered edges is the least closed table
pub gathered_least : {S : Type 0} (flow : Dataflow S) → IsLawful flow → (places : ℕ) (rows : List (Option S))
    → StaysWithin flow places → IsLeastClosed (gathering flow places) places rows → IsLeastClosed flow places rows
gathered_least flow laws places rows stays solved = record {
  closed = closed_from_gathered flow laws places rows stays solved.closed;
  least = λ others closed at x has.
      let c = solved.least others (closed_to_gathered flow laws places others closed) at x has in
      record { row = c.row; is_row = c.is_row; above = c.above };
}

-- the rows that are least over gathered segments stand for the least closed table
pub gathered_stands : {S : Type 0} (flow : Dataflow S) → IsLawful flow
    → (places : ℕ) (marks : List ℕ) (rows : List (Option S)) → AreMarks places marks → StaysWithin flow places
    → MeetsAt flow places marks
    → IsLeastClosed (gathering (segments flow places marks) (length marks)) (length marks) rows
    → StandsForLeast flow places marks rows
gathered_stands flow laws places marks rows are stays meets solved =
    stands flow laws places marks rows are stays meets (gathered_least (segments flow places marks)
    (segments_laws flow laws places marks) (length marks) rows (segments_stay flow places marks) solved)
