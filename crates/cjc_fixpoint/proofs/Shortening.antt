-- Shortened segments have the same closed tables.
use Rattle.std.proofs.Common.{◌≡◌, ℕ, Bool, List, Option, Some, slice_get, length, Contains}
use Rattle.cjc_fixpoint.specs.declared.flow.Edge.{Edge}
use Rattle.cjc_fixpoint.specs.Dataflow.{Dataflow, IsLawful, StaysWithin}
use Rattle.cjc_fixpoint.specs.Tables.{HasRow, Covers, IsBelow, IsClosed, IsLeastClosed}
use Rattle.cjc_fixpoint.specs.Kept.{AreMarks, MeetsAt, StandsForLeast}
use Rattle.cjc_fixpoint.specs.Segments.{segments}
use Rattle.cjc_fixpoint.specs.Gathered.{gathering}
use Rattle.cjc_fixpoint.specs.Shortened.{AreRepeats, shortened}
use Rattle.cjc_fixpoint.specs.Working.ShortenedLaws.{short_from, short_to, shortened_laws, shortened_stays}
use Rattle.cjc_fixpoint.proofs.Filled.{stands}
use Rattle.cjc_fixpoint.proofs.Gathering.{gathered_least}

module _ {S : Type 0} (flow : Dataflow S) (laws : IsLawful flow) (places : ℕ) (marks : List ℕ) (again : ℕ
    → Bool) (repeats : AreRepeats flow again) where
  pub closed_from_short : (n : ℕ) (rows : List (Option S)) → IsClosed (shortened flow places marks again) n rows
      → IsClosed (segments flow places marks) n rows
  closed_from_short n rows closed = record {
    sized = closed.sized;
    own = closed.own;
    entry = λ some. let c = closed.entry some in record { row = c.row; is_row = c.is_row; above = c.above };
    steps = λ k x has e is.
        let c = closed.steps k x has e (short_to flow laws places marks again repeats k x (closed.own k x has) e is) in
        record { row = c.row; is_row = c.is_row; above = c.above };
  }

  pub closed_to_short : (n : ℕ) (rows : List (Option S)) → IsClosed (segments flow places marks) n rows
      → IsClosed (shortened flow places marks again) n rows
  closed_to_short n rows closed = record {
    sized = closed.sized;
    own = closed.own;
    entry = λ some. let c = closed.entry some in record { row = c.row; is_row = c.is_row; above = c.above };
    steps = λ k x has e is.
        let c = closed.steps k x has e (short_from flow places marks again k x e is) in
        record { row = c.row; is_row = c.is_row; above = c.above };
  }

  pub short_least : (n : ℕ) (rows : List (Option S)) → IsLeastClosed (shortened flow places marks again) n rows
      → IsLeastClosed (segments flow places marks) n rows
  short_least n rows solved = record {
    closed = closed_from_short n rows solved.closed;
    least = λ others closed k x has.
        let c = solved.least others (closed_to_short n others closed) k x has in
        record { row = c.row; is_row = c.is_row; above = c.above };
  }

  -- both: the rows that are least over gathered edges of shortened segments stand for the least closed table
  pub short_stands : (rows : List (Option S)) → AreMarks places marks → StaysWithin flow places
      → MeetsAt flow places marks
      → IsLeastClosed (gathering (shortened flow places marks again) (length marks)) (length marks) rows
      → StandsForLeast flow places marks rows
  short_stands rows are stays meets solved =
      stands flow laws places marks rows are stays meets
      (short_least (length marks) rows (gathered_least (shortened flow places marks again) (shortened_laws flow laws
      places marks again repeats) (length marks) rows (shortened_stays flow places marks again) solved))
