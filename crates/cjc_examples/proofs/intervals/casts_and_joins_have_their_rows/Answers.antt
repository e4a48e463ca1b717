use Rattle.std.proofs.Common.{refl}
use Rattle.cjc_code.specs.Range.Landmarks.{landmark_above, landmark_below}
use Rattle.cjc_examples.proofs.intervals.casts_and_joins_have_their_rows.Goals as goal

pub returns-clause-bytes : goal.returns-clause-bytes
unfolding landmark_above landmark_below
returns-clause-bytes c = refl

pub returns-clause-shorts : goal.returns-clause-shorts
unfolding landmark_above landmark_below
returns-clause-shorts c = refl

pub returns-clause-joins : goal.returns-clause-joins
unfolding landmark_above landmark_below
returns-clause-joins c = refl

pub returns-clause-rounded : goal.returns-clause-rounded
unfolding landmark_above landmark_below
returns-clause-rounded c = refl
