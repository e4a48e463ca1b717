use Rattle.std.proofs.Common.{refl}
use Rattle.cjc_examples.proofs.intervals.shifts_have_their_rows.Goals as goal

pub returns-clause-shifts_up : goal.returns-clause-shifts_up
returns-clause-shifts_up c = refl

pub returns-clause-shifts_down : goal.returns-clause-shifts_down
returns-clause-shifts_down c = refl

pub returns-clause-unsigned_shifts : goal.returns-clause-unsigned_shifts
returns-clause-unsigned_shifts c = refl
