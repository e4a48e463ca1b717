use Rattle.cjc_types.specs.Working.MarkLaws.{marks_are, marks_meet}
use Rattle.cjc_types.specs.Working.RepeatLaws.{repeats_are}
use Rattle.cjc_types.proofs.laws.mark_laws.Goals as goal

pub returns-clause-marks : goal.returns-clause-marks
returns-clause-marks c = marks_are

pub returns-clause-meet : goal.returns-clause-meet
returns-clause-meet c = marks_meet

pub returns-clause-repeats : goal.returns-clause-repeats
returns-clause-repeats c = λ b bounds cover. repeats_are b bounds cover
