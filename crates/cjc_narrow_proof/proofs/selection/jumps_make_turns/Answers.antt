use Rattle.cjc_narrow_proof.proofs.SelectionLaws.Paths.{jump_turns, silent_turns, two_turns, turns_are}
use Rattle.cjc_narrow_proof.proofs.selection.jumps_make_turns.Goals as goal

pub returns-clause-jumps : goal.returns-clause-jumps
returns-clause-jumps c = jump_turns

pub returns-clause-silent : goal.returns-clause-silent
returns-clause-silent c = silent_turns

pub returns-clause-two : goal.returns-clause-two
returns-clause-two c = two_turns

pub returns-clause-other : goal.returns-clause-other
returns-clause-other c = turns_are
