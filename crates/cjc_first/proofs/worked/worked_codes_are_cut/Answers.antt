use Rattle.std.proofs.Common.{refl}
use Rattle.cjc_capread.specs.Opcodes.{forms, form}
use Rattle.cjc_first.proofs.worked.worked_codes_are_cut.Goals as goal

pub returns-clause-starts : goal.returns-clause-starts
unfolding forms form
returns-clause-starts c = refl

pub returns-clause-jumps : goal.returns-clause-jumps
unfolding forms form
returns-clause-jumps c = refl

pub returns-clause-table : goal.returns-clause-table
unfolding forms form
returns-clause-table c = refl

pub returns-clause-falling : goal.returns-clause-falling
unfolding forms form
returns-clause-falling c = refl

pub returns-clause-crossed : goal.returns-clause-crossed
unfolding forms form
returns-clause-crossed c = refl

pub returns-clause-cut_short : goal.returns-clause-cut_short
unfolding forms form
returns-clause-cut_short c = refl
