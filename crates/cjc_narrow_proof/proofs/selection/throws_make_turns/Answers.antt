use Rattle.cjc_narrow_proof.proofs.SelectionLaws.Tosses.{throw_turns}
use Rattle.cjc_narrow_proof.proofs.selection.throws_make_turns.Goals as goal

pub returns : goal.returns
returns c = throw_turns
