use Rattle.cjc_verify_proof.proofs.FrameLaws.{tossed, raised}
use Rattle.cjc_verify_proof.proofs.frames.exceptions_are_caught.Goals as goal

pub returns-clause-thrown : goal.returns-clause-thrown
returns-clause-thrown c l program all s t among f outer = tossed l program all s t among f outer

pub returns-clause-raised : goal.returns-clause-raised
returns-clause-raised c l program all s t among f outer = raised l program all s t among f outer
