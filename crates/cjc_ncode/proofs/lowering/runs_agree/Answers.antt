use Rattle.cjc_ncode.specs.Lowering.Agreement.{known_by, IsKnownCall}
use Rattle.cjc_ncode.proofs.LoweringLaws.Running.{as_by_label}
use Rattle.cjc_ncode.proofs.lowering.runs_agree.Goals as goal

pub returns : goal.returns
returns c = λ n part placed memories l methods known. as_by_label n part placed memories l methods (known_by known)
    (IsKnownCall known)
