use Rattle.cjc_lower.specs.Agreement.{known_by, IsKnownCall}
use Rattle.cjc_lower.proofs.Running.{as_by_label}
use Rattle.cjc_lower.proofs.runs_agree.Goals as goal

pub returns : goal.returns
returns c = λ n part placed memories l methods known. as_by_label n part placed memories l methods (known_by known) (IsKnownCall known)
