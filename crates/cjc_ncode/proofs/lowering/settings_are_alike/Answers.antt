use Rattle.cjc_ncode.specs.Lowering.Agreement.{known_by, IsKnownCall}
use Rattle.cjc_ncode.proofs.LoweringLaws.Agreeing.{settings_alike, package_runs_agree}
use Rattle.cjc_ncode.proofs.lowering.settings_are_alike.Goals as goal

pub returns-clause-alike : goal.returns-clause-alike
returns-clause-alike c = λ n part placed memories l methods known. settings_alike n part placed memories l methods
    (known_by known) (IsKnownCall known)

pub returns-clause-runs : goal.returns-clause-runs
returns-clause-runs c = λ n part placed memories l methods known. package_runs_agree n part placed memories l methods
    (known_by known) (IsKnownCall known)
