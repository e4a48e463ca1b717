use Rattle.cjc_export.proofs.Upwards.{all_found, found_is, each_own, stand_once}
use Rattle.cjc_export.proofs.lookup.supers.Goals as goal

pub returns-clause-found : goal.returns-clause-found
returns-clause-found c = λ classes names name. (
  found_is classes names name,
  λ p. all_found classes names name (p.1).0
      p.0 (p.1).1,
)

pub returns-clause-own : goal.returns-clause-own
returns-clause-own c = each_own

pub returns-clause-once : goal.returns-clause-once
returns-clause-once c = stand_once
