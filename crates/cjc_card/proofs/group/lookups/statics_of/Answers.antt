use Rattle.std.proofs.Common.{ap}
use Rattle.std.specs.Prelude.{option_map}
use Rattle.cjc_card.proofs.group.lookups.statics_of.Goals as goal

pub returns-in-Some : goal.returns-in-Some
returns-in-Some c = ap (option_map (λ q. q.statics)) c.in-Some.ensures.1

pub returns-in-None : goal.returns-in-None
returns-in-None c = ap (option_map (λ q. q.statics)) c.in-None.ensures
