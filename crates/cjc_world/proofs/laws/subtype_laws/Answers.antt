use Rattle.cjc_world.proofs.Cycles.{stands_where_above}
use Rattle.cjc_world.proofs.Subtypes.{reflexive, transitive}
use Rattle.cjc_world.proofs.laws.subtype_laws.Goals as goal

pub returns-clause-stands : goal.returns-clause-stands
returns-clause-stands c = stands_where_above

pub returns-clause-reflexive : goal.returns-clause-reflexive
returns-clause-reflexive c = reflexive

pub returns-clause-transitive : goal.returns-clause-transitive
returns-clause-transitive c = transitive
