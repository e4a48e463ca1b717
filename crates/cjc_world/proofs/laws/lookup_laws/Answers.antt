use Rattle.cjc_world.proofs.Settled.{supertypes-AreSupertypes, AreSupertypes-one}
use Rattle.cjc_world.proofs.Unbroken.{unbroken_is_acyclic}
use Rattle.cjc_world.proofs.Upwards.{line_goes_up, selection_goes_up, lookup_goes_up}
use Rattle.cjc_world.proofs.laws.lookup_laws.Goals as goal

pub returns-clause-acyclic : goal.returns-clause-acyclic
returns-clause-acyclic c = unbroken_is_acyclic

pub returns-clause-are_supertypes : goal.returns-clause-are_supertypes
returns-clause-are_supertypes c = supertypes-AreSupertypes

pub returns-clause-one_supertypes : goal.returns-clause-one_supertypes
returns-clause-one_supertypes c = AreSupertypes-one

pub returns-clause-line : goal.returns-clause-line
returns-clause-line c = line_goes_up

pub returns-clause-selection : goal.returns-clause-selection
returns-clause-selection c = selection_goes_up

pub returns-clause-lookup : goal.returns-clause-lookup
returns-clause-lookup c = lookup_goes_up
