use Rattle.std.proofs.Common.{◌≡◌, [], ◌∷◌, take, map, filter, nat_lt}
use Rattle.cjc_tests_rules.specs.Flows.Names.{union, edge}
use Rattle.cjc_tests_rules.proofs.flows.edges_to.Given as goal

abbrev pub invariant-loop-to : goal.invariant-loop-to
invariant-loop-to l = l.edges ≡ map (edge (union l.names (l.name ∷ []) l.set)) (filter (λ to. nat_lt to l.places)
    (take l.to-index l.targets))
