use Rattle.std.proofs.Common.{◌≡◌, take}
use Rattle.cjc_tests_rules.specs.Flows.Names.{union}
use Rattle.cjc_tests_rules.proofs.flows.either.Given as goal

abbrev pub invariant-loop-name : goal.invariant-loop-name
invariant-loop-name l = l.set ≡ union (take l.name-index l.names) l.xs l.ys
