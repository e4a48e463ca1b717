use Rattle.std.proofs.Common.{◌≡◌, ◌++◌, false, drop}
use Rattle.cjc_narrow.specs.Pairs.Roles.{roles_from}
use Rattle.cjc_narrow.proofs.select.pairs.roles_by.Given as goal

abbrev pub invariant-loop-k : goal.invariant-loop-k
invariant-loop-k l = l.row ++ roles_from l.opened (drop l.k l.steps) ≡ roles_from false l.steps
