use Rattle.std.proofs.Common.{◌≡◌, take}
use Rattle.cjc_table_trials.specs.Names.{union}
use Rattle.cjc_table_trials.proofs.names.either.Given as goal

abbrev pub invariant-loop-name : goal.invariant-loop-name
invariant-loop-name l = l.set ≡ union (take l.name-index l.names) l.xs l.ys
