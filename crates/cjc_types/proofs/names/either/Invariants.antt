use Rattle.std.proofs.Common.{◌≡◌, drop}
use Rattle.cjc_types.specs.Names.{union}
use Rattle.cjc_types.proofs.names.either.Given as goal

abbrev pub invariant-loop-name : goal.invariant-loop-name
invariant-loop-name l = union (drop l.name-index l.left) l.set.items ≡ union l.left l.right
