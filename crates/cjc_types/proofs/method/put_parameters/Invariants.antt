use Rattle.std.proofs.Common.{◌≡◌, ◌++◌, map, take}
use Rattle.cjc_types.specs.Types.{value_of}
use Rattle.cjc_types.proofs.method.put_parameters.Given as goal

abbrev pub invariant-loop-i : goal.invariant-loop-i
invariant-loop-i l = l.cells ≡ l.initial.cells ++ map value_of (take l.i l.parsed.params)
