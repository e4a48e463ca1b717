use Rattle.std.proofs.Common.{◌≡◌, drop}
use Rattle.std.specs.List.{list_all}
use Rattle.cjc_world.specs.Subtype.{starts}
use Rattle.cjc_types.proofs.rules.are_arrays.Given as goal

abbrev pub invariant-loop-name : goal.invariant-loop-name
invariant-loop-name l = list_all (starts 91) (drop l.name-index l.types) ≡ list_all (starts 91) l.types
