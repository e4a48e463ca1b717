use Rattle.std.proofs.Common.{◌≡◌, map, take}
use Rattle.cjc_narrow.specs.Types.Rules.{is_reference}
use Rattle.cjc_int_narrow.proofs.known.references_of.Given as goal

abbrev pub invariant-loop-k : goal.invariant-loop-k
invariant-loop-k l = l.row ≡ map is_reference (take l.k l.stack)
