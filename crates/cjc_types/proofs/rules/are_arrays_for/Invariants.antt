use Rattle.std.proofs.Common.{◌≡◌, drop}
use Rattle.std.specs.List.{list_all}
use Rattle.cjc_types.specs.Rules.{is_array_for}
use Rattle.cjc_types.proofs.rules.are_arrays_for.Given as goal

abbrev pub invariant-loop-name : goal.invariant-loop-name
invariant-loop-name l = list_all (is_array_for l.opcode) (drop l.name-index l.types) ≡ list_all (is_array_for l.opcode)
    l.types
