use Rattle.std.proofs.Common.{◌≡◌, drop}
use Rattle.std.specs.List.{list_all}
use Rattle.cjc_intervals.specs.Values.{is_boolean_array}
use Rattle.cjc_flow.proofs.values.are_booleans.Given as goal

abbrev pub invariant-loop-name : goal.invariant-loop-name
invariant-loop-name l = list_all is_boolean_array (drop l.name-index l.types) ≡ list_all is_boolean_array l.types
