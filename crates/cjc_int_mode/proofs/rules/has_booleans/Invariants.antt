use Rattle.std.proofs.Common.{◌≡◌, drop}
use Rattle.std.specs.List.{list_any}
use Rattle.cjc_flow.specs.Intervals.Values.{is_boolean_array}
use Rattle.cjc_int_mode.proofs.rules.has_booleans.Given as goal

abbrev pub invariant-loop-name : goal.invariant-loop-name
invariant-loop-name l = list_any is_boolean_array (drop l.name-index l.types) ≡ list_any is_boolean_array l.types
