use Rattle.std.proofs.Common.{◌≡◌, drop}
use Rattle.std.specs.List.{flat_map}
use Rattle.cjc_components.specs.LowerClassOrder.Supers.Working.Walk.{with_all}
use Rattle.cjc_classes.specs.ClassInfo.Refs.{ref_of}
use Rattle.cjc_classes.specs.TypeInfo.Working.Descs.{descs_at, nibbles_of_each}
use Rattle.cjc_classes.proofs.type_info.types.Met.put_classes.Given as goal

abbrev pub invariant-loop-number : goal.invariant-loop-number
invariant-loop-number l = with_all l.self (flat_map (nibbles_of_each (ref_of l.refs) (descs_at l.world))
    (drop l.number-index l.order)) ≡ with_all l.fn.self (flat_map (nibbles_of_each (ref_of l.refs) (descs_at l.world))
    l.order)
