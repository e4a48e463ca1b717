use Rattle.std.proofs.Common.{◌≡◌, drop}
use Rattle.std.specs.List.{flat_map}
use Rattle.cjc_components.specs.LowerClassOrder.Supers.Working.Walk.{with_all}
use Rattle.cjc_classes.specs.ClassInfo.Refs.{ref_of}
use Rattle.cjc_classes.specs.TypeInfo.Working.Descs.{desc_of_added, nibbles_of_each}
use Rattle.cjc_classes.proofs.type_info.types.Met.put_added.Given as goal

abbrev pub invariant-loop-method : goal.invariant-loop-method
invariant-loop-method l = with_all l.self (flat_map (nibbles_of_each (ref_of l.refs) desc_of_added)
    (drop l.method-index l.added)) ≡ with_all l.fn.self (flat_map (nibbles_of_each (ref_of l.refs) desc_of_added)
    l.added)
