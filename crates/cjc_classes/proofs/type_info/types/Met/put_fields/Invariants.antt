use Rattle.std.proofs.Common.{◌≡◌, drop}
use Rattle.std.specs.List.{flat_map}
use Rattle.cjc_components.specs.LowerClassOrder.Supers.Working.Walk.{with_all}
use Rattle.cjc_components.specs.Types.{desc_of_field}
use Rattle.cjc_classes.specs.ClassInfo.Refs.{ref_of}
use Rattle.cjc_classes.specs.TypeInfo.Working.Descs.{nibbles_of_each}
use Rattle.cjc_classes.proofs.type_info.types.Met.put_fields.Given as goal

abbrev pub invariant-loop-field : goal.invariant-loop-field
invariant-loop-field l = with_all l.self (flat_map (nibbles_of_each (ref_of l.refs) desc_of_field)
    (drop l.field-index l.fields)) ≡ with_all l.fn.self (flat_map (nibbles_of_each (ref_of l.refs) desc_of_field)
    l.fields)
