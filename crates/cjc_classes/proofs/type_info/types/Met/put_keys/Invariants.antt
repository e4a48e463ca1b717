use Rattle.std.proofs.Common.{◌≡◌, drop}
use Rattle.std.specs.List.{flat_map}
use Rattle.cjc_components.specs.LowerClassOrder.Supers.Working.Walk.{with_all}
use Rattle.cjc_components.specs.Types.{desc_of_key}
use Rattle.cjc_classes.specs.ClassInfo.Refs.{ref_of}
use Rattle.cjc_classes.specs.TypeInfo.Working.Descs.{nibbles_of_each}
use Rattle.cjc_classes.proofs.type_info.types.Met.put_keys.Given as goal

abbrev pub invariant-loop-key : goal.invariant-loop-key
invariant-loop-key l = with_all l.self (flat_map (nibbles_of_each (ref_of l.refs) desc_of_key)
    (drop l.key-index l.keys)) ≡ with_all l.fn.self (flat_map (nibbles_of_each (ref_of l.refs) desc_of_key) l.keys)
