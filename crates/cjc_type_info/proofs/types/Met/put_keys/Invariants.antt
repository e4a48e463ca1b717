use Rattle.std.proofs.Common.{◌≡◌, drop}
use Rattle.std.specs.List.{flat_map}
use Rattle.cjc_supers.specs.Working.Walk.{with_all}
use Rattle.cjc_components.specs.Types.{desc_of_key}
use Rattle.cjc_class_info.specs.Refs.{ref_of}
use Rattle.cjc_type_info.specs.Working.Descs.{nibbles_of_each}
use Rattle.cjc_type_info.proofs.types.Met.put_keys.Given as goal

abbrev pub invariant-loop-key : goal.invariant-loop-key
invariant-loop-key l = with_all l.self (flat_map (nibbles_of_each (ref_of l.refs) desc_of_key) (drop l.key-index l.keys)) ≡ with_all l.fn.self (flat_map (nibbles_of_each (ref_of l.refs) desc_of_key) l.keys)
