-- Which types the card has values of, by the parts of a descriptor.
use Rattle.std.specs.Prelude.{◌&&◌, Bool, if◌then◌else◌}
use Rattle.std.specs.List.{list_all}
use Rattle.cjc_bytes.specs.Descriptor.{Part, Parts}
use Rattle.cjc_card_acts.specs.Script.Sorts.{result_by, sort_of}
use Rattle.cjc_verify.specs.Pairs.{is_card_result, is_card_sort}

-- all types of a method, or a field's type
abbrev pub is_card_parts : Parts → Bool
is_card_parts d =
    if d.is_method then list_all (λ (x : Part). is_card_sort (sort_of x)) d.params && is_card_result (let r = d.result
    in result_by r.kind r)
    else is_card_sort (sort_of d.result)
