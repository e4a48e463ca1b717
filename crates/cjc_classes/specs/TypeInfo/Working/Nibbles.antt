-- The nibbles of a descriptor by its parts.
use Rattle.std.specs.Prelude.{ℕ, List, ◌++◌, map, flat_map, if◌then◌else◌}
use Rattle.cjc_bytes.specs.Descriptor.{Parts}
use Rattle.cjc_components.specs.LowerCapRead.declared.tree.ClassRef.{ClassRef}
use Rattle.cjc_components.specs.LowerScript.Sorts.{result_by, signature_of, sort_of}
use Rattle.cjc_components.specs.Types.{nibbles_by, result_nibbles, sort_nibbles}

-- where class_refs are these
abbrev pub parts_nibbles : (ref : List ℕ → ClassRef) → Parts → List ℕ
parts_nibbles ref d =
    if d.is_method then flat_map (sort_nibbles ref) (map sort_of d.params) ++ result_nibbles ref (let r = d.result
    in result_by r.kind r)
    else sort_nibbles ref (sort_of d.result)

-- the nibbles of what a descriptor of a class file says, where class_refs are these
abbrev pub nibbles_in : (ref : List ℕ → ClassRef) → (desc : List ℕ) → List ℕ
nibbles_in ref desc = nibbles_by ref desc (signature_of desc)
