-- The components StaticField and ReferenceLocation as bytes (Java Card Virtual Machine Specification 2.2.2,
-- sections 6.10 and 6.11): what the writer is proved to write.
use Rattle.std.specs.Prelude.{ℕ, List, [], ◌∷◌, ◌++◌, length}
use Rattle.std.specs.List.{flat_map}
use Rattle.cjc_capread.specs.declared.tree.StaticField.{StaticField}
use Rattle.cjc_capread.specs.declared.tree.ArrayInit.{ArrayInit}
use Rattle.cjc_capread.specs.declared.tree.ReferenceLocation.{ReferenceLocation}
use Rattle.cjc_capwrite.specs.Parts.{two, bytes2}

-- an array: the type of an element and the bytes of all (section 6.10)
unfoldable pub array_init_bytes : ArrayInit → List ℕ
array_init_bytes x = x.type_ ∷ [] ++ bytes2 x.values

-- the info of StaticField: sizes and counts, the arrays, the primitives that are not 0 (section 6.10)
unfoldable pub static_field_bytes : StaticField → List ℕ
static_field_bytes x = two x.image_size ++ (two x.reference_count ++ (two (length x.array_inits)
    ++ (flat_map array_init_bytes x.array_inits ++ (two x.default_value_count ++ bytes2 x.values))))

-- the info of ReferenceLocation: the distances of one-byte indices and of two-byte ones (section 6.11)
unfoldable pub reference_location_bytes : ReferenceLocation → List ℕ
reference_location_bytes x = bytes2 x.one_byte ++ bytes2 x.two_byte
