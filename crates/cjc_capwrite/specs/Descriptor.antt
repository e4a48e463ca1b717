-- The component Descriptor as bytes (Java Card Virtual Machine Specification 2.2.2, section 6.13): what the
-- writer is proved to write.
use Rattle.std.specs.Prelude.{ℕ, List, [], ◌∷◌, ◌++◌, length, Option, Some, None}
use Rattle.std.specs.List.{flat_map}
use Rattle.cjc_capread.specs.declared.tree.Descriptor.{Descriptor}
use Rattle.cjc_capread.specs.declared.tree.ClassDescriptor.{ClassDescriptor}
use Rattle.cjc_capread.specs.declared.tree.FieldDescriptor.{FieldDescriptor}
use Rattle.cjc_capread.specs.declared.tree.FieldPlace.{FieldPlace}
use Rattle.cjc_capread.specs.declared.tree.FieldPlace.TheVariants as places
use Rattle.cjc_capread.specs.declared.tree.FieldType.{FieldType}
use Rattle.cjc_capread.specs.declared.tree.FieldType.TheVariants as types
use Rattle.cjc_capread.specs.declared.tree.MethodDescriptor.{MethodDescriptor}
use Rattle.cjc_capread.specs.declared.tree.TypeDescriptor.{TypeDescriptor}
use Rattle.cjc_capwrite.specs.Parts.{one, two, class_bytes}
use Rattle.cjc_capwrite.specs.Class.{nibbles}

-- the three bytes that say where a field is (section 6.13.2)
abbrev pub place_bytes : FieldPlace → List ℕ
place_bytes (places.Static offset) = 0 ∷ [] ++ two offset
place_bytes (places.Instance class token) = class_bytes class ++ token ∷ []

-- the number of a type: above 0x8000 a primitive one, else the offset of its descriptor (section 6.13.2)
abbrev pub type_number : FieldType → ℕ
type_number types.Boolean = 0x8002
type_number types.Byte = 0x8003
type_number types.Short = 0x8004
type_number types.Int = 0x8005
type_number (types.Described offset) = offset

-- a field (section 6.13.2)
unfoldable pub field_bytes : FieldDescriptor → List ℕ
field_bytes x = x.token ∷ [] ++ (x.flags ∷ [] ++ (place_bytes x.place ++ two (type_number x.type_)))

-- the bytecodes and handlers of a method
unfoldable pub code_bytes : MethodDescriptor → List ℕ
code_bytes x = two x.bytecode_count ++ (two x.handler_count ++ two x.first_handler)

-- a method (section 6.13.3)
unfoldable pub method_descriptor_bytes : MethodDescriptor → List ℕ
method_descriptor_bytes x = x.token ∷ [] ++ (x.flags ∷ [] ++ (two x.offset ++ (two x.type_offset ++ code_bytes x)))

-- a class or interface with its members (section 6.13.1)
unfoldable pub class_descriptor_bytes : ClassDescriptor → List ℕ
class_descriptor_bytes x =
    x.token ∷ [] ++ (x.flags ∷ [] ++ (class_bytes x.this_class ++ (one (length x.interfaces) ++ (two (length x.fields)
    ++ (two (length x.methods)
    ++ (flat_map class_bytes x.interfaces ++ (flat_map field_bytes x.fields
    ++ flat_map method_descriptor_bytes x.methods)))))))

-- the byte of a nibble and the one that waited for it; a nibble for which none waited waits
abbrev pub put_before : Option ℕ → ℕ → List ℕ
put_before None n = []
put_before (Some high) n = nibbles high n

-- the nibble that waits behind it
abbrev pub waits_after : Option ℕ → ℕ → Option ℕ
waits_after None n = Some n
waits_after (Some high) n = None

-- nibbles in pairs, behind a high nibble that waits for its low one; a last one has 0 behind it
abbrev pub packed : Option ℕ → List ℕ → List ℕ
packed None [] = []
packed (Some high) [] = nibbles high 0
packed waiting (n ∷ ns) = put_before waiting n ++ packed (waits_after waiting n) ns

-- a type descriptor: how many nibbles, and these in pairs (section 6.13.4)
unfoldable pub type_bytes : TypeDescriptor → List ℕ
type_bytes x = one (length x.nibbles) ++ packed None x.nibbles

-- the part in which types have offsets
unfoldable pub types_bytes : Descriptor → List ℕ
types_bytes x = two (length x.pool_types) ++ (flat_map two x.pool_types ++ flat_map type_bytes x.types)

-- the info of Descriptor: the classes and the types (section 6.13)
unfoldable pub descriptor_bytes : Descriptor → List ℕ
descriptor_bytes x = one (length x.classes) ++ (flat_map class_descriptor_bytes x.classes ++ types_bytes x)
