-- The type descriptors of Descriptor (Java Card Virtual Machine Specification 2.2.2, section 6.13.4).
use Rattle.std.specs.Prelude.{ℕ, ◌+◌, ◌*◌, ◌/◌, ◌%◌, List, [], ◌∷◌, ◌++◌, map, flat_map, length, position, unwrap_or}
use Rattle.std.specs.Prelude.{slice_get, option_and_then, Option, Some, None, if◌then◌else◌}
use Rattle.std.specs.Str.{bytes_eq}
use Rattle.cjc_capwrite.specs.CapRead.declared.tree.ClassRef.{ClassRef}
use Rattle.cjc_capwrite.specs.CapRead.declared.tree.TypeDescriptor.{TypeDescriptor}
use Rattle.cjc_capwrite.specs.Parts.{class_bytes}
use Rattle.cjc_check_rules.specs.Spots.{starts}
use Rattle.cjc_check_rules.specs.Complete.{type_size}
use Rattle.cjc_emit.specs.Script.Sorts.{Element, Booleans, Bytes, Shorts, Ints, Shape, OfClass, OfNumbers}
use Rattle.cjc_emit.specs.Script.Sorts.{OfReferences}
use Rattle.cjc_emit.specs.Script.Sorts.{Sort, Boolean, Byte, Short, Int, Reference, NoValue, Signature, field_sort}
use Rattle.cjc_emit.specs.Script.Sorts.{signature_of}
use Rattle.cjc_clinit.specs.ClassFile.declared.tree.FieldTree.{FieldTree}
use Rattle.cjc_clinit.specs.World.Classes.{Class}
use Rattle.cjc_clinit.specs.World.Added.{added, without_initialiser}
use Rattle.cjc_clinit.specs.World.Order.{class_order}
use Rattle.cjc_vtable.specs.LowerClassOrder.Supers.Supers.{each_once}
use Rattle.cjc_clinit.specs.Fields.{is_reference}
use Rattle.cjc_emit.specs.NCode.declared.narrow.PoolKey.{PoolKey}
use Rattle.cjc_emit.specs.NCode.declared.narrow.PoolKey.TheVariants as keys
use Rattle.cjc_components.specs.Package.{Package, world, pool}
use Rattle.cjc_components.specs.Class.{fields_of}
use Rattle.cjc_components.specs.Names.{class_ref}

-- ---- nibbles

-- the four nibbles of a class_ref
abbrev pub ref_nibbles : ClassRef → List ℕ
ref_nibbles ref = flat_map (λ b. b / 16 ∷ b % 16 ∷ []) (class_bytes ref)

-- an array of boolean, byte, short or int
abbrev pub array_nibble : Element → ℕ
array_nibble Booleans = 0xA
array_nibble Bytes = 0xB
array_nibble Shorts = 0xC
array_nibble Ints = 0xD

-- an object's type: 6 and a class, E and the class of an array's elements, or an array of numbers
abbrev pub shape_nibbles : (ref : List ℕ → ClassRef) → Shape (List ℕ) → List ℕ
shape_nibbles ref (OfClass c) = 6 ∷ ref_nibbles (ref c)
shape_nibbles ref (OfReferences c) = 0xE ∷ ref_nibbles (ref c)
shape_nibbles ref (OfNumbers element) = array_nibble element ∷ []

-- a type: boolean 2, byte 3, short 4, int 5
abbrev pub sort_nibbles : (ref : List ℕ → ClassRef) → Sort → List ℕ
sort_nibbles ref Boolean = 2 ∷ []
sort_nibbles ref Byte = 3 ∷ []
sort_nibbles ref Short = 4 ∷ []
sort_nibbles ref Int = 5 ∷ []
sort_nibbles ref (Reference shape) = shape_nibbles ref shape
sort_nibbles ref NoValue = []

-- a result: void is 1
abbrev pub result_nibbles : (ref : List ℕ → ClassRef) → Option Sort → List ℕ
result_nibbles ref None = 1 ∷ []
result_nibbles ref (Some sort) = sort_nibbles ref sort

-- a method is its parameters, then its result; a field is its type
abbrev pub nibbles_by : (ref : List ℕ → ClassRef) → (desc : List ℕ) → Option Signature → List ℕ
nibbles_by ref desc None = sort_nibbles ref (field_sort desc)
nibbles_by ref desc (Some types) = flat_map (sort_nibbles ref) types.params ++ result_nibbles ref types.result

-- what a descriptor of a class file says
abbrev pub nibbles_of : Package → (desc : List ℕ) → List ℕ
nibbles_of p desc = nibbles_by (class_ref p) desc (signature_of desc)

-- ---- what has a type descriptor

-- the descriptor of the member of a key; a class has none
abbrev pub desc_of_key : PoolKey → List (List ℕ)
desc_of_key (keys.Class c) = []
desc_of_key (keys.Field m) = m.desc ∷ []
desc_of_key (keys.Virtual m) = m.desc ∷ []
desc_of_key (keys.Super m) = m.desc ∷ []
desc_of_key (keys.StaticField m) = m.desc ∷ []
desc_of_key (keys.StaticMethod m) = m.desc ∷ []

-- a field of a reference type
abbrev pub desc_of_field : FieldTree → List (List ℕ)
desc_of_field f = if is_reference f.desc then f.desc ∷ [] else []

-- a class: its fields of reference types, its methods, and those that are added to it
abbrev pub descs_of_class : Package → Class → List (List ℕ)
descs_of_class p c =
    flat_map desc_of_field (fields_of p.files c) ++ (map (λ m. m.desc) (without_initialiser c.methods)
    ++ map (λ m. m.desc) (added (world p) c))

-- those of the pool's entries, then class by class
abbrev pub all_descs : Package → List (List ℕ)
all_descs p = flat_map desc_of_key (pool p) ++ flat_map (descs_of_class p) (class_order (world p))

-- The type descriptors, by their nibbles, each once, where it stands first.
abbrev pub types_of : Package → List (List ℕ)
types_of p = each_once [] (map (nibbles_of p) (all_descs p))

-- ---- their offsets

-- nibbles as a type descriptor
abbrev pub type_descriptor : List ℕ → TypeDescriptor
type_descriptor nibbles = record { nibbles = nibbles }

-- where they begin: behind the number of pool entries, and two bytes for each
abbrev pub type_starts : Package → List ℕ
type_starts p = starts type_size (2 + 2 * length (pool p)) (map type_descriptor (types_of p))

-- the offset of the type descriptor that says what a descriptor says
abbrev pub type_offset : Package → (desc : List ℕ) → ℕ
type_offset p desc = unwrap_or (option_and_then (slice_get (type_starts p)) (position (bytes_eq (nibbles_of p desc))
    (types_of p))) 0
