-- Descriptor and StaticField beside what is wanted of them: what differs, item by item (Java Card Virtual Machine
-- Specification 2.2.2, sections 6.10 and 6.13).
use Rattle.std.specs.Prelude.{ℕ, ◌+◌, ◌==◌, ◌&&◌, Bool, true, false, List, [], ◌++◌, length}
use Rattle.std.specs.Prelude.{Option}
use Rattle.cjc_capread.specs.declared.tree.ArrayInit.{ArrayInit}
use Rattle.cjc_capread.specs.declared.tree.ClassDescriptor.{ClassDescriptor}
use Rattle.cjc_capread.specs.declared.tree.Descriptor.{Descriptor}
use Rattle.cjc_capread.specs.declared.tree.FieldDescriptor.{FieldDescriptor}
use Rattle.cjc_capread.specs.declared.tree.FieldPlace.{FieldPlace}
use Rattle.cjc_capread.specs.declared.tree.FieldPlace.TheVariants as places
use Rattle.cjc_capread.specs.declared.tree.FieldType.{FieldType}
use Rattle.cjc_capread.specs.declared.tree.FieldType.TheVariants as types
use Rattle.cjc_capread.specs.declared.tree.MethodDescriptor.{MethodDescriptor}
use Rattle.cjc_capread.specs.ClassRefs.{same_class}
use Rattle.cjc_check_rules.specs.declared.spot.ComponentPlace.{ComponentPlace}
use Rattle.cjc_check_rules.specs.Spots.{in_info, unless, beside}
use Rattle.cjc_check_rules.specs.Complete.{array_size, described_size}
use Rattle.cjc_check_rules.specs.ClassRefs.{fields_begin, pool_count_at}
use Rattle.cjc_check_rules.specs.Described.{methods_begin}
use Rattle.cjc_verify.specs.Described.{are_nibbles, is_number, nibbles_at}
use Rattle.cjc_verify.specs.declared.described.wanted.WantedClass.{WantedClass}
use Rattle.cjc_verify.specs.declared.described.wanted.WantedEntry.{WantedEntry}
use Rattle.cjc_verify.specs.declared.described.wanted.WantedEntry.TheVariants as entries
use Rattle.cjc_verify.specs.declared.described.wanted.WantedField.{WantedField}
use Rattle.cjc_verify.specs.declared.described.wanted.WantedMethod.{WantedMethod}
use Rattle.cjc_verify.specs.declared.described.wanted.WantedType.{WantedType}
use Rattle.cjc_verify.specs.declared.described.wanted.WantedType.TheVariants as wanted

-- ---- types

-- the type at an offset is the one that is wanted
abbrev pub says : Descriptor → (offset : ℕ) → (wanted : Option (List ℕ)) → Bool
says d offset wanted = are_nibbles (nibbles_at d offset) wanted

-- a field's type is the one that is wanted
abbrev pub is_type : Descriptor → FieldType → WantedType → Bool
is_type d types.Boolean wanted.Boolean = true
is_type d types.Byte wanted.Byte = true
is_type d types.Short wanted.Short = true
is_type d types.Int wanted.Int = true
is_type d (types.Described offset) (wanted.Described nibbles) = says d offset nibbles
is_type d type other = false

-- ---- members

-- a field is where it is wanted: its cell, or its class and its token
abbrev pub is_place : (place wanted : FieldPlace) → Bool
is_place (places.Static a) (places.Static b) = a == b
is_place (places.Instance c t) (places.Instance d u) = same_class c d && (t == u)
is_place place other = false

-- a field of seven bytes: its token, its flags, its place and its type
abbrev pub field_differs : Descriptor → (at : ℕ) → FieldDescriptor → WantedField → List ComponentPlace
field_differs d at f w =
    unless (f.token == w.token) (in_info 11 at)
    ++ unless (f.flags == w.flags) (in_info 11 (at + 1))
    ++ unless (is_place f.place w.place) (in_info 11 (at + 2))
    ++ unless (is_type d f.type_ w.type_) (in_info 11 (at + 5))

-- a method of twelve bytes: its token, its flags and its type
abbrev pub method_differs : Descriptor → (at : ℕ) → MethodDescriptor → WantedMethod → List ComponentPlace
method_differs d at m w =
    unless (m.token == w.token) (in_info 11 at)
    ++ unless (m.flags == w.flags) (in_info 11 (at + 1))
    ++ unless (says d m.type_offset w.nibbles) (in_info 11 (at + 4))

-- ---- classes

-- a class but for its members: its token, its flags and the number of its fields
abbrev pub head_differs : (at : ℕ) → ClassDescriptor → WantedClass → List ComponentPlace
head_differs at x w =
    unless (x.token == w.token) (in_info 11 at)
    ++ unless (x.flags == w.flags) (in_info 11 (at + 1))
    ++ unless (length x.fields == length w.fields) (in_info 11 (at + 5))

-- a class with its members
abbrev pub class_differs : Descriptor → (at : ℕ) → ClassDescriptor → WantedClass → List ComponentPlace
class_differs d at x w =
    head_differs at x w
    ++ beside (λ f. 7) (field_differs d) (fields_begin at x) x.fields w.fields
    ++ beside (λ m. 12) (method_differs d) (methods_begin at x) x.methods w.methods

-- ---- entries of the constant pool

-- the offset of the type of an entry
abbrev pub entry_differs : Descriptor → (at offset : ℕ) → WantedEntry → List ComponentPlace
entry_differs d at offset entries.Class = []
entry_differs d at offset (entries.Member nibbles) = unless (says d offset nibbles) (in_info 11 at)

-- ---- the component

-- all classes, and all types of entries
abbrev pub all_differ : Descriptor → List WantedClass → List WantedEntry → List ComponentPlace
all_differ d classes entries =
    beside described_size (class_differs d) 1 d.classes classes
    ++ beside (λ offset. 2) (entry_differs d) (pool_count_at d + 2) d.pool_types entries

-- ---- arrays of StaticField

-- an array beside the type number that is wanted
abbrev pub array_differs : (at : ℕ) → ArrayInit → Option ℕ → List ComponentPlace
array_differs at a number = unless (is_number a.type_ number) (in_info 8 at)

-- all arrays
abbrev pub arrays_differ : List ArrayInit → List (Option ℕ) → List ComponentPlace
arrays_differ arrays numbers = beside array_size array_differs 6 arrays numbers
