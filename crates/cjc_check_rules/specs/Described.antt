-- Descriptor describes what is there (Java Card Virtual Machine Specification 2.2.2, 6.13).
use Rattle.std.specs.Prelude.{ℕ, ◌+◌, ◌*◌, List, [], ◌∷◌, ◌++◌, length, slice_get, Bool, true, false, nat_lt, nat_le}
use Rattle.std.specs.Prelude.{not, ◌==◌, ◌&&◌, if◌then◌else◌, Option, Some, None}
use Rattle.cjc_capread.specs.declared.tree.ClassInfo.{ClassInfo}
use Rattle.cjc_capread.specs.declared.tree.PoolEntry.{PoolEntry}
use Rattle.cjc_capread.specs.declared.tree.PoolEntry.TheVariants.{Classref}
use Rattle.cjc_capread.specs.declared.tree.FieldType.{FieldType}
use Rattle.cjc_capread.specs.declared.tree.FieldType.TheVariants.{Described}
use Rattle.cjc_capread.specs.declared.tree.ClassRef.{ClassRef}
use Rattle.cjc_capread.specs.declared.tree.FieldDescriptor.{FieldDescriptor}
use Rattle.cjc_capread.specs.declared.tree.MethodDescriptor.{MethodDescriptor}
use Rattle.cjc_capread.specs.declared.tree.ClassDescriptor.{ClassDescriptor}
use Rattle.cjc_capread.specs.declared.tree.TypeDescriptor.{TypeDescriptor}
use Rattle.cjc_capread.specs.declared.tree.Descriptor.{Descriptor}
use Rattle.cjc_capread.specs.ClassRefs.{is_inside}
use Rattle.cjc_check_rules.specs.Spots.{ComponentPlace, in_info, unless, along, beside, numbered, Placed, placed}
use Rattle.cjc_check_rules.specs.Spots.{starts, begins}
use Rattle.cjc_check_rules.specs.Complete.{Complete, interface_size, class_size, described_size, type_size}
use Rattle.cjc_check_rules.specs.Classes.{first_interface, first_class, is_own_class}
use Rattle.cjc_check_rules.specs.ClassRefs.{fields_begin, pool_count_at}

-- ---- classes

-- the starts of the classes and interfaces of Class, in order
abbrev pub all_starts : ClassInfo → List ℕ
all_starts info = starts interface_size first_interface info.interfaces ++ starts class_size (first_class info)
    info.classes

-- a class_ref of what begins at this offset, if anything does
abbrev pub is_start_of : Option ℕ → ClassRef → Bool
is_start_of None class = false
is_start_of (Some start) class = is_inside class start

-- the class of a number, which begins at an offset: its class_ref stands behind a token and flags
abbrev pub class_spots : (starts : List ℕ) → (number at : ℕ) → ClassDescriptor → List ComponentPlace
class_spots starts number at d = unless (is_start_of (slice_get starts number) d.this_class) (in_info 11 (at + 2))

-- classes beside starts: the class_ref of another class or one too many, or the number of classes where one is missing
abbrev pub classes_in_order : List ClassDescriptor → (starts : List ℕ) → List ComponentPlace
classes_in_order classes starts =
    numbered described_size (class_spots starts) 0 1 classes ++ unless (nat_le (length starts) (length classes))
    (in_info 11 0)

-- ---- methods: of twelve bytes each, with the offset of the header at 2 and that of the type at 4

-- where the methods of a class of Descriptor begin, behind its fields of seven bytes each
abbrev pub methods_begin : (at : ℕ) → ClassDescriptor → ℕ
methods_begin at d = fields_begin at d + 7 * length d.fields

-- the offset of a method, after one with this offset, if any
abbrev pub is_after : Option ℕ → (offset : ℕ) → Bool
is_after None offset = true
is_after (Some before) offset = nat_lt before offset

-- methods from one on that begins at this offset
unfoldable pub methods_ascend : (before : Option ℕ) → (at : ℕ) → List MethodDescriptor → List ComponentPlace
methods_ascend before at [] = []
methods_ascend before at (m ∷ methods) = unless (is_after before m.offset) (in_info 11 (at + 2))
    ++ methods_ascend (Some m.offset) (at + 12) methods

-- the offset of the last method, or what it was before
abbrev pub last_offset : (before : Option ℕ) → List MethodDescriptor → Option ℕ
last_offset before [] = before
last_offset before (m ∷ methods) = last_offset (Some m.offset) methods

-- the methods of a class that begins at this offset, interfaces left out
abbrev pub methods_in_class : ClassInfo → (before : Option ℕ) → (at : ℕ) → ClassDescriptor → List ComponentPlace
methods_in_class info before at d = if is_own_class info d.this_class then methods_ascend before (methods_begin at d)
    d.methods else []

-- the offset of the last method of a class with those before it, interfaces left out
abbrev pub offset_after : ClassInfo → (before : Option ℕ) → ClassDescriptor → Option ℕ
offset_after info before d = if is_own_class info d.this_class then last_offset before d.methods else before

-- the methods of classes from one on that begins at this offset
unfoldable pub all_ascend : ClassInfo → (before : Option ℕ) → (at : ℕ) → List ClassDescriptor → List ComponentPlace
all_ascend info before at [] = []
all_ascend info before at (d ∷ classes) = methods_in_class info before at d
    ++ all_ascend info (offset_after info before d) (at + described_size d) classes

-- ---- types: they stand behind the number of pool entries and an offset of two bytes for each entry, and their offsets
-- count from there

-- the type descriptors, each with its offset from the pool count on
abbrev pub types_at : Descriptor → List (Placed TypeDescriptor)
types_at d = placed type_size (2 + 2 * length d.pool_types) d.types

-- a type descriptor begins at this offset from the pool count on
abbrev pub is_type : Descriptor → (offset : ℕ) → Bool
is_type d offset = begins (types_at d) offset

-- a type that is given by an offset is the start of a type descriptor; a primitive type always is there
abbrev pub type_is_there : Descriptor → FieldType → Bool
type_is_there d (Described offset) = is_type d offset
type_is_there d _ = true

-- the type of a field stands at 5 of seven bytes, that of a method at 4 of twelve
abbrev pub type_of_field : Descriptor → (at : ℕ) → FieldDescriptor → List ComponentPlace
type_of_field d at f = unless (type_is_there d f.type_) (in_info 11 (at + 5))

-- the offset of a method's type, where no type descriptor begins there
abbrev pub type_of_method : Descriptor → (at : ℕ) → MethodDescriptor → List ComponentPlace
type_of_method d at m = unless (is_type d m.type_offset) (in_info 11 (at + 4))

-- the offsets of types of a class's fields and methods; the class begins at this offset
abbrev pub types_in_class : Descriptor → (at : ℕ) → ClassDescriptor → List ComponentPlace
types_in_class d at x = along (λ f. 7) (type_of_field d) (fields_begin at x) x.fields
    ++ along (λ m. 12) (type_of_method d) (methods_begin at x) x.methods

-- a Classref has 0xFFFF, and each other entry the start of a type
abbrev pub has_type : Descriptor → PoolEntry → (offset : ℕ) → Bool
has_type d (Classref class) offset = offset == 0xFFFF
has_type d _ offset = not (offset == 0xFFFF) && is_type d offset

-- offsets of pool entries, as far as there are both; the first stands at this offset
abbrev pub type_of_entry : Descriptor → (at offset : ℕ) → PoolEntry → List ComponentPlace
type_of_entry d at offset entry = unless (has_type d entry offset) (in_info 11 at)

-- the offsets of types beside the pool entries that have them, the first at this offset
abbrev pub types_in_pool : Descriptor → (at : ℕ) → (offsets : List ℕ) → List PoolEntry → List ComponentPlace
types_in_pool d at offsets entries = beside (λ offset. 2) (type_of_entry d) at offsets entries

-- ---- 718

-- 718. Descriptor has each class and interface once, in the order of Class, and each method of a class once, in the
-- order of Method. It
-- has an offset for each entry of the constant pool, and the offsets of types are starts of types. Broken is the
-- class_ref, or the number
-- of classes where one is missing; the offset of a method; the offset of a type; or the number of pool entries.
abbrev pub descriptor_spots : Complete → List ComponentPlace
descriptor_spots c =
    classes_in_order c.descriptor.classes (all_starts c.class)
    ++ all_ascend c.class None 1 c.descriptor.classes
    ++ along described_size (types_in_class c.descriptor) 1 c.descriptor.classes
    ++ unless (length c.descriptor.pool_types == length c.pool.entries) (in_info 11 (pool_count_at c.descriptor))
    ++ types_in_pool c.descriptor (pool_count_at c.descriptor + 2) c.descriptor.pool_types c.pool.entries
