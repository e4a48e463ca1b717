-- Rules over Descriptor and StaticField: what they say of classes, members and arrays is what the package says (Java
-- Card Virtual Machine Specification 2.2.2, sections 6.10 and 6.13).
use Rattle.std.specs.Prelude.{ℕ, ◌+◌, ◌==◌, ◌&&◌, not, Bool, true, false, List, [], ◌∷◌, ◌++◌, length, unwrap_or}
use Rattle.std.specs.Prelude.{option_map, Option, Some, None, if◌then◌else◌, codes}
use Rattle.std.specs.Str.{bytes_eq}
use Rattle.cjc_bytes.specs.declared.fault.MemberId.{MemberId}
use Rattle.cjc_bytes.specs.AccessFlags.{is_static}
use Rattle.cjc_capread.specs.declared.tree.ArrayInit.{ArrayInit}
use Rattle.cjc_capread.specs.declared.tree.ClassDescriptor.{ClassDescriptor}
use Rattle.cjc_capread.specs.declared.tree.Descriptor.{Descriptor}
use Rattle.cjc_capread.specs.declared.tree.FieldDescriptor.{FieldDescriptor}
use Rattle.cjc_capread.specs.declared.tree.FieldPlace.{FieldPlace}
use Rattle.cjc_capread.specs.declared.tree.FieldPlace.TheVariants as places
use Rattle.cjc_capread.specs.declared.tree.FieldType.{FieldType}
use Rattle.cjc_capread.specs.declared.tree.FieldType.TheVariants as types
use Rattle.cjc_capread.specs.declared.tree.MethodDescriptor.{MethodDescriptor}
use Rattle.cjc_capread.specs.declared.tree.PoolEntry.{PoolEntry}
use Rattle.cjc_capread.specs.declared.tree.PoolEntry.TheVariants.{Classref}
use Rattle.cjc_capread.specs.declared.tree.TypeDescriptor.{TypeDescriptor}
use Rattle.cjc_capread.specs.ClassRefs.{same_class}
use Rattle.cjc_check_rules.specs.declared.spot.ComponentPlace.{ComponentPlace}
use Rattle.cjc_check_rules.specs.Spots.{in_info, unless, beside, item_at}
use Rattle.cjc_check_rules.specs.Complete.{described_size, array_size}
use Rattle.cjc_check_rules.specs.ClassRefs.{fields_begin, pool_count_at}
use Rattle.cjc_check_rules.specs.Described.{methods_begin, types_at}
use Rattle.cjc_card_acts.specs.Script.Sorts.{Sort, Boolean, Byte, Short, Int, Reference, field_sort}
use Rattle.cjc_world.specs.ClassFile.declared.tree.FieldTree.{FieldTree}
use Rattle.cjc_world.specs.declared.found.Found.{Found}
use Rattle.cjc_world.specs.Classes.{Class}
use Rattle.cjc_world.specs.Lookup.{member_at}
use Rattle.cjc_world.specs.Order.{class_order, methods_of_class}
use Rattle.cjc_methods.specs.Tokens.Fields.{is_constant}
use Rattle.cjc_methods.specs.Tokens.Tokens.{token_of_class, token_of_member}
use Rattle.cjc_classes.specs.Clinit.Image.{field_id}
use Rattle.cjc_classes.specs.LowerComponents.Class.{fields_of}
use Rattle.cjc_classes.specs.LowerComponents.Descriptor.{class_flags, field_flags, method_flags, method_in}
use Rattle.cjc_classes.specs.LowerComponents.Statics.{cell_order, cell_offset}
use Rattle.cjc_verify.specs.Pairs.{Pair, world, class_ref, nibbles_of}
use Rattle.cjc_verify.specs.Named.{named_desc}

-- ---- types

-- these are the nibbles that are wanted
abbrev pub are_nibbles : (nibbles wanted : Option (List ℕ)) → Bool
are_nibbles (Some nibbles) (Some wanted) = bytes_eq nibbles wanted
are_nibbles nibbles wanted = false

-- the nibbles of the type descriptor at an offset
abbrev pub nibbles_at : Descriptor → (offset : ℕ) → Option (List ℕ)
nibbles_at d offset = option_map (λ (t : TypeDescriptor). t.nibbles) (item_at (types_at d) offset)

-- the type at an offset is what a descriptor of a class file says
abbrev pub says : Pair → (offset : ℕ) → (desc : List ℕ) → Bool
says p offset desc = let c = p.components in are_nibbles (nibbles_at c.descriptor offset) (nibbles_of p desc)

-- a field's type is that of its descriptor
abbrev pub is_field_type : Pair → (desc : List ℕ) → FieldType → Sort → Bool
is_field_type p desc types.Boolean Boolean = true
is_field_type p desc types.Byte Byte = true
is_field_type p desc types.Short Short = true
is_field_type p desc types.Int Int = true
is_field_type p desc (types.Described offset) (Reference shape) = says p offset desc
is_field_type p desc _ _ = false

-- ---- members

-- the token of a member; 0xFF is none
abbrev pub member_token : Pair → Found → ℕ
member_token p f = unwrap_or (token_of_member p.tokens f) 0xFF

-- the place of a field: of a static one the offset of its cell, of an instance field its class and its token
abbrev pub is_place : Pair → Class → FieldTree → (token : ℕ) → FieldPlace → Bool
is_place p c f token (places.Static offset) = is_static f.flags && (offset == cell_offset p.image (field_id c.name f))
is_place p c f token (places.Instance class t) = not (is_static f.flags) && same_class class (class_ref p c.name)
    && (t == token)

-- a field with the number of its place among the members of its class
pub record Numbered : Type 0 where
  pub number : ℕ
  pub field : FieldTree

-- the fields from a place on that are no constants
abbrev pub fields_from : (number : ℕ) → List FieldTree → List Numbered
fields_from i [] = []
fields_from i (f ∷ fields) = (if is_constant f then [] else record { number = i; field = f } ∷ []) ++ fields_from
    (i + 1)
    fields

-- the fields of a class that Descriptor lists
abbrev pub wanted_fields : Pair → Class → List Numbered
wanted_fields p c = fields_from 0 (fields_of p.files c)

-- a field of seven bytes: its token, its flags, its place and its type
abbrev pub field_spots : Pair → Class → (at : ℕ) → FieldDescriptor → Numbered → List ComponentPlace
field_spots p c at d n =
    let f = n.field in
    let token = member_token p (member_at c n.number) in
    unless (d.token == token) (in_info 11 at)
    ++ unless (d.flags == field_flags f.flags) (in_info 11 (at + 1))
    ++ unless (is_place p c f token d.place) (in_info 11 (at + 2))
    ++ unless (is_field_type p f.desc d.type_ (field_sort f.desc)) (in_info 11 (at + 5))

-- a method of twelve bytes: its token, its flags and its type
abbrev pub method_spots : Pair → Class → (at : ℕ) → MethodDescriptor → Found → List ComponentPlace
method_spots p c at d f =
    let m = method_in (world p) c f.member in
    unless (d.token == member_token p f) (in_info 11 at)
    ++ unless (d.flags == method_flags m) (in_info 11 (at + 1))
    ++ unless (says p d.type_offset m.desc) (in_info 11 (at + 4))

-- ---- classes

-- the token of a class; 0xFF is none
abbrev pub class_token : Pair → Class → ℕ
class_token p c = unwrap_or (token_of_class p.tokens c.number) 0xFF

-- a class: its token, its flags, the number of its fields, and its members
abbrev pub class_spots : Pair → (at : ℕ) → ClassDescriptor → Class → List ComponentPlace
class_spots p at d c =
    unless (d.token == class_token p c) (in_info 11 at)
    ++ unless (d.flags == class_flags c.flags) (in_info 11 (at + 1))
    ++ unless (length d.fields == length (wanted_fields p c)) (in_info 11 (at + 5))
    ++ beside (λ f. 7) (field_spots p c) (fields_begin at d) d.fields (wanted_fields p c)
    ++ beside (λ m. 12) (method_spots p c) (methods_begin at d) d.methods (methods_of_class (world p) c)

-- ---- entries of the constant pool

-- a type is that of the member that an entry names
abbrev pub is_entry_type : Pair → (offset : ℕ) → Option (List ℕ) → Bool
is_entry_type p offset None = false
is_entry_type p offset (Some desc) = says p offset desc

-- of a class nothing is asked here
abbrev pub entry_spots : Pair → (at offset : ℕ) → PoolEntry → List ComponentPlace
entry_spots p at offset (Classref class) = []
entry_spots p at offset entry = unless (is_entry_type p offset (named_desc p entry)) (in_info 11 at)

-- 721. Descriptor gives each class and member the package's token, flags and type, a field the package's place, and
-- each entry of the constant pool the type that the file of its member gives it. Broken is the item.
abbrev pub described_spots : Pair → List ComponentPlace
described_spots p =
    let c = p.components in
    let d = c.descriptor in
    let pool = c.pool in
    beside described_size (class_spots p) 1 d.classes (class_order (world p))
    ++ beside (λ offset. 2) (entry_spots p) (pool_count_at d + 2) d.pool_types pool.entries

-- ---- arrays of StaticField

-- the type number of an array of numbers: boolean 2, byte 3, short 4, int 5
abbrev pub array_number : (desc : List ℕ) → Option ℕ
array_number desc =
    if bytes_eq desc (codes "[Z") then Some 2
    else if bytes_eq desc (codes "[B") then Some 3
    else if bytes_eq desc (codes "[S") then Some 4
    else if bytes_eq desc (codes "[I") then Some 5
    else None

-- there is a number, and it is this one
abbrev pub is_number : ℕ → Option ℕ → Bool
is_number n None = false
is_number n (Some wanted) = n == wanted

-- an array beside the field whose cell it fills
abbrev pub array_spots : (at : ℕ) → ArrayInit → MemberId → List ComponentPlace
array_spots at a f = unless (is_number a.type_ (array_number f.desc)) (in_info 8 at)

-- 728. Each array is of the type of the static field whose cell it fills: the k-th array fills the k-th cell. Broken is
-- the array's type.
abbrev pub all_array_spots : Pair → List ComponentPlace
all_array_spots p = let c = p.components in let s = c.statics in beside array_size array_spots 6 s.array_inits
    (cell_order p.image)
