-- Rules over Descriptor and StaticField are differences from what the package wants.
use Rattle.std.proofs.Common.{◌≡◌, ℕ, ◌+◌, Bool, true, false, List, ◌++◌, length, map, refl, sym, ap, ◌∙◌}
use Rattle.std.specs.Prelude.{◌==◌, option_and_then, Option, Some, None}
use Rattle.cjc_bytes.specs.AccessFlags.{is_static}
use Rattle.cjc_bytes.specs.declared.fault.MemberId.{MemberId}
use Rattle.cjc_bytes.proofs.Lists.{length_mapped}
use Rattle.cjc_capread.specs.declared.tree.ClassDescriptor.{ClassDescriptor}
use Rattle.cjc_capread.specs.declared.tree.FieldDescriptor.{FieldDescriptor}
use Rattle.cjc_capread.specs.declared.tree.FieldPlace.{FieldPlace}
use Rattle.cjc_capread.specs.declared.tree.FieldPlace.TheVariants as places
use Rattle.cjc_capread.specs.declared.tree.FieldType.{FieldType}
use Rattle.cjc_capread.specs.declared.tree.FieldType.TheVariants as types
use Rattle.cjc_capread.specs.declared.tree.PoolEntry.{PoolEntry}
use Rattle.cjc_capread.specs.declared.tree.PoolEntry.TheVariants.{Classref, InstanceFieldref, StaticFieldref}
use Rattle.cjc_capread.specs.declared.tree.PoolEntry.TheVariants.{StaticMethodref, SuperMethodref, VirtualMethodref}
use Rattle.cjc_card_acts.specs.Script.Sorts.{Sort, Boolean, Byte, Short, Int, Reference, NoValue, field_sort}
use Rattle.cjc_check_rules.specs.declared.spot.ComponentPlace.{ComponentPlace}
use Rattle.cjc_check_rules.specs.ClassRefs.{fields_begin, pool_count_at}
use Rattle.cjc_check_rules.specs.Complete.{array_size, described_size}
use Rattle.cjc_check_rules.specs.Described.{methods_begin}
use Rattle.cjc_check_rules.specs.Spots.{beside, in_info, unless}
use Rattle.cjc_classes.specs.LowerComponents.Descriptor.{class_flags, field_flags}
use Rattle.cjc_classes.specs.LowerComponents.Statics.{cell_order}
use Rattle.cjc_world.specs.ClassFile.declared.tree.FieldTree.{FieldTree}
use Rattle.cjc_world.specs.Classes.{Class}
use Rattle.cjc_world.specs.Lookup.{member_at}
use Rattle.cjc_world.specs.Order.{class_order, methods_of_class}
use Rattle.cjc_verify.specs.Described.{Numbered, all_array_spots, are_nibbles, array_number, array_spots, class_spots}
use Rattle.cjc_verify.specs.Described.{class_token, described_spots, entry_spots, field_spots, is_entry_type}
use Rattle.cjc_verify.specs.Described.{is_field_type, member_token, method_spots, nibbles_at, wanted_fields}
use Rattle.cjc_verify.specs.Described as rules
use Rattle.cjc_verify.specs.Named.{named_desc}
use Rattle.cjc_verify.specs.Pairs.{Pair, nibbles_of, world}
use Rattle.cjc_verify.specs.WantedDescribed.{wanted_class, wanted_classes, wanted_entries, wanted_entry, wanted_field}
use Rattle.cjc_verify.specs.WantedDescribed.{wanted_method, wanted_numbers, wanted_place, wanted_type}
use Rattle.cjc_verify.specs.WantedDescriptor.{all_differ, array_differs, arrays_differ, class_differs, entry_differs}
use Rattle.cjc_verify.specs.WantedDescriptor.{field_differs, is_place, is_type, method_differs, says}
use Rattle.cjc_verify.proofs.InfosLaws.Besides.{others_by}

-- ---- fields

type_so : (p : Pair) (desc : List ℕ) (t : FieldType) (s : Sort) → is_field_type p desc t s
    ≡ is_type p.components.descriptor t (wanted_type p desc s)
type_so p desc types.Boolean Boolean = refl
type_so p desc types.Boolean Byte = refl
type_so p desc types.Boolean Short = refl
type_so p desc types.Boolean Int = refl
type_so p desc types.Boolean (Reference shape) = refl
type_so p desc types.Boolean NoValue = refl
type_so p desc types.Byte Boolean = refl
type_so p desc types.Byte Byte = refl
type_so p desc types.Byte Short = refl
type_so p desc types.Byte Int = refl
type_so p desc types.Byte (Reference shape) = refl
type_so p desc types.Byte NoValue = refl
type_so p desc types.Short Boolean = refl
type_so p desc types.Short Byte = refl
type_so p desc types.Short Short = refl
type_so p desc types.Short Int = refl
type_so p desc types.Short (Reference shape) = refl
type_so p desc types.Short NoValue = refl
type_so p desc types.Int Boolean = refl
type_so p desc types.Int Byte = refl
type_so p desc types.Int Short = refl
type_so p desc types.Int Int = refl
type_so p desc types.Int (Reference shape) = refl
type_so p desc types.Int NoValue = refl
type_so p desc (types.Described offset) Boolean = refl
type_so p desc (types.Described offset) Byte = refl
type_so p desc (types.Described offset) Short = refl
type_so p desc (types.Described offset) Int = refl
type_so p desc (types.Described offset) (Reference shape) = refl
type_so p desc (types.Described offset) NoValue = refl

place_so : (p : Pair) (c : Class) (f : FieldTree) (token : ℕ) (place : FieldPlace) → rules.is_place p c f token place
    ≡ is_place place (wanted_place p c f token)
place_so p c f token (places.Static offset) = by (is_static f.flags) refl
  where
    by : (b : Bool) → is_static f.flags ≡ b → rules.is_place p c f token (places.Static offset)
        ≡ is_place (places.Static offset) (wanted_place p c f token)
    by true e = rw e refl
    by false e = rw e refl
place_so p c f token (places.Instance class t) = by (is_static f.flags) refl
  where
    by : (b : Bool) → is_static f.flags ≡ b → rules.is_place p c f token (places.Instance class t)
        ≡ is_place (places.Instance class t) (wanted_place p c f token)
    by true e = rw e refl
    by false e = rw e refl

field_so : (p : Pair) (c : Class) (at : ℕ) (d : FieldDescriptor) (n : Numbered) → field_spots p c at d n
    ≡ field_differs p.components.descriptor at d (wanted_field p c n)
field_so p c at d n =
    let f = n.field in
    let token = member_token p (member_at c n.number) in
    let all : (place type : Bool) → List ComponentPlace = λ place type.
    unless (d.token == token) (in_info 11 at)
    ++ unless (d.flags == field_flags f.flags) (in_info 11 (at + 1))
    ++ unless place (in_info 11 (at + 2))
    ++ unless type (in_info 11 (at + 5)) in
    ap (λ (b : Bool). all b (is_field_type p f.desc d.type_ (field_sort f.desc))) (place_so p c f token d.place)
    ∙ ap (all (is_place d.place (wanted_place p c f token))) (type_so p f.desc d.type_ (field_sort f.desc))

-- ---- classes

class_so : (p : Pair) (at : ℕ) (d : ClassDescriptor) (c : Class) → class_spots p at d c
    ≡ class_differs p.components.descriptor at d (wanted_class p c)
class_so p at d c =
    let fields = wanted_fields p c in
    let methods = methods_of_class (world p) c in
    let all : ℕ → (fields methods : List ComponentPlace) → List ComponentPlace = λ n fields methods.
    unless (d.token == class_token p c) (in_info 11 at)
    ++ unless (d.flags == class_flags c.flags) (in_info 11 (at + 1))
    ++ unless (length d.fields == n) (in_info 11 (at + 5))
    ++ fields
    ++ methods in
    let own_fields = beside (λ f. 7) (field_spots p c) (fields_begin at d) d.fields fields in
    let own_methods = beside (λ m. 12) (method_spots p c) (methods_begin at d) d.methods methods in
    ap (λ (n : ℕ). all n own_fields own_methods) (sym (length_mapped (wanted_field p c) fields))
    ∙ ap (λ (s : List ComponentPlace). all (length (map (wanted_field p c) fields)) s own_methods) (others_by (λ f. 7)
    (field_spots p c) (field_differs p.components.descriptor) (wanted_field p c) (field_so p c) (fields_begin at d)
    d.fields fields)
    ∙ ap (all (length (map (wanted_field p c) fields)) (beside (λ f. 7) (field_differs p.components.descriptor)
    (fields_begin at d) d.fields (map (wanted_field p c) fields))) (others_by (λ m. 12) (method_spots p c)
    (method_differs p.components.descriptor) (wanted_method p c) (λ k m f. refl) (methods_begin at d) d.methods methods)

-- ---- entries of the constant pool

no_nibbles : (o : Option (List ℕ)) → are_nibbles o None ≡ false
no_nibbles None = refl
no_nibbles (Some nibbles) = refl

named_so : (p : Pair) (offset : ℕ) (o : Option (List ℕ)) → is_entry_type p offset o
    ≡ says p.components.descriptor offset (option_and_then (nibbles_of p) o)
named_so p offset None = sym (no_nibbles (nibbles_at p.components.descriptor offset))
named_so p offset (Some desc) = refl

entry_so : (p : Pair) (at offset : ℕ) (e : PoolEntry) → entry_spots p at offset e
    ≡ entry_differs p.components.descriptor at offset (wanted_entry p e)
entry_so p at offset (Classref class) = refl
entry_so p at offset (InstanceFieldref class token) = ap (λ (b : Bool). unless b (in_info 11 at)) (named_so p offset
    (named_desc p (InstanceFieldref class token)))
entry_so p at offset (VirtualMethodref class token) = ap (λ (b : Bool). unless b (in_info 11 at)) (named_so p offset
    (named_desc p (VirtualMethodref class token)))
entry_so p at offset (SuperMethodref class token) = ap (λ (b : Bool). unless b (in_info 11 at)) (named_so p offset
    (named_desc p (SuperMethodref class token)))
entry_so p at offset (StaticFieldref field) = ap (λ (b : Bool). unless b (in_info 11 at)) (named_so p offset
    (named_desc p (StaticFieldref field)))
entry_so p at offset (StaticMethodref method) = ap (λ (b : Bool). unless b (in_info 11 at)) (named_so p offset
    (named_desc p (StaticMethodref method)))

-- ---- 721 and 728

pub described_beside_wanted : (p : Pair) → described_spots p
    ≡ all_differ p.components.descriptor (wanted_classes p) (wanted_entries p)
described_beside_wanted p =
    let d = p.components.descriptor in
    let order = class_order (world p) in
    let entries = p.components.pool.entries in
    ap (λ (s : List ComponentPlace). s ++ beside (λ offset. 2) (entry_spots p) (pool_count_at d + 2) d.pool_types
    entries) (others_by described_size (class_spots p) (class_differs d) (wanted_class p) (class_so p) 1 d.classes
    order)
    ∙ ap (λ (s : List ComponentPlace). beside described_size (class_differs d) 1 d.classes (map (wanted_class p) order)
    ++ s) (others_by (λ offset. 2) (entry_spots p) (entry_differs d) (wanted_entry p) (entry_so p) (pool_count_at d + 2)
    d.pool_types entries)

pub arrays_beside_wanted : (p : Pair) → all_array_spots p
    ≡ arrays_differ p.components.statics.array_inits (wanted_numbers p)
arrays_beside_wanted p = others_by array_size array_spots array_differs (λ (f : MemberId). array_number f.desc)
    (λ k a f. refl) 6 p.components.statics.array_inits (cell_order p.image)
