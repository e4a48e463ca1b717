-- What is written of Descriptor spells it.
use Rattle.std.proofs.Common.{◌≡◌, ℕ, ◌+◌, ◌*◌, ◌/◌, ◌%◌, ◌<◌, ◌^◌, ◌⊎◌, inl, inr, Bool, true, false, ltb, eqb, List}
use Rattle.std.proofs.Common.{[], ◌∷◌, ◌++◌, length, Some, None, refl, sym, ap, subst, ◌∙◌, arith, length-append}
use Rattle.std.specs.List.{flat_map, AllByRecursion}
use Rattle.std.proofs.lemmas.Bool.{lt-ltb}
use Rattle.std.proofs.lemmas.List.{append-nil}
use Rattle.std.proofs.lemmas.List.Concat.{flat_map-cons}
use Rattle.cjc_capread.proofs.BytesWriters.{Writes, then_writes, last_writes, gives_writes, number1_writes, u1_writes}
use Rattle.cjc_capread.proofs.BytesWriters.{repeated_writes, before_writes}
use Rattle.cjc_capread.specs.declared.tree.Descriptor.{Descriptor}
use Rattle.cjc_capread.specs.declared.tree.ClassDescriptor.{ClassDescriptor}
use Rattle.cjc_capread.specs.declared.tree.FieldDescriptor.{FieldDescriptor}
use Rattle.cjc_capread.specs.declared.tree.FieldPlace.{FieldPlace}
use Rattle.cjc_capread.specs.declared.tree.FieldPlace.TheVariants as places
use Rattle.cjc_capread.specs.declared.tree.FieldType.{FieldType}
use Rattle.cjc_capread.specs.declared.tree.FieldType.TheVariants as types
use Rattle.cjc_capread.specs.declared.tree.MethodDescriptor.{MethodDescriptor}
use Rattle.cjc_capread.specs.declared.tree.TypeDescriptor.{TypeDescriptor}
use Rattle.cjc_capread.specs.Parts.{exactly}
use Rattle.cjc_capread.specs.Bytes.AccessFlags.{is_static}
use Rattle.cjc_capread.specs.Descriptor.{field_place, type_of, field_descriptor, method_descriptor, class_descriptor}
use Rattle.cjc_capread.specs.Descriptor.{two_nibbles, high_nibble, ended, type_descriptor, descriptor}
use Rattle.cjc_capwrite.specs.Parts.{one, two, class_bytes}
use Rattle.cjc_capwrite.specs.Class.{nibbles}
use Rattle.cjc_capwrite.specs.Descriptor.{place_bytes, type_number, field_bytes, code_bytes, method_descriptor_bytes}
use Rattle.cjc_capwrite.specs.Descriptor.{class_descriptor_bytes, packed, type_bytes, types_bytes, descriptor_bytes}
use Rattle.cjc_capwrite.specs.Fits.{PlaceFits, TypeFits, FieldFits, MethodDescriptorFits, ClassDescriptorFits}
use Rattle.cjc_capwrite.specs.Fits.{TypeDescriptorFits, DescriptorFits}
use Rattle.cjc_capwrite.proofs.PartsWritten.{one_writes, two_writes, table_writes, items_write, numbers_write}
use Rattle.cjc_capwrite.proofs.PartsWritten.{class_ref_writes, class_refs_write}

-- ---- members

place_writes : (at flags : ℕ) (x : FieldPlace) → PlaceFits flags x
    → Writes (field_place (is_static flags)) at x (place_bytes x)
unfolding field_place
place_writes at flags (places.Static offset) fits =
    subst (λ b. Writes (field_place b) at (places.Static offset) (0 ∷ [] ++ two offset)) (sym fits.0)
    (then_writes (number1_writes (exactly 0) at 0 0 refl) (last_writes (two_writes _ offset fits.1) refl))
place_writes at flags (places.Instance class token) fits =
    subst (λ b. Writes (field_place b) at (places.Instance class token) (class_bytes class ++ token ∷ [])) (sym fits.0)
    (then_writes (class_ref_writes at class fits.1) (last_writes (u1_writes _ token) refl))

described : (n : ℕ) → n < 0x8000 → type_of n ≡ Some (types.Described n)
described n lt = let test : ltb n 0x8000 ≡ true = lt-ltb n 0x8000 lt in rw test refl

number_fits : (x : FieldType) → TypeFits x → type_number x < 2 ^ 16
number_fits types.Boolean fits = omega arith
number_fits types.Byte fits = omega arith
number_fits types.Short fits = omega arith
number_fits types.Int fits = omega arith
number_fits (types.Described n) fits = omega arith

type_back : (x : FieldType) → TypeFits x → type_of (type_number x) ≡ Some x
type_back types.Boolean fits = refl
type_back types.Byte fits = refl
type_back types.Short fits = refl
type_back types.Int fits = refl
type_back (types.Described n) fits = described n fits

pub field_writes : (at : ℕ) (x : FieldDescriptor) → FieldFits x → Writes field_descriptor at x (field_bytes x)
unfolding field_descriptor field_bytes
field_writes at x fits =
    then_writes (u1_writes at x.token)
    (then_writes (u1_writes _ x.flags)
    (then_writes (place_writes _ x.flags x.place fits.place)
    (last_writes (table_writes type_of _ (type_number x.type_) x.type_ (number_fits x.type_ fits.type)
    (type_back x.type_ fits.type)) refl)))

pub method_descriptor_writes : (at : ℕ) (x : MethodDescriptor) → MethodDescriptorFits x
    → Writes method_descriptor at x (method_descriptor_bytes x)
unfolding method_descriptor method_descriptor_bytes code_bytes
method_descriptor_writes at x fits =
    then_writes (u1_writes at x.token)
    (then_writes (u1_writes _ x.flags)
    (then_writes (two_writes _ x.offset fits.offset)
    (then_writes (two_writes _ x.type_offset fits.type_offset)
    (then_writes (two_writes _ x.bytecode_count fits.bytecode_count)
    (then_writes (two_writes _ x.handler_count fits.handler_count)
    (last_writes (two_writes _ x.first_handler fits.first_handler) refl))))))

pub class_descriptor_writes : (at : ℕ) (x : ClassDescriptor) → ClassDescriptorFits x
    → Writes class_descriptor at x (class_descriptor_bytes x)
unfolding class_descriptor class_descriptor_bytes
class_descriptor_writes at x fits =
    then_writes (u1_writes at x.token)
    (then_writes (u1_writes _ x.flags)
    (then_writes (class_ref_writes _ x.this_class fits.this_class)
    (then_writes (one_writes _ (length x.interfaces) fits.interface_count)
    (then_writes (two_writes _ (length x.fields) fits.field_count)
    (then_writes (two_writes _ (length x.methods) fits.method_count)
    (then_writes (class_refs_write _ (length x.interfaces) x.interfaces refl fits.interfaces)
    (then_writes (repeated_writes field_descriptor field_bytes FieldFits field_writes _ (length x.fields) x.fields refl
    fits.fields)
    (last_writes (repeated_writes method_descriptor method_descriptor_bytes MethodDescriptorFits
    method_descriptor_writes _ (length x.methods) x.methods refl fits.methods) refl))))))))

-- ---- types

-- nibbles in pairs, and none behind them
record InPairs (ns : List ℕ) : Type 0 where
  pairs : List ℕ
  bytes : packed None ns ≡ pairs
  back : flat_map two_nibbles pairs ≡ ns
  count : length ns ≡ 2 * length pairs

-- nibbles in pairs, and one behind them
record OneBehind (ns : List ℕ) : Type 0 where
  pairs : List ℕ
  last : ℕ
  small : last < 16
  bytes : packed None ns ≡ pairs ++ nibbles last 0
  back : flat_map two_nibbles pairs ++ last ∷ [] ≡ ns
  count : length ns ≡ 2 * length pairs + 1

two_back : (a b : ℕ) → a < 16 → b < 16 → two_nibbles (a % 16 * 16 + b % 16) ≡ a ∷ b ∷ []
two_back a b h l =
    let e : a % 16 ≡ a = grind arith in
    let f : b % 16 ≡ b = grind arith in
    let high : (a % 16 * 16 + b % 16) / 16 ≡ a = omega arith in
    let low : (a % 16 * 16 + b % 16) % 16 ≡ b = omega arith in
    rw (high, low) refl

split : (ns : List ℕ) → AllByRecursion (λ n. n < 16) ns → InPairs ns ⊎ OneBehind ns
split [] fits = inl (record { pairs = []; bytes = refl; back = refl; count = refl })
split (a ∷ []) fits = inr (record { pairs = []; last = a; small = fits.0; bytes = refl; back = refl; count = refl })
split (a ∷ b ∷ ns) fits =
    let byte = a % 16 * 16 + b % 16 in
    let two : two_nibbles byte ≡ a ∷ b ∷ [] = two_back a b fits.0 fits.1.0 in
    elim (split ns fits.1.1) [
      | inl w ↦ inl (record {
        pairs = byte ∷ w.pairs;
        bytes = ap (λ (bs : List ℕ). byte ∷ bs) w.bytes;
        back = flat_map-cons two_nibbles byte w.pairs ∙ ap (λ (xs : List ℕ). xs ++ flat_map two_nibbles w.pairs) two
            ∙ ap (λ (xs : List ℕ). a ∷ b ∷ xs) w.back;
        count = omega (arith, w.count);
      })
      | inr w ↦ inr (record {
        pairs = byte ∷ w.pairs;
        last = w.last;
        small = w.small;
        bytes = ap (λ (bs : List ℕ). byte ∷ bs) w.bytes;
        back = ap (λ (xs : List ℕ). xs ++ w.last ∷ []) (flat_map-cons two_nibbles byte w.pairs ∙ ap (λ (xs : List ℕ). xs
            ++ flat_map two_nibbles w.pairs) two) ∙ ap (λ (xs : List ℕ). a ∷ b ∷ xs) w.back;
        count = omega (arith, w.count);
      })
    ]

last_alone : (last : ℕ) → last < 16 → high_nibble (last % 16 * 16 + 0 % 16) ≡ Some last
last_alone last small =
    let e : last % 16 ≡ last = grind arith in
    let low : eqb ((last % 16 * 16 + 0 % 16) % 16) 0 ≡ true = grind arith in
    let high : (last % 16 * 16 + 0 % 16) / 16 ≡ last = omega arith in
    rw (low, high) refl

ended_even : (at : ℕ) (odd : Bool) (before ns : List ℕ) → odd ≡ false → before ≡ ns
    → (let x : TypeDescriptor = record { nibbles = ns } in Writes (ended odd before) at x [])
unfolding ended
ended_even at odd before ns even is = rw (even, is) (gives_writes _ at)

ended_odd : (at last : ℕ) (odd : Bool) (before ns : List ℕ) → odd ≡ true → last < 16 → before ++ last ∷ [] ≡ ns
    → (let x : TypeDescriptor = record { nibbles = ns } in Writes (ended odd before) at x (nibbles last 0))
unfolding ended
ended_odd at last odd before ns is_odd small is =
    rw is_odd (last_writes (number1_writes high_nibble at (last % 16 * 16 + 0 % 16) last (last_alone last small))
    (ap (λ (xs : List ℕ). record { nibbles = xs }) is))

pairs_write : (at : ℕ) (x : TypeDescriptor) → InPairs x.nibbles → length x.nibbles < 2 ^ 8
    → Writes type_descriptor at x (one (length x.nibbles) ++ packed None x.nibbles)
unfolding type_descriptor
pairs_write at x w lt =
    let even : eqb (length x.nibbles % 2) 1 ≡ false = ap (λ n. eqb (n % 2) 1) w.count ∙ grind arith in
    let half : length w.pairs ≡ length x.nibbles / 2 = omega (arith, w.count) in
    let whole : w.pairs ++ [] ≡ packed None x.nibbles = append-nil w.pairs ∙ sym w.bytes in
    subst (λ (bs : List ℕ). Writes type_descriptor at x (one (length x.nibbles) ++ bs)) whole (
    then_writes (one_writes at (length x.nibbles) lt)
    (then_writes (items_write _ (length x.nibbles / 2) w.pairs half)
    (ended_even _ (eqb (length x.nibbles % 2) 1) (flat_map two_nibbles w.pairs) x.nibbles even w.back)))

behind_writes : (at : ℕ) (x : TypeDescriptor) → OneBehind x.nibbles → length x.nibbles < 2 ^ 8
    → Writes type_descriptor at x (one (length x.nibbles) ++ packed None x.nibbles)
unfolding type_descriptor
behind_writes at x w lt =
    let odd : eqb (length x.nibbles % 2) 1 ≡ true = ap (λ n. eqb (n % 2) 1) w.count ∙ grind arith in
    let half : length w.pairs ≡ length x.nibbles / 2 = omega (arith, w.count) in
    subst (λ (bs : List ℕ). Writes type_descriptor at x (one (length x.nibbles) ++ bs)) (sym w.bytes) (
    then_writes (one_writes at (length x.nibbles) lt)
    (then_writes (items_write _ (length x.nibbles / 2) w.pairs half)
    (ended_odd _ w.last (eqb (length x.nibbles % 2) 1) (flat_map two_nibbles w.pairs) x.nibbles odd w.small w.back)))

pub type_writes : (at : ℕ) (x : TypeDescriptor) → TypeDescriptorFits x → Writes type_descriptor at x (type_bytes x)
unfolding type_bytes
type_writes at x fits = elim (split x.nibbles fits.nibbles) [
  | inl w ↦ pairs_write at x w fits.count
  | inr w ↦ behind_writes at x w fits.count
]

some_type : (x : TypeDescriptor) → 0 < length (type_bytes x)
unfolding type_bytes
some_type x = omega arith

pub descriptor_writes : (at end : ℕ) (x : Descriptor) → at + length (descriptor_bytes x) ≡ end → DescriptorFits x
    → Writes (descriptor end) at x (descriptor_bytes x)
unfolding descriptor descriptor_bytes types_bytes
descriptor_writes at end x fill fits =
    let classes = flat_map class_descriptor_bytes x.classes in
    let pool = flat_map two x.pool_types in
    let types = flat_map type_bytes x.types in
    let outer : length (classes ++ (two (length x.pool_types) ++ (pool ++ types))) ≡ length classes + length
    (two (length x.pool_types) ++ (pool ++ types)) = length-append classes _ in
    let inner : length (pool ++ types) ≡ length pool + length types = length-append pool types in
    then_writes (one_writes at (length x.classes) fits.count)
    (then_writes (repeated_writes class_descriptor class_descriptor_bytes ClassDescriptorFits class_descriptor_writes _
    (length x.classes) x.classes refl fits.classes)
    (then_writes (two_writes _ (length x.pool_types) fits.pool_count)
    (then_writes (numbers_write _ (length x.pool_types) x.pool_types refl fits.pool_types)
    (last_writes (before_writes type_descriptor type_bytes TypeDescriptorFits type_writes some_type _ end end x.types
    (omega (arith, fill, outer, inner)) (omega arith) fits.types) refl))))
