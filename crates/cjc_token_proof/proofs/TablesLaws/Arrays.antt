-- The arrays that are made before the first entry hold by token what they hold by name.
use Rattle.std.proofs.Common.{◌≡◌, ℕ, zero, suc, refl, sym, ap, subst, ◌∙◌, arith, Bool, true, false, List, [], ◌∷◌}
use Rattle.std.proofs.Common.{append-nil, ℤ, pos, negsuc}
use Rattle.std.specs.Prelude.{◌&&◌, map, replicate, slice_set, Some, None, if◌then◌else◌, ◌==◌, ◌+◌, ◌*◌, ◌/◌, ◌%◌}
use Rattle.std.specs.Int.{w8, w16, w32, cast_signed, cast_unsigned}
use Rattle.std.specs.Int.RustNames.{int_le}
use Rattle.std.specs.List.{AllByRecursion, flat_map}
use Rattle.std.proofs.lemmas.Int.{ints}
use Rattle.std.proofs.lemmas.List.Concat.{flat_map-cons}
use Rattle.cjc_bytes.specs.declared.fault.MemberId.{MemberId}
use Rattle.cjc_bytes.specs.declared.descriptor.Kind.{Kind}
use Rattle.cjc_bytes.proofs.Bools.{both_front, both_back}
use Rattle.cjc_bytes.proofs.Quantified.{all_both, all_same}
use Rattle.cjc_bytes.specs.declared.descriptor.Kind.TheVariants as kinds
use Rattle.cjc_card_semantics.specs.Bytecode.Effects.{HeapObject, Numbers}
use Rattle.cjc_card_semantics.specs.Bytecode.Effects as letters
use Rattle.cjc_card_semantics.specs.Bytecode.Renaming.{heap_object_as}
use Rattle.cjc_card_semantics.specs.Machine.Classes.{Class, Field}
use Rattle.cjc_card_semantics.specs.Machine.Statics.{element_of, elements, first_arrays}
use Rattle.cjc_card_semantics.specs.Machine.Statics as card
use Rattle.cjc_world.specs.ClassFile.declared.tree.ClassTree.{ClassTree}
use Rattle.cjc_world_proof.specs.Bytecode.declared.insn.JOp.{JOp}
use Rattle.cjc_world_proof.specs.Bytecode.declared.method_code.MethodCode.{MethodCode}
use Rattle.cjc_script.specs.Sorts.{Element}
use Rattle.cjc_script.specs.declared.value.Value.TheVariants.{Num}
use Rattle.cjc_world.specs.declared.image.ArrayCell.{ArrayCell}
use Rattle.cjc_world.specs.Files.{Files}
use Rattle.cjc_world_proof.specs.LowerClinit.declared.stage.Held.{Held}
use Rattle.cjc_world_proof.specs.LowerClinit.Fields.{Contents, fits}
use Rattle.cjc_world_proof.specs.LowerClinit.Image.{AreInitialised, IsImage, array_in, arrays_of, own_field}
use Rattle.cjc_world_proof.specs.LowerClinit.Image.AreInitialised.{none as no_code, other as other_code}
use Rattle.cjc_world_proof.specs.LowerClinit.Image.AreInitialised.{one as one_code}
use Rattle.cjc_world_proof.specs.LowerClinit.Initialiser.{Initialises, Makes, of_number, of_null, of_array, Put, Stores}
use Rattle.cjc_world_proof.specs.LowerClinit.Initialiser.{element_kind}
use Rattle.cjc_world_proof.specs.LowerClinit.Initialiser.Initialises.{ends, puts}
use Rattle.cjc_world_proof.specs.LowerClinit.Initialiser.Stores.{none as no_store, one as one_store}
use Rattle.cjc_components.specs.LowerNarrow.Rows.Package.{element_of_kind, first_memory}
use Rattle.cjc_components.specs.LowerNarrow.Rows.Package as narrow
use Rattle.cjc_token_proof.specs.ByToken.Objects.{slots_of}
use Rattle.cjc_token_proof.proofs.ByToken.Image.{read_back}
use Rattle.cjc_components.specs.Package.{Package}
use Rattle.cjc_components.specs.Names.{class_at}
use Rattle.cjc_components.specs.Statics.{array_init, element_bytes, type_number}
use Rattle.cjc_token_proof.specs.Tables.Loading.{loaded, naming}
use Rattle.cjc_token_proof.proofs.TablesLaws.Groups.{GroupsAre, groups_are}

-- ---- the items of an array

is_item_kind : Kind → Bool
is_item_kind kinds.Bool = true
is_item_kind kinds.Byte = true
is_item_kind kinds.Short = true
is_item_kind kinds.Int = true
is_item_kind _ = false

abbrev AllFit : Kind → List ℤ → Type 0
AllFit kind items = AllByRecursion (λ z. fits kind z ≡ true) items

-- an array of numbers of its kind
record IsGood (a : ArrayCell) : Type 0 where
  kind : is_item_kind a.kind ≡ true
  items : AllFit a.kind a.items

all_set : {A : Type 0} (P : A → Type 0) (xs : List A) (i : ℕ) (x : A) → AllByRecursion P xs → P x
    → AllByRecursion P (slice_set xs i x)
all_set P [] i x a h = tt
all_set P (y ∷ xs) zero x a h = (h, a.1)
all_set P (y ∷ xs) (suc i) x a h = (a.0, all_set P xs i x a.1 h)

stores_fit : (kind : Kind) (before after : List ℤ) (ops : List JOp) → Stores kind before ops after → AllFit kind before
    → AllFit kind after
stores_fit kind before after ops no_store a = a
stores_fit kind before after ops (one_store {items = items} {i = i} {z = z} {ops = more} lt h rest) a =
    stores_fit kind (slice_set items i z) after more rest (all_set (λ z. fits kind z ≡ true) items i z a h)

kind_good : (number : ℕ) (kind : Kind) → element_kind number ≡ Some kind → (is_item_kind kind ≡ true)
    × (fits kind (pos 0) ≡ true)
unfolding is_item_kind
kind_good number kind e = by (number == 4) (number == 8) (number == 9) (number == 10) e
  where
    at : (k : Kind) → Some k ≡ Some kind → is_item_kind k ≡ true → fits k (pos 0) ≡ true → (is_item_kind kind ≡ true)
        × (fits kind (pos 0) ≡ true)
    at k f g h = let is : k ≡ kind = cc in (ap is_item_kind (sym is) ∙ g, ap (λ q. fits q (pos 0)) (sym is) ∙ h)

    by : (a b c d : Bool) → (if a then Some kinds.Bool else if b then Some kinds.Byte else if c then Some kinds.Short
        else if d then Some kinds.Int else None) ≡ Some kind → (is_item_kind kind ≡ true) × (fits kind (pos 0) ≡ true)
    by true b c d f = at kinds.Bool f refl refl
    by false true c d f = at kinds.Byte f refl refl
    by false false true d f = at kinds.Short f refl refl
    by false false false true f = at kinds.Int f refl refl
    by false false false false f = cc

made_good : (field : MemberId) (made : List JOp) (contents : Contents) → Makes made contents
    → AllByRecursion IsGood (array_in field contents)
made_good field made contents of_number = tt
made_good field made contents of_null = tt
made_good field made contents (of_array {count = count} {number = number} {kind = kind} {ops = ops} {items = items} le
    is stores) =
    let k = kind_good number kind is in (
      record {
        kind = k.0;
        items = stores_fit kind (replicate count (pos 0)) items ops stores (all_same (λ z. fits kind z
            ≡ true) count (pos 0) k.1);
      },
      tt,
    )

puts_good : (files : Files) (n : ℕ) (t : ClassTree) (before after : List Held) (ops : List JOp) (ps : List Put)
    → Initialises files n t before ops ps after → AllByRecursion IsGood (arrays_of t ps)
puts_good files n t before after ops ps ends = tt
puts_good files n t before after ops ps (puts {made = made} {ops = more} {contents = contents} {id = id} {rest = rest}
    makes place next) =
    all_both IsGood (array_in (own_field t id) contents) (arrays_of t rest) (made_good (own_field t id) made contents
    makes) (puts_good files n t _ after more rest next)

all_good : (files : Files) (before after : List (List Held)) (codes : List MethodCode) (arrays : List ArrayCell)
    → AreInitialised files before codes arrays after → AllByRecursion IsGood arrays
all_good files before after codes arrays no_code = tt
all_good files before after codes arrays (other_code {codes = more} is rest) = all_good files before after more arrays
    rest
all_good files before after codes arrays (one_code {code = code} {codes = more} {arrays = made} c ps fields is says
    rest) =
    all_both IsGood (arrays_of c ps) made (puts_good files code.class c _ fields _ ps says) (all_good files _ after more
    made rest)

-- ---- bytes of items

wider : (z : ℤ) → (int_le (pos 0) z && int_le z (pos 1)) ≡ true → (int_le (negsuc 127) z && int_le z (pos 127)) ≡ true
wider z e =
    let a = both_front (int_le (pos 0) z) (int_le z (pos 1)) e in
    let b = both_back (int_le (pos 0) z) (int_le z (pos 1)) e in
    let low : int_le (negsuc 127) z ≡ true = grind (arith, ints, a) in
    let high : int_le z (pos 127) ≡ true = grind (arith, ints, b) in
    ap (λ q. q && int_le z (pos 127)) low ∙ high

byte_back : (z : ℤ) → (int_le (negsuc 127) z && int_le z (pos 127)) ≡ true → cast_signed w8 (cast_unsigned w8 z) ≡ z
byte_back z e = let r : Some (Num (cast_signed w8 (cast_unsigned w8 z))) ≡ Some (Num z) =
    read_back letters.Byte (Num z) [] refl e in cc

numbers_back : (kind : Kind) → is_item_kind kind ≡ true → (items : List ℤ) → AllFit kind items
    → elements (element_of_kind kind) (flat_map (element_bytes kind) items) ≡ items
unfolding is_item_kind
numbers_back kinds.Bool k [] a = refl
numbers_back kinds.Bool k (z ∷ items) a =
    ap (elements (element_of_kind kinds.Bool)) (flat_map-cons (element_bytes kinds.Bool) z items)
    ∙ ap (λ x. x ∷ elements (element_of_kind kinds.Bool) (flat_map (element_bytes kinds.Bool) items))
    (byte_back z (wider z a.0)) ∙ ap (λ xs. z ∷ xs) (numbers_back kinds.Bool k items a.1)
numbers_back kinds.Byte k [] a = refl
numbers_back kinds.Byte k (z ∷ items) a =
    ap (elements (element_of_kind kinds.Byte)) (flat_map-cons (element_bytes kinds.Byte) z items)
    ∙ ap (λ x. x ∷ elements (element_of_kind kinds.Byte) (flat_map (element_bytes kinds.Byte) items))
    (byte_back z a.0) ∙ ap (λ xs. z ∷ xs) (numbers_back kinds.Byte k items a.1)
numbers_back kinds.Short k [] a = refl
numbers_back kinds.Short k (z ∷ items) a =
    let n = cast_unsigned w16 z in
    let back : cast_signed w16 (256 * (n / 256) + n % 256) ≡ z =
    (let r : Some (Num (cast_signed w16 (256 * (n / 256) + n % 256))) ≡ Some (Num z) = read_back letters.Short
    (Num z) [] refl a.0 in cc) in
    ap (elements (element_of_kind kinds.Short)) (flat_map-cons (element_bytes kinds.Short) z items)
    ∙ ap (λ x. x ∷ elements (element_of_kind kinds.Short) (flat_map (element_bytes kinds.Short) items)) back
    ∙ ap (λ xs. z ∷ xs) (numbers_back kinds.Short k items a.1)
numbers_back kinds.Int k [] a = refl
numbers_back kinds.Int k (z ∷ items) a =
    let n = cast_unsigned w32 z in
    let back : cast_signed w32 (16777216 * (n / 16777216) + 65536 * (n / 65536 % 256) + 256 * (n / 256 % 256) + n % 256)
    ≡ z =
    (let r : Some (Num (cast_signed w32 (16777216 * (n / 16777216) + 65536 * (n / 65536 % 256) + 256 * (n / 256 % 256) +
    n % 256))) ≡ Some (Num z) = read_back letters.Int (Num z) [] refl a.0 in cc) in
    ap (elements (element_of_kind kinds.Int)) (flat_map-cons (element_bytes kinds.Int) z items)
    ∙ ap (λ x. x ∷ elements (element_of_kind kinds.Int) (flat_map (element_bytes kinds.Int) items)) back
    ∙ ap (λ xs. z ∷ xs) (numbers_back kinds.Int k items a.1)
numbers_back kinds.Other k items a = cc
numbers_back kinds.Ref k items a = cc
numbers_back kinds.Void k items a = cc

element_is : (kind : Kind) → is_item_kind kind ≡ true → element_of (type_number kind) ≡ element_of_kind kind
unfolding is_item_kind
element_is kinds.Bool k = refl
element_is kinds.Byte k = refl
element_is kinds.Short k = refl
element_is kinds.Int k = refl
element_is kinds.Other k = cc
element_is kinds.Ref k = cc
element_is kinds.Void k = cc

abbrev numbers_of : Element → List ℤ → HeapObject Class Field
numbers_of e items = Numbers e items

module _ (p : Package) where
  one_array : (a : ArrayCell) → IsGood a → card.first_array (array_init a) ≡ heap_object_as (class_at p)
      (slots_of (naming p)) (narrow.first_array a)
  one_array a g =
      ap (λ e. numbers_of e (elements e (flat_map (element_bytes a.kind) a.items))) (element_is a.kind g.kind)
      ∙ ap (λ zs. numbers_of (element_of_kind a.kind) zs) (numbers_back a.kind g.kind a.items g.items)

  each_array : (arrays : List ArrayCell) → AllByRecursion IsGood arrays → map card.first_array (map array_init arrays)
      ≡ map (heap_object_as (class_at p) (slots_of (naming p))) (map narrow.first_array arrays)
  each_array [] g = refl
  each_array (a ∷ arrays) g =
      ap (λ o. o ∷ map card.first_array (map array_init arrays)) (one_array a g.0)
      ∙ ap (λ os. heap_object_as (class_at p) (slots_of (naming p)) (narrow.first_array a)
      ∷ os) (each_array arrays g.1)

  pub arrays_begin : (codes : List MethodCode) → IsImage p.files codes p.image
      → (let l = loaded p in first_arrays l.parts) ≡ map (heap_object_as (class_at p) (slots_of (naming p)))
      (let m = first_memory p.files p.image in m.heap)
  arrays_begin codes image =
      let classes = (let files = p.files in files.classes) in
      let groups = subst (λ i. GroupsAre image.fields i classes image.arrays) (sym image.is) (groups_are image.fields
      classes image.arrays) in
      let good : AllByRecursion IsGood (let i = p.image in i.arrays) = subst (AllByRecursion IsGood) (sym groups.array)
      (all_good p.files _ image.fields codes image.arrays image.initialises) in
      append-nil (map card.first_array (map array_init (let i = p.image in i.arrays))) ∙ each_array (let i = p.image
      in i.arrays) good
