-- What arrays and static cells hold before the first entry.
use Rattle.std.proofs.Common.{◌≡◌, ◌<◌, ◌+◌, ◌-◌, ◌*◌, ◌/◌, ◌%◌, ℕ, zero, suc, Bool, true, false, List, [], ◌∷◌}
use Rattle.std.proofs.Common.{◌++◌, length, map, replicate, slice_get, Some, None, refl, sym, ap, subst, ◌∙◌}
use Rattle.std.proofs.Common.{arith, inl, nat_lt, ltb-true, ltb-false, length-append, append-nil}
use Rattle.std.specs.Prelude.{◌==◌, if◌then◌else◌, option_and_then}
use Rattle.std.proofs.lemmas.List.Elements.{All-nil, All-cons}
use Rattle.std.specs.Int.{w8, w16, cast_signed}
use Rattle.cjc_card_semantics.specs.CapRead.declared.tree.ArrayInit.{ArrayInit}
use Rattle.cjc_card_semantics.specs.CapRead.declared.tree.StaticField.{StaticField}
use Rattle.cjc_script.specs.declared.value.Value.{Value}
use Rattle.cjc_script.specs.declared.value.Value.TheVariants.{Null, Obj}
use Rattle.cjc_script.specs.Sorts.{Element, Booleans, Bytes, Shorts, Ints}
use Rattle.cjc_card_semantics.specs.Bytecode.Numbers.{is_word}
use Rattle.cjc_card_semantics.specs.Bytecode.Effects.{HeapObject, Letter, Byte, Short, Int}
use Rattle.cjc_card_semantics.specs.Machine.Loaded.{Loaded, Part}
use Rattle.cjc_card_semantics.specs.Machine.Classes.{Class, Field}
use Rattle.cjc_card_semantics.specs.Machine.Statics.{Image, cell_in, cell_number, element_of, elements}
use Rattle.cjc_card_semantics.specs.Machine.Statics.{first_array, first_arrays, first_image, first_images, first_memory}
use Rattle.cjc_card_semantics.specs.Machine.Statics.{objects_from}
use Rattle.cjc_card_acts.specs.CardTypes.{ValueType, shape_by}
use Rattle.cjc_card_acts.specs.CardTypes as types
use Rattle.cjc_verify_proof.specs.Heaps.{thing_is, object_is, AreItems, IsFit, AreFit}
use Rattle.cjc_verify_proof.specs.References.{HoldsItems, AreHeld}
use Rattle.cjc_verify_proof.specs.Values.{Holds}
use Rattle.cjc_verify_proof.specs.Memories.{FieldTypes, HasSlots, HaveSlots, AreCells, IsMemory, AreBytes}
use Rattle.cjc_verify_proof.specs.Memories.{IsReferenceCell, IsCellOf, ImageFits}
use Rattle.cjc_script.proofs.BytesGets.{get_back, get_inside, in_front, item_there, mapped_at}
use Rattle.cjc_script.proofs.BytesNumbers.{length_replicated, number_same_number}
use Rattle.cjc_verify_proof.proofs.TypeLaws.{element_itself}
use Rattle.cjc_verify_proof.proofs.ImageLaws.{Moves, of_booleans, of_bytes, of_shorts, of_ints, of_references, moves}
use Rattle.cjc_verify_proof.proofs.ImageLaws.{HasBytes, size}
use Rattle.cjc_verify_proof.proofs.ImageLaws.{bytes_hold, byte_signed, short_signed}

-- ---- lists

objects_long : (k n : ℕ) → length (objects_from k n) ≡ n
objects_long k zero = refl
objects_long k (suc n) = ap suc (objects_long (k + 1) n)

objects_at : (k n j : ℕ) → j < n → slice_get (objects_from k n) j ≡ Some (Obj (k + j))
objects_at k zero j lt = absurd (omega (arith, lt))
objects_at k (suc n) zero lt = let z : k ≡ k + 0 = omega arith in ap (λ m. Some (Obj m)) z
objects_at k (suc n) (suc j) lt = let s : k + 1 + j ≡ k + suc j = omega arith
    in objects_at (k + 1) n j (omega (arith, lt)) ∙ ap (λ m. Some (Obj m)) s

same_at : (n j : ℕ) (v : Value) → j < n → slice_get (replicate n v) j ≡ Some v
same_at zero j v lt = absurd (omega (arith, lt))
same_at (suc n) zero v lt = refl
same_at (suc n) (suc j) v lt = same_at n j v (omega (arith, lt))

-- ---- arrays

element_words : (e : Element) (bytes : List ℕ) → AreItems e (elements e bytes)
element_words Ints bytes = tt
element_words Booleans [] = All-nil (λ z. is_word z ≡ true)
element_words Booleans (a ∷ bytes) = All-cons (λ z. is_word z ≡ true) (cast_signed w8 a) (elements Booleans bytes)
    (byte_signed a) (element_words Booleans bytes)
element_words Bytes [] = All-nil (λ z. is_word z ≡ true)
element_words Bytes (a ∷ bytes) = All-cons (λ z. is_word z ≡ true) (cast_signed w8 a) (elements Bytes bytes)
    (byte_signed a) (element_words Bytes bytes)
element_words Shorts [] = All-nil (λ z. is_word z ≡ true)
element_words Shorts (a ∷ []) = All-nil (λ z. is_word z ≡ true)
element_words Shorts (a ∷ b ∷ bytes) = All-cons (λ z. is_word z ≡ true) (cast_signed w16 (256 * a + b))
    (elements Shorts bytes) (short_signed (256 * a + b)) (element_words Shorts bytes)

module _ (l : Loaded) (t : FieldTypes) (part : Part) (fits : ImageFits l t part.statics) where
  abbrev s : StaticField
  s = part.statics

  abbrev heap : List (HeapObject Class Field)
  heap = first_arrays (part ∷ [])

  abbrev image : Image
  image = first_image 0 s

  heap_is : heap ≡ map first_array s.array_inits
  heap_is = append-nil (map first_array s.array_inits)

  -- all things are arrays of numbers
  each_first : (P : HeapObject Class Field → Type 0) → ((a : ArrayInit) → P (first_array a)) → (k : ℕ)
      (thing : HeapObject Class Field) → slice_get heap k ≡ Some thing → P thing
  each_first P each k thing e =
      let r = mapped_at first_array s.array_inits k thing (ap (λ h. slice_get h k) (sym heap_is) ∙ e) in
      subst P r.2 (each r.0)

  fit : AreFit heap
  fit = each_first IsFit (λ a. element_words (element_of a.type_) a.values)

  held : AreHeld l heap
  held = each_first (HoldsItems l heap) (λ a. tt)

  slots : HaveSlots l t heap
  slots = each_first (HasSlots l t heap) (λ a. tt)

  -- ---- the image

  references_long : length image.references ≡ s.reference_count
  references_long =
      let a = length-append (objects_from 0 (length s.array_inits)) (replicate (s.reference_count - length
      s.array_inits) Null) in
      let b = objects_long 0 (length s.array_inits) in
      let c = length_replicated {A = Value} (s.reference_count - length s.array_inits) Null in
      let d = fits.arrays in
      omega (arith, a, b, c, d)

  bytes_long : length image.bytes ≡ s.default_value_count + length s.values
  bytes_long =
      let a = length-append (replicate s.default_value_count 0) s.values in
      let b = length_replicated {A = ℕ} s.default_value_count 0 in
      omega (arith, a, b)

  has_bytes : (letter : Letter) (offset n : ℕ) → AreBytes s offset n → n ≡ size letter → HasBytes letter image offset
  has_bytes letter offset n b e =
      let r = references_long in
      let k = bytes_long in
      let low = b.behind in
      let high = b.within in
      record { behind = omega (arith, r, low); within = omega (arith, r, k, high, e) }

  reference_at : (name : List ℕ) (offset : ℕ) (r : IsReferenceCell l s offset name)
      → Holds (object_is l heap) (types.Reference name) (slice_get image.references r.number)
  reference_at name offset r = go (nat_lt r.number (length s.array_inits)) refl
    where
      objects : List Value
      objects = objects_from 0 (length s.array_inits)

      nulls : List Value
      nulls = replicate (s.reference_count - length s.array_inits) Null

      go : (b : Bool) → nat_lt r.number (length s.array_inits) ≡ b
          → Holds (object_is l heap) (types.Reference name) (slice_get (objects ++ nulls) r.number)
      go true e =
          let lt = ltb-true r.number (length s.array_inits) e in
          let a = get_inside s.array_inits r.number lt in
          let z : 0 + r.number ≡ r.number = omega arith in
          let got : slice_get (objects ++ nulls) r.number ≡ Some (Obj r.number) = in_front objects nulls r.number
          (Obj r.number) (objects_at 0 (length s.array_inits) r.number lt ∙ ap (λ m. Some (Obj m)) z) in
          let there : slice_get heap r.number ≡ Some (first_array a.0) = ap (λ h. slice_get h r.number) heap_is
          ∙ item_there first_array s.array_inits r.number a.0 a.1 in
          let kind = r.array a.0 a.1 in
          let holds : object_is l heap name r.number ≡ true = ap (λ o. thing_is l o (shape_by l name)) there
          ∙ ap (λ k. thing_is l (Some (first_array a.0)) k) kind ∙ element_itself (let x = a.0 in element_of x.type_) in
          subst (Holds (object_is l heap) (types.Reference name)) (sym got) (record {
            type = name;
            among = inl refl;
            holds = holds;
          })
      go false e =
          let le = ltb-false r.number (length s.array_inits) e in
          let long = objects_long 0 (length s.array_inits) in
          let below = r.there in
          let got : slice_get (objects ++ nulls) r.number ≡ Some Null = get_back objects nulls r.number (omega (
            arith,
            long,
            le,
          ))
          ∙ same_at (s.reference_count - length s.array_inits) (r.number - length objects) Null (omega (
            arith,
            long,
            le,
            below,
          )) in
          subst (Holds (object_is l heap) (types.Reference name)) (sym got) tt

  in_image : (offset : ℕ) (type : ValueType) (letter : Letter) → IsCellOf l s offset type → Moves letter type
      → Holds (object_is l heap) type (cell_in letter image offset)
  in_image offset _ _ c of_booleans = bytes_hold (object_is l heap) of_booleans tt image offset
      (has_bytes Byte offset 1 c
      refl)
  in_image offset _ _ c of_bytes = bytes_hold (object_is l heap) of_bytes tt image offset
      (has_bytes Byte offset 1 c refl)
  in_image offset _ _ c of_shorts = bytes_hold (object_is l heap) of_shorts tt image offset (has_bytes Short offset 2 c
      refl)
  in_image offset _ _ c of_ints = bytes_hold (object_is l heap) of_ints tt image offset (has_bytes Int offset 4 c refl)
  in_image offset _ _ c (of_references name) =
      let at = c.at in
      let zero_left : offset % 2 ≡ 0 = omega (arith, at) in
      let even : (offset % 2 == 0) ≡ true = number_same_number (offset % 2) 0 zero_left in
      let half : offset / 2 ≡ c.number = omega (arith, at) in
      let number : cell_number offset ≡ Some c.number = ap (λ b. if b then Some (offset / 2) else None) even
      ∙ ap (λ n. Some n) half in
      subst (Holds (object_is l heap) (types.Reference name)) (sym (ap (option_and_then (slice_get image.references))
      number)) (reference_at name offset c)

  cells : AreCells l t heap (first_images 0 (part ∷ []))
  cells c type letter typed moved =
      let r = fits.cells c type typed in
      subst (λ p. Holds (object_is l heap) type (option_and_then (λ (i : Image). cell_in letter i c.offset) (slice_get
      (image ∷ []) p))) (sym r.0) (in_image c.offset type letter r.1 (moves letter type moved))

-- what memory holds before the first entry, of a lone package
pub first_holds : (l : Loaded) (t : FieldTypes) (part : Part) → l.parts ≡ part ∷ [] → ImageFits l t part.statics
    → IsMemory l t (first_memory l)
first_holds l t part alone fits =
    subst (λ (parts : List Part). IsMemory l t (record {
      heap = first_arrays parts;
      statics = first_images 0 parts;
    })) (sym alone) (record {
      numbers = fit l t part fits;
      references = held l t part fits;
      slots = slots l t part fits;
      cells = cells l t part fits;
    })
