-- The static image has the cells of the package's static fields.
use Rattle.std.proofs.Common.{◌≡◌, ◌≤◌, ◌<◌, ◌+◌, ◌-◌, ◌*◌, ℕ, zero, suc, Bool, true, false, List, [], ◌∷◌, ◌++◌}
use Rattle.std.proofs.Common.{length, map, slice_get, Option, Some, None, refl, sym, ap, subst, ◌∙◌, arith}
use Rattle.std.proofs.Common.{append_assoc, length-append, leb-false, leb-true}
use Rattle.std.specs.Prelude.{◌==◌, codes, nat_le, sum_by, option_and_then, option_map, if◌then◌else◌}
use Rattle.std.specs.Str.{bytes_eq}
use Rattle.std.specs.List.{find}
use Rattle.std.proofs.lemmas.List.Sums.{sum_by-cons, sum_by-append}
use Rattle.cjc_bytes.specs.Spots.{after, bad_at, desc_of, parts_of, types_from}
use Rattle.cjc_bytes.specs.declared.fault.MemberId.{MemberId}
use Rattle.cjc_capread.specs.declared.tree.ClassRef.{ClassRef}
use Rattle.cjc_capread.specs.declared.tree.ClassRef.TheVariants.{Inside, Outside}
use Rattle.cjc_capread.specs.declared.tree.StaticField.{StaticField}
use Rattle.cjc_check_rules.specs.declared.spot.ComponentPlace.{ComponentPlace}
use Rattle.cjc_check_rules.specs.Spots.{in_info}
use Rattle.cjc_check_rules.specs.Complete.{Complete, array_size}
use Rattle.cjc_check_rules.specs.Consistent.{break_at}
use Rattle.cjc_world.specs.declared.image.ArrayCell.{ArrayCell}
use Rattle.cjc_world.specs.declared.image.ValueCell.{ValueCell}
use Rattle.cjc_world.specs.declared.image.StaticImage.{StaticImage}
use Rattle.cjc_world.specs.Classes.{all_classes}
use Rattle.cjc_world.specs.Files.{Files}
use Rattle.cjc_token_proof.specs.NCode.PoolOrder.{same_member}
use Rattle.cjc_card_semantics.specs.Script.Sorts.{Element, Booleans, Bytes, Shorts, Ints, Shape, OfClass, OfNumbers}
use Rattle.cjc_card_semantics.specs.Script.Sorts.{OfReferences}
use Rattle.cjc_card_semantics.specs.Script.Sorts.{Sort}
use Rattle.cjc_card_semantics.specs.Script.Sorts.{Boolean, Byte, Short, Int, Reference, NoValue, field_sort}
use Rattle.cjc_card_semantics.specs.Machine.Loaded.{Loaded}
use Rattle.cjc_card_semantics.specs.Machine.Statics.{StaticCell, element_of}
use Rattle.cjc_card_acts.specs.CardTypes.{ValueType, shape_by, types_in}
use Rattle.cjc_card_acts.specs.CardTypes as types
use Rattle.cjc_components.specs.Paired.Pairs.{ArePaired, cell_spots, count_spots, has_cells, method_spots, number_bytes}
use Rattle.cjc_components.specs.Paired.Pairs as paired
use Rattle.cjc_components.specs.Statics.{cell_offset, cell_order, cell_size, offset_from, size_of_field}
use Rattle.cjc_components.specs.Types.{array_nibble, ref_nibbles, shape_nibbles, sort_nibbles}
use Rattle.cjc_token_proof.specs.ByToken.Objects.{is_reference as is_reference_sort}
use Rattle.cjc_token_proof.specs.Tables.Sound.{IsTyped}
use Rattle.cjc_verify.specs.Described.{all_array_spots, array_number, array_spots, described_spots, is_number}
use Rattle.cjc_verify.specs.Named.{cell_desc}
use Rattle.cjc_verify.specs.Pairs.{Pair, class_ref, is_card_sort, pair_of}
use Rattle.cjc_verify.specs.Verified.{IsVerified, class_breaks, header_breaks, listed}
use Rattle.cjc_verify_proof.specs.Memories.{AreBytes, IsCellOf, ImageFits}
use Rattle.cjc_verified_proof.specs.PackageTypes.{HasSorts, field_types, type_of_desc, type_said}
use Rattle.cjc_bytes.proofs.Bools.{and_true}
use Rattle.cjc_bytes.proofs.BrokenRules.{among_left, among_right}
use Rattle.cjc_bytes.proofs.Gets.{find_got, get_back, get_below, get_front}
use Rattle.cjc_bytes.proofs.Lists.{bytes_true, length_mapped, none_left}
use Rattle.cjc_bytes.proofs.Numbers.{number_same}
use Rattle.cjc_token_proof.proofs.ByToken.Members.{member_tells, member_same}
use Rattle.cjc_verified_proof.proofs.EntryLaws.{beside_none, no_spots, unless_holds}
use Rattle.cjc_verified_proof.proofs.DeclaredLaws.{said_of}

-- ---- cells in their order

-- the bytes of so many cells
abbrev before : List MemberId → ℕ → ℕ
before fs zero = 0
before [] (suc j) = 0
before (g ∷ fs) (suc j) = size_of_field g + before fs j

record IsAt (at : ℕ) (fs : List MemberId) (f : MemberId) : Type 0 where
  place : ℕ
  there : slice_get fs place ≡ Some f
  offset : offset_from at fs f ≡ at + before fs place

-- where the cell of a field stands
found_at : (at : ℕ) (fs : List MemberId) (f : MemberId) (k : ℕ) → slice_get fs k ≡ Some f → IsAt at fs f
found_at at [] f k e = cc
found_at at (g ∷ fs) f k e = by (same_member g f) refl k e (λ j h. found_at (at + size_of_field g) fs f j h)
  where
    by : (b : Bool) → same_member g f ≡ b → (k : ℕ) → slice_get (g ∷ fs) k ≡ Some f
        → ((j : ℕ) → slice_get fs j ≡ Some f → IsAt (at + size_of_field g) fs f) → IsAt at (g ∷ fs) f
    by true is k h rest = record {
      place = 0;
      there = ap (λ x. Some x) (member_tells g f is);
      offset = ap (λ b. if b then at else offset_from (at + size_of_field g) fs f) is
          ∙ (let z : at ≡ at + 0 = omega arith in z);
    }
    by false off zero h rest =
        let same : g ≡ f = cc in
        let clash : true ≡ false = sym (ap (λ x. same_member x f) same ∙ member_same f) ∙ off in
        cc
    by false off (suc k) h rest =
        let r = rest k h in
        let more = r.offset in
        record {
          place = suc r.place;
          there = r.there;
          offset = ap (λ b. if b then at else offset_from (at + size_of_field g) fs f) off
              ∙ (let z : offset_from (at + size_of_field g) fs f ≡ at + (size_of_field g + before fs r.place) =
              omega (arith, more) in z);
        }

reference_size : (s : Sort) → is_reference_sort s ≡ true → cell_size s ≡ 2
reference_size (Reference shape) e = refl
reference_size Boolean e = cc
reference_size Byte e = cc
reference_size Short e = cc
reference_size Int e = cc
reference_size NoValue e = cc

-- references have two bytes each
before_references : (rs ns : List MemberId) → ((k : ℕ) (f : MemberId) → slice_get rs k ≡ Some f → size_of_field f ≡ 2)
    → (j : ℕ) → j ≤ length rs → before (rs ++ ns) j ≡ 2 * j
before_references rs ns two zero le = refl
before_references [] ns two (suc j) le = absurd (omega (arith, le))
before_references (r ∷ rs) ns two (suc j) le =
    let one = two 0 r refl in
    let rest = before_references rs ns (λ k f e. two (suc k) f e) j (omega (arith, le)) in
    omega (arith, one, rest)

before_numbers : (rs ns : List MemberId) → ((k : ℕ) (f : MemberId) → slice_get rs k ≡ Some f → size_of_field f ≡ 2)
    → (i : ℕ) → before (rs ++ ns) (length rs + i) ≡ 2 * length rs + before ns i
before_numbers [] ns two i = let z : 0 + i ≡ i = omega arith in ap (before ns) z ∙ (let y : before ns i ≡ 2 * 0
    + before ns i = omega arith in y)
before_numbers (r ∷ rs) ns two i =
    let one = two 0 r refl in
    let rest = before_numbers rs ns (λ k f e. two (suc k) f e) i in
    let s : suc (length rs) + i ≡ suc (length rs + i) = omega arith in
    ap (before (r ∷ (rs ++ ns))) s ∙ (let y : size_of_field r + before (rs ++ ns) (length rs + i) ≡ 2 * suc (length rs)
    + before ns i = omega (arith, one, rest) in y)

-- a cell lies within all of them
within_all : (ns : List MemberId) (i : ℕ) (f : MemberId) → slice_get ns i ≡ Some f
    → before ns i + size_of_field f ≤ sum_by size_of_field ns
within_all [] i f e = cc
within_all (n ∷ ns) zero f e =
    let same : n ≡ f = cc in
    let size = ap size_of_field same in
    let s = sum_by-cons size_of_field n ns in
    omega (arith, size, s)
within_all (n ∷ ns) (suc i) f e =
    let r = within_all ns i f e in
    let s = sum_by-cons size_of_field n ns in
    omega (arith, r, s)

others_sum : (vs : List ValueCell) → sum_by size_of_field (map (λ (v : ValueCell). v.field) vs)
    ≡ sum_by (λ (v : ValueCell). size_of_field v.field) vs
others_sum [] = refl
others_sum (v ∷ vs) = sum_by-cons size_of_field v.field (map (λ (x : ValueCell). x.field) vs)
    ∙ ap (λ n. size_of_field v.field + n) (others_sum vs) ∙ sym (sum_by-cons (λ (x : ValueCell). size_of_field x.field)
    v vs)

-- ---- types

number_cell : (l : Loaded) (st : StaticField) (offset : ℕ) (ref : List ℕ → ClassRef) (s : Sort) → is_card_sort s ≡ true
    → is_reference_sort s ≡ false → AreBytes st offset (cell_size s) → IsCellOf l st offset (type_said
    (sort_nibbles ref s))
unfolding types_in
number_cell l st offset ref Boolean e r b = b
number_cell l st offset ref Byte e r b = b
number_cell l st offset ref Short e r b = b
number_cell l st offset ref Int e r b = b
number_cell l st offset ref (Reference shape) e r b = cc
number_cell l st offset ref NoValue e r b = cc

-- the type of a reference
type_is : (ref : List ℕ → ClassRef) (shape : Shape (List ℕ)) → type_said (sort_nibbles ref (Reference shape))
    ≡ types.Reference (shape_nibbles ref shape)
unfolding types_in
type_is ref (OfNumbers Booleans) = refl
type_is ref (OfNumbers Bytes) = refl
type_is ref (OfNumbers Shorts) = refl
type_is ref (OfNumbers Ints) = refl
type_is ref (OfClass class) = by (ref class)
  where
    by : (r : ClassRef) → type_said (6 ∷ ref_nibbles r) ≡ types.Reference (6 ∷ ref_nibbles r)
    by (Inside offset) = refl
    by (Outside import token) = refl
type_is ref (OfReferences class) = by (ref class)
  where
    by : (r : ClassRef) → type_said (0xE ∷ ref_nibbles r) ≡ types.Reference (0xE ∷ ref_nibbles r)
    by (Inside offset) = refl
    by (Outside import token) = refl

-- the sorts of arrays of numbers
array_sorts : (field_sort (codes "[Z") ≡ Reference (OfNumbers Booleans)) × (field_sort (codes "[B")
    ≡ Reference (OfNumbers Bytes)) × (field_sort (codes "[S") ≡ Reference (OfNumbers Shorts)) × (field_sort (codes "[I")
    ≡ Reference (OfNumbers Ints))
unfolding after bad_at types_from parts_of desc_of
array_sorts = (refl, refl, refl, refl)

-- an array that has the number of a field's type is of the field's shape
array_shape : (l : Loaded) (ref : List ℕ → ClassRef) (desc : List ℕ) (shape : Shape (List ℕ)) (n : ℕ)
    → field_sort desc ≡ Reference shape → is_number n (array_number desc) ≡ true
    → shape_by l (shape_nibbles ref shape) ≡ Some (OfNumbers (element_of n))
array_shape l ref desc shape n e h =
    by (bytes_eq desc (codes "[Z")) (bytes_eq desc (codes "[B")) (bytes_eq desc (codes "[S")) (bytes_eq desc
    (codes "[I")) (bytes_true desc (codes "[Z")) (bytes_true desc (codes "[B")) (bytes_true desc (codes "[S"))
    (bytes_true desc (codes "[I")) h
  where
    at : (text : List ℕ) (element : Element) → desc ≡ text → field_sort text ≡ Reference (OfNumbers element)
        → shape_by l (array_nibble element ∷ []) ≡ Some (OfNumbers element) → element_of n ≡ element
        → shape_by l (shape_nibbles ref shape) ≡ Some (OfNumbers (element_of n))
    at text element d f g k =
        let both : Reference shape ≡ Reference (OfNumbers element) = sym e ∙ ap field_sort d ∙ f in
        let same : shape ≡ OfNumbers element = cc in
        ap (λ (s : Shape (List ℕ)). shape_by l (shape_nibbles ref s)) same ∙ g
        ∙ ap (λ (x : Element). Some (OfNumbers x)) (sym k)

    by : (a b c d : Bool) → (a ≡ true → desc ≡ codes "[Z") → (b ≡ true → desc ≡ codes "[B")
        → (c ≡ true → desc ≡ codes "[S") → (d ≡ true → desc ≡ codes "[I") → is_number n (if a then Some 2 else if b
        then Some 3 else if c then Some 4 else if d then Some 5 else None) ≡ true
        → shape_by l (shape_nibbles ref shape) ≡ Some (OfNumbers (element_of n))
    by true b c d p q r s f = at (codes "[Z") Booleans (p refl) array_sorts.0 refl (ap element_of (number_same n 2 f))
    by false true c d p q r s f = at (codes "[B") Bytes (q refl) array_sorts.1 refl (ap element_of (number_same n 3 f))
    by false false true d p q r s f = at (codes "[S") Shorts (r refl) array_sorts.2 refl (ap element_of (number_same n
        4 f))
    by false false false true p q r s f = at (codes "[I") Ints (s refl) array_sorts.3 refl (ap element_of (number_same
        n 5 f))
    by false false false false p q r s f = cc

-- ---- the image

head_none : (xs : List ComponentPlace) → paired.head_of xs ≡ [] → xs ≡ []
head_none [] e = refl
head_none (x ∷ xs) e = cc

module _ (applets : Bool) (files : Files) (image : StaticImage) (c : Complete) (sorts : HasSorts image)
    (counts : ArePaired files image c) (room : (let s = c.statics in length s.array_inits ≤ s.reference_count))
    (verified : IsVerified (pair_of applets files image c)) where
  abbrev p : Pair
  p = pair_of applets files image c

  abbrev st : StaticField
  st = c.statics

  abbrev rs : List MemberId
  rs = map (λ (a : ArrayCell). a.field) image.arrays ++ image.nulls

  abbrev ns : List MemberId
  ns = image.zeros ++ map (λ (v : ValueCell). v.field) image.others

  order_is : cell_order image ≡ rs ++ ns
  order_is = sym (append_assoc (map (λ (a : ArrayCell). a.field) image.arrays) image.nulls ns)

  has : has_cells image st ≡ true
  has = unless_holds (has_cells image st) (in_info 8 0) (none_left (cell_spots image st)
      (count_spots (all_classes files) c.class ++ method_spots (all_classes files) c.descriptor)
      (head_none (cell_spots image st ++ (count_spots (all_classes files) c.class ++ method_spots (all_classes files)
      c.descriptor)) counts))

  references_are : st.reference_count ≡ length rs
  references_are =
      let h = and_true (st.reference_count == length image.arrays + length image.nulls) (st.default_value_count + length
      st.values == number_bytes image) has in
      let e = number_same st.reference_count (length image.arrays + length image.nulls) h.0 in
      let a = length-append (map (λ (x : ArrayCell). x.field) image.arrays) image.nulls in
      let b = length_mapped (λ (x : ArrayCell). x.field) image.arrays in
      omega (arith, e, a, b)

  bytes_are : st.default_value_count + length st.values ≡ sum_by size_of_field ns
  bytes_are =
      let h = and_true (st.reference_count == length image.arrays + length image.nulls) (st.default_value_count + length
      st.values == number_bytes image) has in
      let e = number_same (st.default_value_count + length st.values) (number_bytes image) h.1 in
      let a = sum_by-append size_of_field image.zeros (map (λ (v : ValueCell). v.field) image.others) in
      let b = others_sum image.others in
      omega (arith, e, a, b)

  arrays_none : all_array_spots p ≡ []
  arrays_none = no_spots 728 (all_array_spots p) (λ b among. verified b (listed b (among_left b (class_breaks p
      ++ header_breaks p ++ map (break_at 728) (all_array_spots p)) (map (break_at 721) (described_spots p))
      (among_right b (class_breaks p ++ header_breaks p) (map (break_at 728) (all_array_spots p)) among))))

  two_each : (k : ℕ) (f : MemberId) → slice_get rs k ≡ Some f → size_of_field f ≡ 2
  two_each k f e =
      let there : slice_get (cell_order image) k ≡ Some f = ap (λ fs. slice_get fs k) order_is ∙ get_front rs ns k
      (get_below rs k f e) ∙ e in
      let t = sorts.typed k f there in
      reference_size (field_sort f.desc) (t.reference ∙ sorts.references k f e)

  -- a cell by its place in the order
  cell_at : (f : MemberId) (offset place : ℕ) → slice_get (rs ++ ns) place ≡ Some f → offset
      ≡ before (rs ++ ns) place → (type : ValueType) → type_of_desc p f.desc ≡ Some type
      → IsCellOf p.loaded st offset type
  cell_at f offset place there at type is = by (nat_le (length rs) place) refl
    where
      ordered : slice_get (cell_order image) place ≡ Some f
      ordered = ap (λ fs. slice_get fs place) order_is ∙ there

      typed : IsTyped f.desc
      typed = sorts.typed place f ordered

      said : (is_card_sort (field_sort f.desc) ≡ true) × (type ≡ type_said (sort_nibbles (class_ref p) (field_sort
          f.desc)))
      said = said_of p f.desc type (sorts.described place f ordered) is

      by : (b : Bool) → nat_le (length rs) place ≡ b → IsCellOf p.loaded st offset type
      by true e =
          let le = leb-true (length rs) place e in
          let i = place - length rs in
          let split : place ≡ length rs + i = omega (arith, le) in
          let number : slice_get ns i ≡ Some f = sym (get_back rs ns place le) ∙ there in
          let off = ap (before (rs ++ ns)) split ∙ before_numbers rs ns two_each i in
          let inside = within_all ns i f number in
          let refs = references_are in
          let bytes = bytes_are in
          subst (IsCellOf p.loaded st offset) (sym said.1) (number_cell p.loaded st offset (class_ref p) (field_sort
          f.desc) said.0 (typed.reference ∙ sorts.numbers i f number) (record {
            behind = omega (arith, at, off, refs);
            within = omega (arith, at, off, refs, bytes, inside);
          }))
      by false e =
          let lt = leb-false (length rs) place e in
          let reference : slice_get rs place ≡ Some f = sym (get_front rs ns place lt) ∙ there in
          let off = before_references rs ns two_each place (omega (arith, lt)) in
          let refs = references_are in
          of_shape (field_sort f.desc) refl (typed.reference ∙ sorts.references place f reference) (omega (
            arith,
            at,
            off,
          )) (omega (arith, lt, refs))
        where
          of_shape : (s : Sort) → field_sort f.desc ≡ s → is_reference_sort s ≡ true → offset ≡ 2 * place
              → place < st.reference_count → IsCellOf p.loaded st offset type
          of_shape Boolean g r o lt = cc
          of_shape Byte g r o lt = cc
          of_shape Short g r o lt = cc
          of_shape Int g r o lt = cc
          of_shape NoValue g r o lt = cc
          of_shape (Reference shape) g r o lt =
              subst (IsCellOf p.loaded st offset) (sym (said.1 ∙ ap (λ (s : Sort). type_said (sort_nibbles (class_ref p)
              s)) g ∙ type_is (class_ref p) shape)) (record {
                number = place;
                at = o;
                there = lt;
                array = λ a e. (
                    let b = beside_none array_size array_spots 6 st.array_inits
                    (cell_order image) place a f arrays_none e
                    ordered in
                    array_shape p.loaded (class_ref p) f.desc shape a.type_ g (unless_holds (is_number a.type_
                    (array_number f.desc)) (in_info 8 b.0) b.1)
                    );
              })

  pub image_fits : ImageFits p.loaded (field_types p) st
  image_fits = record { arrays = room; cells = λ cell type e. by cell type (cell.part == 0) refl e }
    where
      in_order : (offset : ℕ) (type : ValueType) (o : Option MemberId) → find (λ (f : MemberId). cell_offset image f
          == offset) (cell_order image) ≡ o → option_and_then (type_of_desc p) (option_map (λ (f : MemberId). f.desc) o)
          ≡ Some type → IsCellOf p.loaded st offset type
      in_order offset type None g h = cc
      in_order offset type (Some f) g h =
          let got = find_got (λ (x : MemberId). cell_offset image x == offset) (cell_order image) f g in
          let place = found_at 0 (cell_order image) f got.0 got.1 in
          let same = number_same (cell_offset image f) offset got.2 in
          let spot = place.offset in
          let there : slice_get (rs ++ ns) place.place ≡ Some f = ap (λ fs. slice_get fs place.place) (sym order_is)
          ∙ place.there in
          let sum = ap (λ fs. before fs place.place) order_is in
          cell_at f offset place.place there (omega (arith, same, spot, sum)) type h

      by : (cell : StaticCell) (type : ValueType) (b : Bool) → (cell.part == 0) ≡ b
          → (if b then option_and_then (type_of_desc p) (cell_desc p cell.offset) else None) ≡ Some type
          → (cell.part ≡ 0) × IsCellOf p.loaded st cell.offset type
      by cell type false is h = cc
      by cell type true is h = (
        number_same cell.part 0 is,
        in_order cell.offset type (find (λ (f : MemberId). cell_offset image f == cell.offset)
            (cell_order image)) refl h,
      )
