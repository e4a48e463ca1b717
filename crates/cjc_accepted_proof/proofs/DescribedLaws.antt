-- Descriptor gives classes and members the tokens, flags, places and types of the package's, and entries of the
-- constant pool the types of their members.
use Rattle.std.proofs.Common.{◌≡◌, ℕ, zero, suc, ◌+◌, ◌*◌, ◌<◌, ◌≤◌, ◌==◌, ◌&&◌, ◌||◌, refl, sym, ap, ◌∙◌, arith}
use Rattle.std.proofs.Common.{Bool, true, false, not, List, [], ◌∷◌, ◌++◌, length, map, slice_get, Option, Some, None}
use Rattle.std.proofs.Common.{cond}
use Rattle.std.specs.Prelude.{flat_map, if◌then◌else◌, option_and_then, option_map, position, unwrap_or}
use Rattle.std.specs.List.{AllByRecursion, find}
use Rattle.std.specs.Str.{bytes_eq}
use Rattle.std.proofs.lemmas.Bool.Decides.{nat_tests}
use Rattle.std.proofs.lemmas.List.Concat.{flat_map-cons}
use Rattle.cjc_types.specs.Bytes.AccessFlags.{is_static}
use Rattle.cjc_types.proofs.BytesBools.{both_back}
use Rattle.cjc_types.proofs.BytesGets.{get_below, get_mapped, position_there}
use Rattle.cjc_types.proofs.BytesLists.{bytes_true, length_mapped, name_is, none_left, none_right}
use Rattle.cjc_types.proofs.BytesNumbers.{like_number, number_same_number}
use Rattle.cjc_verify.specs.CapRead.ClassRefs.{same_class}
use Rattle.cjc_verify.specs.CapRead.declared.tree.FieldDescriptor.{FieldDescriptor}
use Rattle.cjc_verify.specs.CapRead.declared.tree.FieldPlace.TheVariants as places
use Rattle.cjc_verify.specs.CapRead.declared.tree.PoolEntry.{PoolEntry}
use Rattle.cjc_verify.specs.CapRead.declared.tree.TypeDescriptor.{TypeDescriptor}
use Rattle.cjc_verify.specs.CheckRules.ClassRefs.{fields_begin, pool_count_at}
use Rattle.cjc_verify.specs.CheckRules.Complete.{described_size, type_size}
use Rattle.cjc_verify.specs.CheckRules.Described.{has_type, is_type, methods_begin, type_is_there}
use Rattle.cjc_verify.specs.CheckRules.Described.{type_of_entry}
use Rattle.cjc_verify.specs.CheckRules.Described.{type_of_field}
use Rattle.cjc_verify.specs.CheckRules.Described.{type_of_method, types_in_class, types_in_pool}
use Rattle.cjc_verify.specs.CheckRules.Spots.{Placed, along, begins, beside, in_info, item_at, placed, starts}
use Rattle.cjc_verify.specs.CheckRules.Spots.{unless}
use Rattle.cjc_verify.specs.CheckRules.declared.spot.ComponentPlace.{ComponentPlace}
use Rattle.cjc_check_proof.proofs.ClassesLaws.Lists.{begins_where, start_within}
use Rattle.cjc_verify.specs.Script.Sorts.{Boolean, Byte, Int, NoValue, OfClass, OfNumbers}
use Rattle.cjc_verify.specs.Script.Sorts.{OfReferences}
use Rattle.cjc_verify.specs.Script.Sorts.{Reference, Short, Signature, Sort, field_sort, signature_of}
use Rattle.cjc_types.specs.ClassFile.declared.tree.FieldTree.{FieldTree}
use Rattle.cjc_types.specs.World.Classes.{Class}
use Rattle.cjc_types.specs.World.Order.{class_order, methods_of_class}
use Rattle.cjc_types.specs.World.declared.found.Found.{Found}
use Rattle.cjc_check_proof.specs.Tokens.Fields.{is_constant}
use Rattle.cjc_verify.specs.Clinit.Image.{field_id}
use Rattle.cjc_check_proof.specs.NCode.Lowering.Naming.{entry_of}
use Rattle.cjc_check_proof.specs.NCode.declared.narrow.PoolKey.{PoolKey}
use Rattle.cjc_check_proof.specs.NCode.declared.narrow.PoolKey.TheVariants as keys
use Rattle.cjc_verify.specs.Components.Class.{fields_of}
use Rattle.cjc_verify.specs.Components.Descriptor.{class_descriptor, descriptor, field_descriptor}
use Rattle.cjc_verify.specs.Components.Descriptor.{field_place, field_type, fields_from, method_descriptor}
use Rattle.cjc_verify.specs.Components.Descriptor.{method_in, pool_type}
use Rattle.cjc_verify.specs.Components.Names.{class_ref, names}
use Rattle.cjc_verify.specs.Components.Package.{Package, pool, world}
use Rattle.cjc_verify.specs.Components.Statics.{cell_offset}
use Rattle.cjc_verify.specs.Components.Types.{desc_of_key, nibbles_by, nibbles_of, ref_nibbles}
use Rattle.cjc_verify.specs.Components.Types.{result_nibbles}
use Rattle.cjc_verify.specs.Components.Types.{sort_nibbles, type_descriptor, type_offset, type_starts, types_of}
use Rattle.cjc_check_proof.proofs.TokenProofTests.{none_in_both, passes}
use Rattle.cjc_verify.specs.Described.{are_nibbles, class_spots, described_spots, entry_spots}
use Rattle.cjc_verify.specs.Described.{field_spots, is_entry_type, is_field_type, is_place, method_spots}
use Rattle.cjc_verify.specs.Described.{nibbles_at, says, wanted_fields}
use Rattle.cjc_verify.specs.Described as described
use Rattle.cjc_verify.specs.Named.{named_desc}
use Rattle.cjc_verify.specs.Pairs.{Pair}
use Rattle.cjc_verify.specs.Pairs as pairs
use Rattle.cjc_accepted_proof.specs.Carded.{EntriesAreNamed, HasCardTypes, IsOnCard}
use Rattle.cjc_accepted_proof.specs.Written.{written_pair}
use Rattle.cjc_accepted_proof.proofs.InfosLaws.{both_hold}
use Rattle.cjc_accepted_proof.proofs.NamesLaws.{ref_alike, same_itself}

-- ---- lists

flat_same : {A B : Type 0} (f g : A → List B) → ((x : A) → f x ≡ g x) → (xs : List A) → flat_map f xs ≡ flat_map g xs
flat_same f g h [] = refl
flat_same f g h (x ∷ xs) =
    flat_map-cons f x xs
    ∙ ap (λ ys. ys ++ flat_map f xs) (h x)
    ∙ ap (λ ys. g x ++ ys) (flat_same f g h xs)
    ∙ sym (flat_map-cons g x xs)

-- nothing begins before the first
begins_low : {A : Type 0} (size : A → ℕ) (from : ℕ) (xs : List A) (offset : ℕ) → begins (placed size from xs) offset
    ≡ true → from ≤ offset
unfolding placed
begins_low size from [] offset e = absurd cc
begins_low size from (x ∷ xs) offset e = by (from == offset) refl e (begins_low size (from + size x) xs offset)
  where
    by : (b : Bool) → (from == offset) ≡ b → (b || begins (placed size (from + size x) xs) offset) ≡ true
        → (begins (placed size (from + size x) xs) offset ≡ true → from + size x ≤ offset) → from ≤ offset
    by true is f later = grind (arith, nat_tests, is)
    by false is f later = let low = later f in omega (arith, low)

-- an item begins at its start
item_there : {A : Type 0} (size : A → ℕ) → ((x : A) → 0 < size x) → (from : ℕ) (xs : List A) (k s : ℕ) (x : A)
    → slice_get xs k ≡ Some x → slice_get (starts size from xs) k ≡ Some s → item_at (placed size from xs) s ≡ Some x
unfolding placed
item_there size some from [] k s x e f = absurd (cc)
item_there size some from (y ∷ xs) zero s x e f =
    let at : from ≡ s = cc in
    let is : y ≡ x = cc in
    let same : (from == s) ≡ true = grind (arith, nat_tests, at) in
    ap (λ b. option_map (λ (q : Placed _). q.item) (cond b (Some (record { at = from; item = y })) (find (λ q. q.at ==
    s)
    (placed size (from + size y) xs)))) same ∙ ap Some is
item_there size some from (y ∷ xs) (suc k) s x e f =
    let within = start_within size (from + size y) xs k s some f in
    let low = within.0 in
    let more = some y in
    let other : (from == s) ≡ false = grind (arith, nat_tests, low, more) in
    ap (λ b. option_map (λ (q : Placed _). q.item) (cond b (Some (record { at = from; item = y })) (find (λ q. q.at ==
    s)
    (placed size (from + size y) xs)))) other ∙ item_there size some (from + size y) xs k s x e f

-- what holds of items by one rule holds of them beside what they are made of
along_beside : {A C : Type 0} (size : A → ℕ) (one : ℕ → A → List ComponentPlace) (two : ℕ → A → C → List ComponentPlace)
    (f : C → A) (cs : List C) → ((at k : ℕ) (c : C) → slice_get cs k ≡ Some c → one at (f c) ≡ [] → two at (f c) c ≡ [])
    → (at : ℕ) → along size one at (map f cs) ≡ [] → beside size two at (map f cs) cs ≡ []
unfolding along beside
along_beside size one two f [] each at e = refl
along_beside size one two f (c ∷ cs) each at e =
    none_in_both (each at 0 c refl (none_left (one at (f c)) (along size one (at + size (f c)) (map f cs)) e))
    (along_beside size one two f cs (λ n k d g. each n (suc k) d g) (at + size (f c)) (none_right (one at (f c)) (along
    size one (at + size (f c)) (map f cs)) e))

unless_holds : (b : Bool) (s : ComponentPlace) → unless b s ≡ [] → b ≡ true
unless_holds true s e = refl
unless_holds false s e = absurd cc

-- ---- types

module _ (p : Package) where
  abbrev q : Pair
  q = written_pair p

  abbrev w : List Class
  w = world p

  sort_alike : (s : Sort) → sort_nibbles (pairs.class_ref q) s ≡ sort_nibbles (class_ref p) s
  sort_alike Boolean = refl
  sort_alike Byte = refl
  sort_alike Short = refl
  sort_alike Int = refl
  sort_alike (Reference (OfClass c)) = ap (λ r. 6 ∷ ref_nibbles r) (ref_alike p c)
  sort_alike (Reference (OfReferences c)) = ap (λ r. 0xE ∷ ref_nibbles r) (ref_alike p c)
  sort_alike (Reference (OfNumbers element)) = refl
  sort_alike NoValue = refl

  result_alike : (o : Option Sort) → result_nibbles (pairs.class_ref q) o ≡ result_nibbles (class_ref p) o
  result_alike None = refl
  result_alike (Some s) = sort_alike s

  nibbles_alike : (desc : List ℕ) (o : Option Signature) → nibbles_by (pairs.class_ref q) desc o
      ≡ nibbles_by (class_ref p) desc o
  nibbles_alike desc None = sort_alike (field_sort desc)
  nibbles_alike desc (Some s) =
      ap (λ ns. ns ++ result_nibbles (pairs.class_ref q) s.result) (flat_same (sort_nibbles (pairs.class_ref q))
      (sort_nibbles (class_ref p)) sort_alike s.params)
      ∙ ap (λ ns. flat_map (sort_nibbles (class_ref p)) s.params ++ ns) (result_alike s.result)

  pub wanted : (desc : List ℕ) → IsOnCard desc → pairs.nibbles_of q desc ≡ Some (nibbles_of p desc)
  wanted desc card = ap (λ b. if b then Some (nibbles_by (pairs.class_ref q) desc (signature_of desc)) else None) card
      ∙ ap Some (nibbles_alike desc (signature_of desc))

  -- the type at the offset that is written for a descriptor
  pub type_there : (desc : List ℕ) → is_type (descriptor p) (type_offset p desc) ≡ true
      → nibbles_at (descriptor p) (type_offset p desc) ≡ Some (nibbles_of p desc)
  type_there desc e = by (position (bytes_eq (nibbles_of p desc)) (types_of p)) refl
    where
      at_none : type_offset p desc ≡ 0 → nibbles_at (descriptor p) (type_offset p desc) ≡ Some (nibbles_of p desc)
      at_none is = let low = begins_low type_size (2 + 2 * length (map (pool_type p) (pool p))) (map type_descriptor
          (types_of p)) (type_offset p desc) e in absurd (omega (arith, low, is))

      at_some : (k : ℕ) → position (bytes_eq (nibbles_of p desc)) (types_of p) ≡ Some k
          → nibbles_at (descriptor p) (type_offset p desc) ≡ Some (nibbles_of p desc)
      at_some k is =
          let there = position_there (bytes_eq (nibbles_of p desc)) (types_of p) k is in
          let same = bytes_true (nibbles_of p desc) there.0 there.2 in
          let here : slice_get (map type_descriptor (types_of p)) k ≡ Some (type_descriptor there.0) =
          get_mapped type_descriptor (types_of p) k ∙ ap (option_map type_descriptor) there.1 in
          let below = get_below (map type_descriptor (types_of p)) k (type_descriptor there.0) here in
          let pools = length_mapped (pool_type p) (pool p) in
          let begun = begins_where type_size (2 + 2 * length (pool p)) (map type_descriptor (types_of p)) k below in
          let offset : type_offset p desc ≡ begun.0 = ap (λ o. unwrap_or (option_and_then (slice_get (type_starts p)) o)
          0) is ∙ ap (λ o. unwrap_or o 0) begun.1 in
          ap (λ n. option_map (λ (t : TypeDescriptor). t.nibbles) (item_at (placed type_size (2 + 2 * n) (map
          type_descriptor (types_of p))) (type_offset p desc))) pools
          ∙ ap (λ n. option_map (λ (t : TypeDescriptor). t.nibbles) (item_at (placed type_size (2 + 2 * length (pool p))
          (map type_descriptor (types_of p))) n)) offset
          ∙ ap (option_map (λ (t : TypeDescriptor). t.nibbles)) (item_there type_size (λ t. omega arith) (2 + 2 * length
          (pool p)) (map type_descriptor (types_of p)) k begun.0 (type_descriptor there.0) here begun.1)
          ∙ ap Some (sym same)

      by : (o : Option ℕ) → position (bytes_eq (nibbles_of p desc)) (types_of p) ≡ o
          → nibbles_at (descriptor p) (type_offset p desc) ≡ Some (nibbles_of p desc)
      by None is = at_none (ap (λ o. unwrap_or (option_and_then (slice_get (type_starts p)) o) 0) is)
      by (Some k) is = at_some k is

  says_it : (desc : List ℕ) → IsOnCard desc → is_type (descriptor p) (type_offset p desc) ≡ true → says q (type_offset p
      desc) desc ≡ true
  says_it desc card e =
      ap (λ o. are_nibbles o (pairs.nibbles_of q desc)) (type_there desc e)
      ∙ ap (are_nibbles (Some (nibbles_of p desc))) (wanted desc card)
      ∙ name_is (nibbles_of p desc)

  -- ---- fields

  field_said : (f : FieldTree) (s : Sort) → IsOnCard f.desc → type_is_there (descriptor p) (field_type p f.desc s) ≡
      true → is_field_type q f.desc (field_type p f.desc s) s ≡ true
  field_said f Boolean card e = refl
  field_said f Byte card e = refl
  field_said f Short card e = refl
  field_said f Int card e = refl
  field_said f (Reference shape) card e = says_it f.desc card e
  field_said f NoValue card e = let low = begins_low type_size (2 + 2 * length (map (pool_type p) (pool p))) (map
      type_descriptor (types_of p)) 0 e in absurd (omega (arith, low))

  place_said : (c : Class) (f : FieldTree) (token : ℕ) → is_place q c f token (field_place p c f token) ≡ true
  place_said c f token = by (is_static f.flags) refl
    where
      by : (b : Bool) → is_static f.flags ≡ b → is_place q c f token (field_place p c f token) ≡ true
      by true e =
          ap (λ b. is_place q c f token (if b then places.Static
          (cell_offset p.image (field_id c.name f)) else places.Instance
          (class_ref p c.name) token)) e
          ∙ both_hold e (like_number (cell_offset p.image (field_id c.name f)))
      by false e =
          ap (λ b. is_place q c f token (if b then places.Static
          (cell_offset p.image (field_id c.name f)) else places.Instance
          (class_ref p c.name) token)) e
          ∙ both_hold (both_hold (ap not e) (ap (same_class (class_ref p c.name)) (ref_alike p c.name) ∙ same_itself
          (class_ref p c.name))) (like_number token)

  one_field : (c : Class) (at i : ℕ) (f : FieldTree) → IsOnCard f.desc → type_of_field (descriptor p) at
      (field_descriptor
      p c i f) ≡ [] → field_spots q c at (field_descriptor p c i f) (record { number = i; field = f }) ≡ []
  one_field c at i f card e =
      let d = field_descriptor p c i f in
      let typed = unless_holds (type_is_there (descriptor p) d.type_) (in_info 11 (at + 5)) e in
      none_in_both (none_in_both (none_in_both (passes (d.token == d.token) (in_info 11 at) (like_number d.token))
      (passes (d.flags == d.flags) (in_info 11 (at + 1)) (like_number d.flags))) (passes (is_place q c f d.token
      d.place)
      (in_info 11 (at + 2)) (place_said c f d.token))) (passes (is_field_type q f.desc d.type_ (field_sort f.desc))
      (in_info 11 (at + 5)) (field_said f (field_sort f.desc) card typed))

  -- those of a class
  each_field : (c : Class) (at i : ℕ) (fs : List FieldTree) → ((k : ℕ) (f : FieldTree) → slice_get fs k ≡ Some f
      → IsOnCard f.desc) → along (λ (f : FieldDescriptor). 7) (type_of_field (descriptor p)) at (fields_from p c i fs)
      ≡ []
      → beside (λ (f : FieldDescriptor). 7) (field_spots q c) at (fields_from p c i fs) (described.fields_from i fs) ≡
      []
  unfolding along beside
  each_field c at i [] card e = refl
  each_field c at i (f ∷ fs) card e = by (is_constant f) e (λ n. each_field c n (i + 1) fs (λ k g h. card (suc k) g h))
    where
      by : (b : Bool) → along (λ (f : FieldDescriptor). 7) (type_of_field (descriptor p)) at ((if b then []
          else field_descriptor p c i f ∷ []) ++ fields_from p c (i + 1) fs) ≡ []
          → ((n : ℕ) → along (λ (f : FieldDescriptor). 7) (type_of_field (descriptor p)) n (fields_from p c (i + 1) fs)
          ≡ [] → beside (λ (f : FieldDescriptor). 7) (field_spots q c) n (fields_from p c (i + 1) fs)
          (described.fields_from (i + 1) fs) ≡ [])
          → beside (λ (f : FieldDescriptor). 7) (field_spots q c) at ((if b then [] else field_descriptor p c i f ∷ [])
          ++ fields_from p c (i + 1) fs) ((if b then [] else record { number = i; field = f } ∷ [])
          ++ described.fields_from (i + 1) fs) ≡ []
      by true g more = more at g
      by false g more =
          let rest = along (λ (f : FieldDescriptor). 7) (type_of_field (descriptor p)) (at + 7) (fields_from p c (i + 1)
          fs) in
          let first = type_of_field (descriptor p) at (field_descriptor p c i f) in
          none_in_both (one_field c at i f (card 0 f refl) (none_left first rest g)) (more (at + 7) (none_right first
          rest
          g))

  as_many : (c : Class) (i : ℕ) (fs : List FieldTree) → length (fields_from p c i fs) ≡ length (described.fields_from i
      fs)
  as_many c i [] = refl
  as_many c i (f ∷ fs) = by (is_constant f) (as_many c (i + 1) fs)
    where
      by : (b : Bool) → length (fields_from p c (i + 1) fs) ≡ length (described.fields_from (i + 1) fs)
          → length ((if b then [] else field_descriptor p c i f ∷ []) ++ fields_from p c (i + 1) fs) ≡ length ((if b
          then [] else record { number = i; field = f } ∷ []) ++ described.fields_from (i + 1) fs)
      by true e = e
      by false e = ap suc e

  -- ---- methods

  one_method : (c : Class) (at : ℕ) (f : Found) → (let m = method_in w c f.member in IsOnCard m.desc) → type_of_method
      (descriptor p) at (method_descriptor p c f) ≡ [] → method_spots q c at (method_descriptor p c f) f ≡ []
  one_method c at f card e =
      let m = method_in w c f.member in
      let d = method_descriptor p c f in
      let typed = unless_holds (is_type (descriptor p) d.type_offset) (in_info 11 (at + 4)) e in
      none_in_both (none_in_both (passes (d.token == d.token) (in_info 11 at) (like_number d.token)) (passes (d.flags ==
      d.flags) (in_info 11 (at + 1)) (like_number d.flags))) (passes (says q d.type_offset m.desc) (in_info 11 (at + 4))
      (says_it m.desc card typed))

  -- ---- classes

  module _ (card : HasCardTypes p) where
    one_class : (at k : ℕ) (c : Class) → slice_get (class_order w) k ≡ Some c → types_in_class (descriptor p) at
        (class_descriptor p c) ≡ [] → class_spots q at (class_descriptor p c) c ≡ []
    one_class at k c here e =
        let d = class_descriptor p c in
        let fs = fields_of p.files c in
        let front = along (λ (f : FieldDescriptor). 7) (type_of_field (descriptor p)) (fields_begin at d) d.fields in
        let back = along (λ m. 12) (type_of_method (descriptor p)) (methods_begin at d) d.methods in
        none_in_both (none_in_both (none_in_both (none_in_both (passes (d.token == d.token) (in_info 11 at) (like_number
        d.token)) (passes (d.flags == d.flags) (in_info 11 (at + 1)) (like_number d.flags))) (passes (length d.fields ==
        length (wanted_fields q c)) (in_info 11 (at + 5)) (number_same_number (length d.fields) (length (wanted_fields q
        c)) (as_many c 0 fs)))) (each_field c (fields_begin at d) 0 fs (λ i f g. card.fields k c here i f g) (none_left
        front back e))) (along_beside (λ m. 12) (type_of_method (descriptor p)) (method_spots q c) (method_descriptor
        p c)
        (methods_of_class w c) (λ n i f g h. one_method c n f (card.methods k c here i f g) h) (methods_begin at d)
        (none_right front back e))

    pub classes_said : (let d = descriptor p in along described_size (types_in_class d) 1 d.classes) ≡ []
        → (let d = descriptor p in beside described_size (class_spots q) 1 d.classes (class_order w)) ≡ []
    classes_said e = along_beside described_size (types_in_class (descriptor p)) (class_spots q) (class_descriptor p)
        (class_order w) (λ at k c g h. one_class at k c g h) 1 e

    -- ---- entries of the constant pool

    module _ (named : EntriesAreNamed p) where
      said_of : (at : ℕ) (entry : PoolEntry) (desc : List ℕ) → named_desc q entry ≡ Some desc → IsOnCard desc
          → (not (type_offset p desc == 0xFFFF) && is_type (descriptor p) (type_offset p desc)) ≡ true
          → unless (is_entry_type q (type_offset p desc) (named_desc q entry)) (in_info 11 at) ≡ []
      said_of at entry desc is on e =
          passes (is_entry_type q (type_offset p desc) (named_desc q entry)) (in_info 11 at) (ap (is_entry_type q
          (type_offset p desc)) is ∙ says_it desc on (both_back (not (type_offset p desc == 0xFFFF)) (is_type
          (descriptor
          p) (type_offset p desc)) e))

      one_entry : (at : ℕ) (key : PoolKey) → AllByRecursion (λ (desc : List ℕ). named_desc q (entry_of (names p) key)
          ≡ Some desc) (desc_of_key key) → AllByRecursion IsOnCard (desc_of_key key) → type_of_entry (descriptor p) at
          (pool_type p key) (entry_of (names p) key) ≡ [] → entry_spots q at (pool_type p key) (entry_of (names p) key)
          ≡ []
      one_entry at (keys.Class c) is on e = refl
      one_entry at (keys.Field m) is on e = said_of at (entry_of (names p) (keys.Field m)) m.desc is.0 on.0
          (unless_holds
          (has_type (descriptor p) (entry_of (names p) (keys.Field m)) (type_offset p m.desc)) (in_info 11 at) e)
      one_entry at (keys.Virtual m) is on e = said_of at (entry_of (names p) (keys.Virtual m)) m.desc is.0 on.0
          (unless_holds (has_type (descriptor p) (entry_of (names p) (keys.Virtual m)) (type_offset p m.desc))
          (in_info 11
          at) e)
      one_entry at (keys.Super m) is on e = said_of at (entry_of (names p) (keys.Super m)) m.desc is.0 on.0
          (unless_holds
          (has_type (descriptor p) (entry_of (names p) (keys.Super m)) (type_offset p m.desc)) (in_info 11 at) e)
      one_entry at (keys.StaticField m) is on e = said_of at (entry_of (names p) (keys.StaticField m)) m.desc is.0 on.0
          (unless_holds (has_type (descriptor p) (entry_of (names p) (keys.StaticField m)) (type_offset p m.desc))
          (in_info 11 at) e)
      one_entry at (keys.StaticMethod m) is on e = said_of at (entry_of (names p) (keys.StaticMethod m)) m.desc is.0
          on.0 (unless_holds (has_type (descriptor p) (entry_of (names p) (keys.StaticMethod m)) (type_offset p m.desc))
          (in_info 11 at) e)

      each_entry : (ks : List PoolKey) → ((k : ℕ) (key : PoolKey) → slice_get ks k ≡ Some key
          → AllByRecursion (λ (desc : List ℕ). named_desc q (entry_of (names p) key) ≡ Some desc) (desc_of_key key)
          × AllByRecursion IsOnCard (desc_of_key key)) → (at : ℕ) → types_in_pool (descriptor p) at (map (pool_type p)
          ks)
          (map (entry_of (names p)) ks) ≡ [] → beside (λ (offset : ℕ). 2) (entry_spots q) at (map (pool_type p) ks) (map
          (entry_of (names p)) ks) ≡ []
      unfolding beside
      each_entry [] each at e = refl
      each_entry (key ∷ ks) each at e =
          let here = each 0 key refl in
          let first = type_of_entry (descriptor p) at (pool_type p key) (entry_of (names p) key) in
          let rest = types_in_pool (descriptor p) (at + 2) (map (pool_type p) ks) (map (entry_of (names p)) ks) in
          none_in_both (one_entry at key here.0 here.1 (none_left first rest e)) (each_entry ks (λ k x g. each (suc k) x
          g) (at + 2) (none_right first rest e))

      pub described_none : (let d = descriptor p in along described_size (types_in_class d) 1 d.classes) ≡ []
          → (let d = descriptor p in types_in_pool d (pool_count_at d + 2) d.pool_types (map (entry_of (names p)) (pool
          p))) ≡ [] → described_spots q ≡ []
      described_none members entries = none_in_both (classes_said members) (each_entry (pool p) (λ k key e. (
        named k key e,
        card.entries k key e,
      )) (pool_count_at (descriptor p) + 2) entries)
