-- The types of the entries of a converted package's pool: those of the descriptors of the members that they name, one
-- word at most for each value.
use Rattle.std.proofs.Common.{◌≡◌, ℕ, zero, suc, ◌+◌, refl, sym, ap, subst, ◌∙◌, Bool, true, false, List, []}
use Rattle.std.proofs.Common.{◌∷◌, map, length}
use Rattle.std.specs.Prelude.{◌&&◌, Option, Some, None, flat_map, get_or, option_and_then, option_map}
use Rattle.std.specs.Prelude.{slice_get, if◌then◌else◌}
use Rattle.std.specs.List.{AllByRecursion, list_all}
use Rattle.std.proofs.lemmas.List.Concat.{flat_map-cons}
use Rattle.std.proofs.lemmas.Option.{slice_get-map}
use Rattle.cjc_verified_proof.specs.Bytes.Descriptor.{Part}
use Rattle.cjc_verified_proof.specs.Bytes.declared.descriptor.Kind.{Kind}
use Rattle.cjc_verified_proof.specs.Bytes.declared.descriptor.Kind.TheVariants as kinds
use Rattle.cjc_verified_proof.specs.Bytes.declared.fault.MemberId.{MemberId}
use Rattle.cjc_verified_proof.proofs.BytesGets.{get_behind, in_front}
use Rattle.cjc_verified_proof.proofs.BytesLists.{none_right}
use Rattle.cjc_verified_proof.proofs.BytesPlain.{same_some}
use Rattle.cjc_verified_proof.proofs.EntryLaws.{beside_none, said, unless_holds}
use Rattle.cjc_verified_proof.proofs.TypeLaws.{method_read, result_for, type_for}
use Rattle.cjc_verified_proof.proofs.WorldProofOwn.{mapped_at}
use Rattle.cjc_verified_proof.specs.CapRead.declared.tree.ClassRef.{ClassRef}
use Rattle.cjc_verify.specs.CheckRules.ClassRefs.{pool_count_at}
use Rattle.cjc_verified_proof.specs.CheckRules.Complete.{described_size}
use Rattle.cjc_verified_proof.specs.CheckRules.Spots.{beside, in_info}
use Rattle.cjc_check_proof.specs.Classes.Premises.{TypesAreKnown, is_known, result_known, shape_known, sort_known}
use Rattle.cjc_check_proof.specs.Classes.Premises.{types_known}
use Rattle.cjc_check_proof.specs.NarrowProof.Selection.Rows.{is_word_sort}
use Rattle.cjc_check_proof.specs.NarrowProof.Tables.Calls.{IsWordDesc, is_word_result}
use Rattle.cjc_verified_proof.specs.Components.Descriptor.{descriptor, pool_type}
use Rattle.cjc_verified_proof.specs.Components.Names.{class_ref, names}
use Rattle.cjc_verified_proof.specs.Components.Package.{Package, pool, world}
use Rattle.cjc_verified_proof.specs.Components.Types.{desc_of_key, descs_of_class}
use Rattle.cjc_verified_proof.specs.Components.Types.{nibbles_by, ref_nibbles, shape_nibbles, sort_nibbles}
use Rattle.cjc_verified_proof.specs.NCode.Lowering.Naming.{Holds, entry_of}
use Rattle.cjc_verified_proof.specs.NCode.declared.narrow.PoolKey.{PoolKey}
use Rattle.cjc_verified_proof.specs.NCode.declared.narrow.PoolKey.TheVariants as keys
use Rattle.cjc_verified_proof.specs.Script.Sorts.{OfClass, OfNumbers, OfReferences, Shape, Signature, Sort}
use Rattle.cjc_verified_proof.specs.Script.Sorts.{NoValue, field_sort, reference_to, result_by, shape_named}
use Rattle.cjc_verified_proof.specs.Script.Sorts.{signature_by, signature_of, sort_by, sort_of, sort_or_none}
use Rattle.cjc_verified_proof.specs.Script.Sorts as sorts
use Rattle.cjc_verified_proof.specs.TokenProof.Tables.Loading.{components, naming}
use Rattle.cjc_verified_proof.specs.Verify.Described.{class_spots, described_spots, entry_spots, is_entry_type}
use Rattle.cjc_verified_proof.specs.Verify.Named.{entry_type, named_desc}
use Rattle.cjc_verified_proof.specs.Verify.Pairs.{Pair, is_card_result, is_card_sort, is_card_type}
use Rattle.cjc_verified_proof.specs.Verify.Pairs as pairs
use Rattle.cjc_verified_proof.specs.World.Classes.{Class}
use Rattle.cjc_verified_proof.specs.World.Order.{class_order}
use Rattle.cjc_accepted_proof.specs.CardActs.CardTypes.{MemberType, type_at, type_by, types_in}
use Rattle.cjc_accepted_proof.specs.Carded.{EntriesAreNamed}
use Rattle.cjc_accepted_proof.specs.Coded.{card_type}
use Rattle.cjc_accepted_proof.specs.Frames.{AreTypesFor, IsTypeFor, MethodFits, nibbles_there}
use Rattle.cjc_accepted_proof.specs.Written.{written_pair}
use Rattle.cjc_accepted_proof.proofs.NamesLaws.{ref_alike}
use Rattle.cjc_narrow_proof.specs.Runs.Names.{IsWordField}
use Rattle.cjc_narrow_proof.specs.Tables.Names.{IsDesc}
use Rattle.cjc_check_proof.specs.Types.Types.{is_void, parts}

-- ---- lists

-- an item of what is made of an item
pub flat_there : {A B : Type 0} (f : A → List B) (xs : List A) (k : ℕ) (x : A) → slice_get xs k ≡ Some x
    → (l : ℕ) (y : B) → slice_get (f x) l ≡ Some y → (j : ℕ) × (slice_get (flat_map f xs) j ≡ Some y)
flat_there f [] k x e l y g = absurd cc
flat_there f (z ∷ xs) zero x e l y g = (
  l,
  ap (λ ys. slice_get ys l) (flat_map-cons f z xs)
      ∙ in_front (f z) (flat_map f xs) l y (ap (λ v. slice_get (f v) l) (same_some e) ∙ g),
)
flat_there f (z ∷ xs) (suc k) x e l y g =
    let r = flat_there f xs k x e l y g in (
      length (f z) + r.0,
      ap (λ ys. slice_get ys (length (f z) + r.0)) (flat_map-cons f z xs)
          ∙ get_behind (f z) (flat_map f xs) r.0 ∙ r.1,
    )

item_or : (xs : List ℕ) (k x d : ℕ) → slice_get xs k ≡ Some x → get_or xs k d ≡ x
item_or [] k x d e = absurd cc
item_or (y ∷ xs) zero x d e = same_some e
item_or (y ∷ xs) (suc k) x d e = item_or xs k x d e

module _ (p : Package) where
  abbrev w : List Class
  w = world p

  abbrev q : Pair
  q = written_pair p

  abbrev ref : List ℕ → ClassRef
  ref = pairs.class_ref q

  -- ---- types of one word

  -- the card has the types of classes and arrays that are there
  pub shape_typed : (name : List ℕ) (shape : Shape (List ℕ)) → shape_named name ≡ Some shape
      → shape_known (is_known w) shape ≡ true → card_type p name ≡ Some (shape_nibbles (class_ref p) shape)
  shape_typed name shape e known = ap (option_and_then (nibbles_there w (class_ref p))) e ∙ there shape known
    where
      there : (s : Shape (List ℕ)) → shape_known (is_known w) s ≡ true → nibbles_there w (class_ref p) s
          ≡ Some (shape_nibbles (class_ref p) s)
      there (OfClass c) k = ap (λ b. if b then Some (shape_nibbles (class_ref p) (OfClass c)) else None) k
      there (OfNumbers element) k = refl
      there (OfReferences c) k = ap (λ b. if b then Some (shape_nibbles (class_ref p) (OfReferences c)) else None) k

  pub shape_alike : (s : Shape (List ℕ)) → shape_nibbles (class_ref p) s ≡ shape_nibbles ref s
  shape_alike (OfClass c) = ap (λ r. 6 ∷ ref_nibbles r) (sym (ref_alike p c))
  shape_alike (OfReferences c) = ap (λ r. 0xE ∷ ref_nibbles r) (sym (ref_alike p c))
  shape_alike (OfNumbers element) = refl

  part_by : (k : Kind) (class : List ℕ) → is_word_sort (sort_by k class) ≡ true
      → sort_known (is_known w) (sort_by k class) ≡ true → IsTypeFor (card_type p) k class (type_for ref (sort_by k
      class))
  part_by kinds.Bool class e f = tt
  part_by kinds.Byte class e f = tt
  part_by kinds.Short class e f = tt
  part_by kinds.Int class e f = absurd cc
  part_by kinds.Other class e f = absurd cc
  part_by kinds.Void class e f = absurd cc
  part_by kinds.Ref class e f = by (shape_named class) refl e f
    where
      by : (o : Option (Shape (List ℕ))) → shape_named class ≡ o → is_word_sort (reference_to o) ≡ true
          → sort_known (is_known w) (reference_to o) ≡ true → IsTypeFor (card_type p) kinds.Ref class (type_for ref
          (reference_to o))
      by None is g h = absurd cc
      by (Some s) is g h = shape_typed class s is h ∙ ap Some (shape_alike s)

  -- a value of a type of a descriptor
  pub part_fits : (x : Part) → is_word_sort (sort_of x) ≡ true → sort_known (is_known w) (sort_of x) ≡ true
      → IsTypeFor (card_type p) x.kind x.class (type_for ref (sort_of x))
  part_fits x e f = part_by x.kind x.class e f

  not_void : (k : Kind) (class : List ℕ) → is_word_sort (sort_by k class) ≡ true → is_void k ≡ false
  not_void kinds.Bool class e = refl
  not_void kinds.Byte class e = refl
  not_void kinds.Short class e = refl
  not_void kinds.Int class e = refl
  not_void kinds.Other class e = refl
  not_void kinds.Ref class e = refl
  not_void kinds.Void class e = absurd cc

  pub part_value : (x : Part) → is_word_sort (sort_of x) ≡ true → is_void x.kind ≡ false
  part_value x e = not_void x.kind x.class e

  pub both_true : (a b : Bool) → (a && b) ≡ true → (a ≡ true) × (b ≡ true)
  both_true true b e = (refl, e)
  both_true false b e = absurd cc

  params_fit : (xs : List Part) → AllByRecursion (λ (x : Part). is_word_sort (sort_of x) ≡ true) xs
      → list_all (sort_known (is_known w)) (map sort_of xs) ≡ true → AreTypesFor (card_type p) xs (map (type_for ref)
      (map sort_of xs))
  params_fit [] all known = tt
  params_fit (x ∷ xs) all known =
      let k = both_true (sort_known (is_known w) (sort_of x)) (list_all (sort_known (is_known w)) (map sort_of xs))
      known
      in
      (part_fits x all.0 k.0, part_value x all.0, params_fit xs all.1 k.1)

  result_by_kind : (k : Kind) (x : Part) → x.kind ≡ k → is_word_result k (sort_of x) ≡ true
      → result_known (is_known w) (result_by k x) ≡ true → IsTypeFor (card_type p) k x.class (result_for ref (result_by
      k
      x))
  result_by_kind kinds.Void x is e f = tt
  result_by_kind kinds.Bool x is e f = subst (λ (v : Kind). IsTypeFor (card_type p) v x.class (type_for ref (sort_of
      x))) is (part_fits x e f)
  result_by_kind kinds.Byte x is e f = subst (λ (v : Kind). IsTypeFor (card_type p) v x.class (type_for ref (sort_of
      x))) is (part_fits x e f)
  result_by_kind kinds.Short x is e f = subst (λ (v : Kind). IsTypeFor (card_type p) v x.class (type_for ref (sort_of
      x))) is (part_fits x e f)
  result_by_kind kinds.Int x is e f = subst (λ (v : Kind). IsTypeFor (card_type p) v x.class (type_for ref (sort_of x)))
      is (part_fits x e f)
  result_by_kind kinds.Other x is e f = subst (λ (v : Kind). IsTypeFor (card_type p) v x.class (type_for ref (sort_of
      x))) is (part_fits x e f)
  result_by_kind kinds.Ref x is e f = subst (λ (v : Kind). IsTypeFor (card_type p) v x.class (type_for ref (sort_of x)))
      is (part_fits x e f)

  -- ---- types of entries

  -- the type of the entry of a key says what a descriptor says, and what that names is known
  pub record EntrySays (key : PoolKey) (desc : List ℕ) : Type 0 where
    pub nibbles : List ℕ
    pub wanted : pairs.nibbles_of q desc ≡ Some nibbles
    pub type_is : entry_type q (let n = names p in n.index key) ≡ type_by (types_in nibbles)
    pub known : types_known (is_known w) desc (signature_of desc) ≡ true

  module _ (described : described_spots q ≡ []) (entries : EntriesAreNamed p) (types : TypesAreKnown p) where
    -- the k-th key, by what its entry is asked
    of_key : (k : ℕ) (x : PoolKey) (d : List ℕ) → slice_get (pool p) k ≡ Some x → desc_of_key x ≡ d ∷ []
        → named_desc q (entry_of (names p) x) ≡ Some d
        → ((at offset : ℕ) → entry_spots q at offset (entry_of (names p) x) ≡ [] → is_entry_type q offset (named_desc q
        (entry_of (names p) x)) ≡ true)
        → (key : PoolKey) → (let n = names p in n.index key) ≡ k → EntrySays key d
    of_key k x d here is named spots key at =
        let c = components p in
        let offset = pool_type p x in
        let typed : slice_get (map (pool_type p) (pool p)) k ≡ Some offset = slice_get-map (pool_type p) (pool p) k
        ∙ ap (option_map (pool_type p)) here in
        let entry : slice_get (map (entry_of (names p)) (pool p)) k ≡ Some (entry_of (names p) x) = slice_get-map
        (entry_of (names p)) (pool p) k ∙ ap (option_map (entry_of (names p))) here in
        let none = none_right (beside described_size (class_spots q) 1 (let f = descriptor p in f.classes) (class_order
        w)) (beside (λ (o : ℕ). 2) (entry_spots q) (pool_count_at (descriptor p) + 2) (map (pool_type p) (pool p)) (map
        (entry_of (names p)) (pool p))) described in
        let r = beside_none (λ (o : ℕ). 2) (entry_spots q) (pool_count_at (descriptor p) + 2) (map (pool_type p) (pool
        p)) (map (entry_of (names p)) (pool p)) k offset (entry_of (names p) x) none typed entry in
        let s = said q offset d (sym (ap (is_entry_type q offset) named) ∙ spots r.0 offset r.1) in
        let place = flat_there desc_of_key (pool p) k x here 0 d (ap (λ ds. slice_get ds 0) is) in
        let listed = in_front (flat_map desc_of_key (pool p)) (flat_map (descs_of_class p) (class_order w)) place.0 d
        place.1 in
        record {
          nibbles = s.nibbles;
          wanted = s.wanted;
          type_is = ap (entry_type q) at ∙ ap (type_at (descriptor p)) (item_or (map (pool_type p) (pool p)) k offset
              0xFFFF typed) ∙ s.type_is;
          known = types place.0 d listed;
        }

    -- where the pool holds a key whose entry names a member of its descriptor
    pub entry_says : (key : PoolKey) → Holds (naming p) key → (desc : List ℕ)
        → named_desc q (entry_of (names p) key) ≡ Some desc → EntrySays key desc
    entry_says key holds desc named =
        let k = (let n = names p in n.index key) in
        let x = mapped_at (entry_of (names p)) (pool p) k (entry_of (naming p) key) holds.there in
        by x.0 x.1 (named_same key ∙ ap (named_desc q) x.2)
      where
        named_same : (v : PoolKey) → named_desc q (entry_of (names p) v) ≡ named_desc q (entry_of (naming p) v)
        named_same (keys.Class c) = refl
        named_same (keys.Field f) = refl
        named_same (keys.Virtual m) = refl
        named_same (keys.Super m) = refl
        named_same (keys.StaticField f) = refl
        named_same (keys.StaticMethod m) = refl

        found : (x : PoolKey) (d : List ℕ) → slice_get (pool p) (let n = names p in n.index key) ≡ Some x
            → desc_of_key x ≡ d ∷ [] → named_desc q (entry_of (names p) x) ≡ Some d
            → ((at offset : ℕ) → entry_spots q at offset (entry_of (names p) x) ≡ [] → is_entry_type q offset
            (named_desc q (entry_of (names p) x)) ≡ true)
            → named_desc q (entry_of (names p) key) ≡ named_desc q (entry_of (names p) x) → EntrySays key desc
        found x d here is its spots same =
            let one : d ≡ desc = same_some (sym its ∙ sym same ∙ named) in
            subst (EntrySays key) one (of_key (let n = names p in n.index key) x d here is its spots key refl)

        by : (x : PoolKey) → slice_get (pool p) (let n = names p in n.index key) ≡ Some x
            → named_desc q (entry_of (names p) key) ≡ named_desc q (entry_of (names p) x) → EntrySays key desc
        by (keys.Class c) here same = (let no : None ≡ Some desc = sym same ∙ named in absurd cc)
        by (keys.Field m) here same = (let e = entries (let n = names p in n.index key) (keys.Field m) here in found
            (keys.Field m) m.desc here refl e.0 (λ at offset g. unless_holds (is_entry_type q offset (named_desc q
            (entry_of (names p) (keys.Field m)))) (in_info 11 at) g) same)
        by (keys.Virtual m) here same = (let e = entries (let n = names p in n.index key) (keys.Virtual m) here in found
            (keys.Virtual m) m.desc here refl e.0 (λ at offset g. unless_holds (is_entry_type q offset (named_desc q
            (entry_of (names p) (keys.Virtual m)))) (in_info 11 at) g) same)
        by (keys.Super m) here same = (let e = entries (let n = names p in n.index key) (keys.Super m) here in found
            (keys.Super m) m.desc here refl e.0 (λ at offset g. unless_holds (is_entry_type q offset (named_desc q
            (entry_of (names p) (keys.Super m)))) (in_info 11 at) g) same)
        by (keys.StaticField m) here same = (let e = entries (let n = names p in n.index key) (keys.StaticField m) here
            in found (keys.StaticField m) m.desc here refl e.0 (λ at offset g. unless_holds (is_entry_type q offset
            (named_desc q (entry_of (names p) (keys.StaticField m)))) (in_info 11 at) g) same)
        by (keys.StaticMethod m) here same = (let e = entries (let n = names p in n.index key) (keys.StaticMethod m)
            here in found (keys.StaticMethod m) m.desc here refl e.0 (λ at offset g. unless_holds (is_entry_type q
            offset (named_desc q (entry_of (names p) (keys.StaticMethod m)))) (in_info 11 at) g) same)

  -- ---- what they say

  -- the nibbles of a descriptor that the card has
  pub nibbles_are : (desc : List ℕ) (nibbles : List ℕ) → pairs.nibbles_of q desc ≡ Some nibbles
      → (is_card_type desc (signature_of desc) ≡ true) × (nibbles_by ref desc (signature_of desc) ≡ nibbles)
  nibbles_are desc nibbles e = by (is_card_type desc (signature_of desc)) refl e
    where
      by : (b : Bool) → is_card_type desc (signature_of desc) ≡ b → (if b then Some (nibbles_by ref desc (signature_of
          desc)) else None) ≡ Some nibbles → (is_card_type desc (signature_of desc) ≡ true)
          × (nibbles_by ref desc (signature_of desc) ≡ nibbles)
      by true f g = (f, same_some g)
      by false f g = absurd cc

  -- the type on the card of a method's descriptor
  abbrev pub typed_as : (desc : List ℕ) → MemberType
  typed_as desc =
      let d = parts desc in
      let r = d.result in
      record { params = map (type_for ref) (map sort_of d.params); result = result_for ref (result_by r.kind r) }

  -- its types by name
  abbrev pub sorts_in : (desc : List ℕ) → Signature
  sorts_in desc = let d = parts desc in let r = d.result in record {
    params = map sort_of d.params;
    result = result_by r.kind r;
  }

  -- a method's descriptor has these
  pub method_signature : (desc : List ℕ) → IsDesc desc → (let d = parts desc in d.is_method) ≡ true
      → signature_of desc ≡ Some (sorts_in desc)
  method_signature desc is method = ap (option_and_then signature_by) is ∙ ap (λ b. if b then Some (sorts_in desc)
      else None) method

  pub word_signature : (desc : List ℕ) → IsWordDesc desc → signature_of desc ≡ Some (sorts_in desc)
  word_signature desc word = method_signature desc word.is_desc word.is_method

  -- the card has these
  abbrev pub AreOnCard : (desc : List ℕ) → Type 0
  AreOnCard desc = (let s = sorts_in desc in (list_all is_card_sort s.params && is_card_result s.result) ≡ true)

  pub sorts_on_card : (desc : List ℕ) → signature_of desc ≡ Some (sorts_in desc) → is_card_type desc
      (signature_of desc) ≡ true → AreOnCard desc
  sorts_on_card desc sig on = sym (ap (is_card_type desc) sig) ∙ on

  -- values of those types pass
  pub word_fits : (m : MemberId) → IsWordDesc m.desc → types_known (is_known w) m.desc (signature_of m.desc) ≡ true
      → MethodFits (card_type p) m (typed_as m.desc)
  word_fits m word known =
      let d = parts m.desc in
      let r = d.result in
      let s = sorts_in m.desc in
      let k = both_true (list_all (sort_known (is_known w)) s.params) (result_known (is_known w) s.result) (sym (ap
      (types_known (is_known w) m.desc) (word_signature m.desc word)) ∙ known) in
      record {
        params = params_fit d.params word.params k.0;
        result = result_by_kind r.kind r refl word.result k.1;
      }

  -- the type of the entry of a key, where its descriptor is a method's
  pub entry_typed : (key : PoolKey) (desc : List ℕ) → EntrySays key desc → signature_of desc ≡ Some (sorts_in desc)
      → entry_type q (let n = names p in n.index key) ≡ typed_as desc
  entry_typed key desc says sig =
      let s = sorts_in desc in
      let n = nibbles_are desc says.nibbles says.wanted in
      says.type_is ∙ ap (λ ns. type_by (types_in ns)) (sym n.1 ∙ ap (nibbles_by ref desc) sig)
      ∙ method_read ref desc s (sorts_on_card desc sig n.0)

  -- a method's
  pub method_fits : (key : PoolKey) (m : MemberId) → EntrySays key m.desc → IsWordDesc m.desc
      → MethodFits (card_type p) m (entry_type q (let n = names p in n.index key))
  method_fits key m says word = subst (MethodFits (card_type p) m) (sym (entry_typed key m.desc says (word_signature
      m.desc word))) (word_fits m word says.known)

  -- the card has these types
  sort_on : (s : Sort) → is_word_sort s ≡ true → is_card_sort s ≡ true
  sort_on sorts.Boolean e = refl
  sort_on sorts.Byte e = refl
  sort_on sorts.Short e = refl
  sort_on (sorts.Reference shape) e = refl
  sort_on sorts.Int e = absurd cc
  sort_on NoValue e = absurd cc

  all_on : (xs : List Part) → AllByRecursion (λ (x : Part). is_word_sort (sort_of x) ≡ true) xs → list_all is_card_sort
      (map sort_of xs) ≡ true
  all_on [] all = refl
  all_on (x ∷ xs) all = ap (λ b. b && list_all is_card_sort (map sort_of xs)) (sort_on (sort_of x) all.0) ∙ all_on xs
      all.1

  result_on : (k : Kind) (x : Part) → is_word_result k (sort_of x) ≡ true → is_card_result (result_by k x) ≡ true
  result_on kinds.Void x e = refl
  result_on kinds.Bool x e = sort_on (sort_of x) e
  result_on kinds.Byte x e = sort_on (sort_of x) e
  result_on kinds.Short x e = sort_on (sort_of x) e
  result_on kinds.Int x e = sort_on (sort_of x) e
  result_on kinds.Other x e = sort_on (sort_of x) e
  result_on kinds.Ref x e = sort_on (sort_of x) e

  pub word_on : (desc : List ℕ) → IsWordDesc desc → (let s = sorts_in desc in (list_all is_card_sort s.params
      && is_card_result s.result) ≡ true)
  word_on desc word =
      let d = parts desc in
      let r = d.result in
      let s = sorts_in desc in
      ap (λ b. b && is_card_result s.result) (all_on d.params word.params) ∙ result_on r.kind r word.result

  -- so its nibbles are read back as its types
  pub desc_typed : (desc : List ℕ) → signature_of desc ≡ Some (sorts_in desc) → AreOnCard desc → option_map (λ nibbles.
      type_by (types_in nibbles)) (pairs.nibbles_of q desc) ≡ Some (typed_as desc)
  desc_typed desc sig on =
      let s = sorts_in desc in
      ap (λ o. option_map (λ nibbles. type_by (types_in nibbles)) (if is_card_type desc o then Some (nibbles_by ref desc
      o) else None)) sig
      ∙ (ap (λ b. option_map (λ nibbles. type_by (types_in nibbles)) (if b then Some (nibbles_by ref desc (Some s))
      else None)) on
      ∙ ap (λ t. Some t) (method_read ref desc s on))

  -- a field's
  pub field_fits : (key : PoolKey) (m : MemberId) → EntrySays key m.desc → IsWordField m.desc
      → (let d = parts m.desc in let r = d.result in let t = entry_type q (let n = names p in n.index key)
      in IsTypeFor (card_type p) r.kind r.class t.result)
  field_fits key m says word =
      let d = parts m.desc in
      let r = d.result in
      let sort : field_sort m.desc ≡ sort_of r = ap sort_or_none word.is_desc in
      let one : is_word_sort (sort_of r) ≡ true = ap is_word_sort (sym sort) ∙ word.one_word in
      let n = nibbles_are m.desc says.nibbles says.wanted in
      let sig : signature_of m.desc ≡ signature_by d = ap (option_and_then signature_by) word.is_desc in
      by d.is_method refl one sort n.0 n.1 sig
    where
      Typed : MemberType → Type 0
      Typed t = (let d = parts m.desc in let r = d.result in IsTypeFor (card_type p) r.kind r.class t.result)

      by : (b : Bool) → (let d = parts m.desc in d.is_method) ≡ b
          → is_word_sort (sort_of (let d = parts m.desc in d.result)) ≡ true
          → field_sort m.desc ≡ sort_of (let d = parts m.desc in d.result)
          → is_card_type m.desc (signature_of m.desc) ≡ true → nibbles_by ref m.desc (signature_of m.desc) ≡
          says.nibbles
          → signature_of m.desc ≡ signature_by (parts m.desc) → Typed (entry_type q (let n = names p in n.index key))
      by false f one sort card same sig =
          let r = (let d = parts m.desc in d.result) in
          let none : signature_of m.desc ≡ None = sig ∙ ap (λ b. if b then Some (record {
            params = map sort_of (let d = parts m.desc in d.params);
            result = result_by r.kind r;
          }) else None) f in
          let s : Signature = record { params = []; result = Some (sort_of r) } in
          let on : is_card_sort (sort_of r) ≡ true = ap is_card_sort (sym sort) ∙ sym (ap (is_card_type m.desc) none)
          ∙ card in
          let known : sort_known (is_known w) (sort_of r) ≡ true = ap (sort_known (is_known w)) (sym sort)
          ∙ sym (ap (types_known (is_known w) m.desc) none) ∙ says.known in
          let nibbles : nibbles_by ref m.desc (Some s) ≡ says.nibbles = ap (sort_nibbles ref) (sym sort)
          ∙ sym (ap (nibbles_by ref m.desc) none) ∙ same in
          let t : type_by (types_in says.nibbles) ≡ record { params = []; result = type_for ref (sort_of r) } =
          ap (λ ns. type_by (types_in ns)) (sym nibbles) ∙ method_read ref m.desc s on in
          subst Typed (sym (says.type_is ∙ t)) (part_fits r one known)
      by true f one sort card same sig =
          let d = parts m.desc in
          let r = d.result in
          let s : Signature = record { params = map sort_of d.params; result = result_by r.kind r } in
          let some : signature_of m.desc ≡ Some s = sig ∙ ap (λ b. if b then Some s else None) f in
          let on : (list_all is_card_sort s.params && is_card_result s.result) ≡ true = sym (ap (is_card_type m.desc)
          some) ∙ card in
          let known : (list_all (sort_known (is_known w)) s.params && result_known (is_known w) s.result) ≡ true =
          sym (ap (types_known (is_known w) m.desc) some) ∙ says.known in
          let k = both_true (list_all (sort_known (is_known w)) s.params) (result_known (is_known w) s.result) known in
          let t : type_by (types_in says.nibbles) ≡ record {
            params = map (type_for ref) s.params;
            result = result_for ref s.result;
          } = ap (λ ns. type_by (types_in ns)) (sym same ∙ ap (nibbles_by ref m.desc) some) ∙ method_read ref m.desc s
          on
          in
          subst Typed (sym (says.type_is ∙ t)) (result_by_kind r.kind r refl (word_so r.kind r one) k.1)
        where
          word_so : (k : Kind) (x : Part) → is_word_sort (sort_of x) ≡ true → is_word_result k (sort_of x) ≡ true
          word_so kinds.Void x h = refl
          word_so kinds.Bool x h = h
          word_so kinds.Byte x h = h
          word_so kinds.Short x h = h
          word_so kinds.Int x h = h
          word_so kinds.Other x h = h
          word_so kinds.Ref x h = h
