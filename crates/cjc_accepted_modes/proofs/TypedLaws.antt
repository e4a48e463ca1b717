-- The types of descriptors on the card, int among them: those that are read back of what is written for a descriptor.
use Rattle.std.proofs.Common.{◌≡◌, ℕ, refl, sym, ap, subst, ◌∙◌, true, false, List, [], ◌∷◌, map}
use Rattle.std.specs.Prelude.{Option, Some, None, option_and_then, if◌then◌else◌}
use Rattle.std.specs.List.{list_all}
use Rattle.cjc_verified_proof.proofs.BytesBools.{and_true}
use Rattle.cjc_verified_proof.proofs.TypeLaws.{method_read, result_for, type_for}
use Rattle.cjc_verified_proof.specs.Bytes.Descriptor.{Part}
use Rattle.cjc_verified_proof.specs.Bytes.declared.descriptor.Kind.{Kind}
use Rattle.cjc_verified_proof.specs.Bytes.declared.descriptor.Kind.TheVariants as kinds
use Rattle.cjc_verified_proof.specs.CapRead.declared.tree.ClassRef.{ClassRef}
use Rattle.cjc_verified_proof.specs.Components.Names.{names}
use Rattle.cjc_verified_proof.specs.Components.Package.{Package, world}
use Rattle.cjc_verified_proof.specs.Components.Types.{nibbles_by, sort_nibbles}
use Rattle.cjc_verified_proof.specs.NCode.declared.narrow.PoolKey.{PoolKey}
use Rattle.cjc_verified_proof.specs.Script.Sorts.{NoValue, Shape, Signature, Sort, field_sort, reference_to, result_by}
use Rattle.cjc_verified_proof.specs.Script.Sorts.{shape_named, signature_by, signature_of, sort_by, sort_of}
use Rattle.cjc_verified_proof.specs.Script.Sorts.{sort_or_none}
use Rattle.cjc_verified_proof.specs.Script.Sorts as sorts
use Rattle.cjc_verified_proof.specs.Verify.Named.{entry_type}
use Rattle.cjc_verified_proof.specs.Verify.Pairs.{Pair, is_card_result, is_card_sort, is_card_type}
use Rattle.cjc_verified_proof.specs.Verify.Pairs as pairs
use Rattle.cjc_verified_proof.specs.World.Classes.{Class}
use Rattle.cjc_check_proof.specs.Classes.Premises.{is_known, result_known, sort_known, types_known}
use Rattle.cjc_check_proof.specs.NarrowProof.Tables.Names.{IsDesc}
use Rattle.cjc_types.specs.Types.{is_void, parts}
use Rattle.cjc_accepted_proof.specs.CardActs.CardTypes.{MemberType, is_moved_by, type_by, types_in}
use Rattle.cjc_accepted_proof.specs.Coded.{card_type}
use Rattle.cjc_accepted_proof.specs.Served.{letter_of}
use Rattle.cjc_accepted_proof.specs.Written.{written_pair}
use Rattle.cjc_int_accepted.specs.Entered.{AreTypedAs}
use Rattle.cjc_int_accepted.specs.Types.{IsTypedAs}
use Rattle.cjc_accepted_theorem.proofs.TypedLaws.{AreOnCard, EntrySays, entry_typed, method_signature, nibbles_are}
use Rattle.cjc_accepted_theorem.proofs.TypedLaws.{shape_alike, shape_typed, sorts_in, sorts_on_card, typed_as}

-- ---- types of values

-- void has none
not_void : (k : Kind) (class : List ℕ) → is_card_sort (sort_by k class) ≡ true → is_void k ≡ false
not_void kinds.Bool class e = refl
not_void kinds.Byte class e = refl
not_void kinds.Short class e = refl
not_void kinds.Int class e = refl
not_void kinds.Other class e = refl
not_void kinds.Ref class e = refl
not_void kinds.Void class e = absurd cc

module _ (p : Package) where
  abbrev w : List Class
  w = world p

  abbrev q : Pair
  q = written_pair p

  abbrev ref : List ℕ → ClassRef
  ref = pairs.class_ref q

  -- the letter of a type moves it
  moved_by : (s : Sort) → is_card_sort s ≡ true → is_moved_by (letter_of s) (type_for ref s) ≡ true
  moved_by sorts.Boolean e = refl
  moved_by sorts.Byte e = refl
  moved_by sorts.Short e = refl
  moved_by sorts.Int e = refl
  moved_by (sorts.Reference shape) e = refl
  moved_by NoValue e = absurd cc

  -- ---- parts of descriptors

  kind_typed : (k : Kind) (class : List ℕ) → is_card_sort (sort_by k class) ≡ true
      → sort_known (is_known w) (sort_by k class) ≡ true → IsTypedAs (card_type p) k class (type_for ref (sort_by k
      class))
  kind_typed kinds.Bool class e f = tt
  kind_typed kinds.Byte class e f = tt
  kind_typed kinds.Short class e f = tt
  kind_typed kinds.Int class e f = tt
  kind_typed kinds.Other class e f = absurd cc
  kind_typed kinds.Void class e f = absurd cc
  kind_typed kinds.Ref class e f = by (shape_named class) refl e f
    where
      by : (o : Option (Shape (List ℕ))) → shape_named class ≡ o → is_card_sort (reference_to o) ≡ true
          → sort_known (is_known w) (reference_to o) ≡ true → IsTypedAs (card_type p) kinds.Ref class (type_for ref
          (reference_to o))
      by None is g h = absurd cc
      by (Some s) is g h = shape_typed p class s is h ∙ ap Some (shape_alike p s)

  params_typed : (xs : List Part) → list_all is_card_sort (map sort_of xs) ≡ true → list_all (sort_known (is_known w))
      (map sort_of xs) ≡ true → AreTypedAs (card_type p) xs (map (type_for ref) (map sort_of xs))
  params_typed [] on known = tt
  params_typed (x ∷ xs) on known =
      let o = and_true (is_card_sort (sort_of x)) (list_all is_card_sort (map sort_of xs)) on in
      let k = and_true (sort_known (is_known w) (sort_of x)) (list_all (sort_known (is_known w)) (map sort_of xs)) known
      in
      (kind_typed x.kind x.class o.0 k.0, not_void x.kind x.class o.0, params_typed xs o.1 k.1)

  result_typed : (k : Kind) (x : Part) → x.kind ≡ k → is_card_result (result_by k x) ≡ true
      → result_known (is_known w) (result_by k x) ≡ true → IsTypedAs (card_type p) k x.class (result_for ref (result_by
      k x))
  result_typed kinds.Void x is e f = tt
  result_typed kinds.Bool x is e f = subst (λ (v : Kind). IsTypedAs (card_type p) v x.class (type_for ref (sort_of
      x))) is (kind_typed x.kind x.class e f)
  result_typed kinds.Byte x is e f = subst (λ (v : Kind). IsTypedAs (card_type p) v x.class (type_for ref (sort_of
      x))) is (kind_typed x.kind x.class e f)
  result_typed kinds.Short x is e f = subst (λ (v : Kind). IsTypedAs (card_type p) v x.class (type_for ref (sort_of
      x))) is (kind_typed x.kind x.class e f)
  result_typed kinds.Int x is e f = subst (λ (v : Kind). IsTypedAs (card_type p) v x.class (type_for ref (sort_of
      x))) is (kind_typed x.kind x.class e f)
  result_typed kinds.Other x is e f = subst (λ (v : Kind). IsTypedAs (card_type p) v x.class (type_for ref (sort_of
      x))) is (kind_typed x.kind x.class e f)
  result_typed kinds.Ref x is e f = subst (λ (v : Kind). IsTypedAs (card_type p) v x.class (type_for ref (sort_of
      x))) is (kind_typed x.kind x.class e f)

  -- ---- descriptors

  -- The types of a member of a descriptor.
  pub record AreTypes (desc : List ℕ) (t : MemberType) : Type 0 where
    pub params : AreTypedAs (card_type p) (let d = parts desc in d.params) t.params
    pub result : (let d = parts desc in let r = d.result in IsTypedAs (card_type p) r.kind r.class t.result)

  -- a method's
  module _ (desc : List ℕ) (is_desc : IsDesc desc) (is_method : (let d = parts desc in d.is_method) ≡ true) where
    sig : signature_of desc ≡ Some (sorts_in p desc)
    sig = method_signature p desc is_desc is_method

    -- are the card's types of it
    pub method_typed : AreOnCard p desc → types_known (is_known w) desc (signature_of desc) ≡ true → AreTypes desc
        (typed_as p desc)
    method_typed on known =
        let d = parts desc in
        let r = d.result in
        let s = sorts_in p desc in
        let o = and_true (list_all is_card_sort s.params) (is_card_result s.result) on in
        let k = and_true (list_all (sort_known (is_known w)) s.params) (result_known (is_known w) s.result) (sym (ap
        (types_known (is_known w) desc) sig) ∙ known) in
        record { params = params_typed d.params o.0 k.0; result = result_typed r.kind r refl o.1 k.1 }

    -- so are those of an entry of the pool that says them
    pub entry_types : (key : PoolKey) → EntrySays p key desc → AreTypes desc (entry_type q (let n = names p in n.index
        key))
    entry_types key says =
        let on = (nibbles_are p desc says.nibbles says.wanted).0 in
        subst (AreTypes desc) (sym (entry_typed p key desc says sig)) (method_typed (sorts_on_card p desc sig on)
        says.known)

  -- a field's: it has a value, which its letter moves
  pub record IsFieldTyped (desc : List ℕ) (t : MemberType) : Type 0 where
    pub typed : (let d = parts desc in let r = d.result in IsTypedAs (card_type p) r.kind r.class t.result)
    pub is_value : (let d = parts desc in let r = d.result in is_void r.kind) ≡ false
    pub moved : is_moved_by (letter_of (field_sort desc)) t.result ≡ true

  pub field_typed : (key : PoolKey) (desc : List ℕ) → EntrySays p key desc → IsDesc desc
      → (let d = parts desc in d.is_method) ≡ false → IsFieldTyped desc (entry_type q (let n = names p in n.index key))
  field_typed key desc says is_desc is_field =
      let d = parts desc in
      let r = d.result in
      let sort : field_sort desc ≡ sort_of r = ap sort_or_none is_desc in
      let n = nibbles_are p desc says.nibbles says.wanted in
      let none : signature_of desc ≡ None = ap (option_and_then signature_by) is_desc ∙ ap (λ b. if b
      then Some (sorts_in p desc) else None) is_field in
      let s : Signature = record { params = []; result = Some (sort_of r) } in
      let on : is_card_sort (sort_of r) ≡ true = ap is_card_sort (sym sort) ∙ sym (ap (is_card_type desc) none) ∙ n.0 in
      let known : sort_known (is_known w) (sort_of r) ≡ true = ap (sort_known (is_known w)) (sym sort)
      ∙ sym (ap (types_known (is_known w) desc) none) ∙ says.known in
      let nibbles : nibbles_by ref desc (Some s) ≡ says.nibbles = ap (sort_nibbles ref) (sym sort)
      ∙ sym (ap (nibbles_by ref desc) none) ∙ n.1 in
      let t : type_by (types_in says.nibbles) ≡ record { params = []; result = type_for ref (sort_of r) } =
      ap (λ ns. type_by (types_in ns)) (sym nibbles) ∙ method_read ref desc s on in
      subst (IsFieldTyped desc) (sym (says.type_is ∙ t)) (record {
        typed = kind_typed r.kind r.class on known;
        is_value = not_void r.kind r.class on;
        moved = ap (λ v. is_moved_by (letter_of v) (type_for ref (sort_of r))) sort ∙ moved_by (sort_of r) on;
      })
