-- Entries of the constant pool name fields of their keys' descriptors: those of instance fields. A token is that of one
-- field.
use Rattle.std.proofs.Common.{◌≡◌, ℕ, zero, suc, ◌+◌, ◌<◌, ◌==◌, refl, sym, ap, ◌∙◌, arith, Bool, true, false}
use Rattle.std.proofs.Common.{List, [], ◌∷◌, map}
use Rattle.std.specs.Prelude.{Option, Some, None, if◌then◌else◌, option_and_then, option_map, position, slice_get}
use Rattle.std.proofs.lemmas.Option.{slice_get-map}
use Rattle.cjc_verified_proof.specs.CapRead.declared.tree.PoolEntry.TheVariants.{InstanceFieldref}
use Rattle.cjc_verified_proof.specs.CardSemantics.Machine.Classes.{Info, info_size, infos, number_from}
use Rattle.cjc_verified_proof.specs.CheckRules.Spots.{starts}
use Rattle.cjc_verified_proof.specs.ClassFile.declared.tree.ClassTree.{ClassTree}
use Rattle.cjc_verified_proof.specs.ClassFile.declared.tree.FieldTree.{FieldTree}
use Rattle.cjc_verified_proof.specs.Clinit.Image.{field_id}
use Rattle.cjc_verified_proof.specs.Components.Names.{field_token, names}
use Rattle.cjc_verified_proof.specs.Components.Package.{Package, has_applets, world}
use Rattle.cjc_verified_proof.specs.NCode.Lowering.Naming.{entry_of}
use Rattle.cjc_verified_proof.specs.NCode.declared.narrow.PoolKey.TheVariants as keys
use Rattle.cjc_verified_proof.specs.TokenProof.Tables.Infos.{HasInfo}
use Rattle.cjc_verified_proof.specs.TokenProof.Tables.Loading.{components, part}
use Rattle.cjc_verified_proof.specs.TokenProof.Tables.Sound.{IsSound}
use Rattle.cjc_verified_proof.specs.Verify.Named.{named_desc, own_field_desc}
use Rattle.cjc_verified_proof.specs.Verify.Pairs as pairs
use Rattle.cjc_verified_proof.specs.Verify.Pairs.{Pair, class_at}
use Rattle.cjc_verified_proof.specs.World.Classes.{Class, Member, class_named, declared, field_of_class}
use Rattle.cjc_verified_proof.specs.World.Order.{class_order}
use Rattle.cjc_verified_proof.proofs.BytesNumbers.{like_number, number_same}
use Rattle.cjc_verified_proof.proofs.CardLinkInfoPlaces.{all_starts}
use Rattle.cjc_verified_proof.specs.Tokens.Fields.{instance_field_token, instance_token, instance_tokens, is_instance}
use Rattle.cjc_verified_proof.specs.Tokens.Tokens.{OfClass, field_of_token, has_token}
use Rattle.cjc_verified_proof.proofs.TokensFacts.{position-cons}
use Rattle.cjc_verified_proof.proofs.TokensMeans.{kept-at}
use Rattle.cjc_verified_proof.proofs.TokenProofClean.{has_named}
use Rattle.cjc_verified_proof.proofs.TokenProofFields.{token_is}
use Rattle.cjc_verified_proof.proofs.TokenProofNamed.{has_info}
use Rattle.cjc_verified_proof.proofs.TokenProofSpans.{token_once}
use Rattle.cjc_accepted_proof.specs.Written.{written_pair}

-- ---- classes by their offsets

number_position : (at : ℕ) (is : List Info) (offset : ℕ) → position (λ (n : ℕ). n == offset) (starts info_size at is)
    ≡ number_from at is offset
unfolding Rattle.cjc_verified_proof.specs.CheckRules.Spots.placed
number_position at [] offset = refl
number_position at (i ∷ is) offset =
    position-cons (λ (n : ℕ). n == offset) at (starts info_size (at + info_size i) is)
    ∙ ap (λ (o : Option ℕ). if at == offset then Some 0 else option_map suc o) (number_position (at + info_size i) is
    offset)

-- the class whose info stands where a class of the package has its own is that class
pub class_there : (p : Package) (c : Class) (h : HasInfo p c) → class_at (written_pair p) h.offset ≡ Some c
class_there p c h =
    let at : position (λ (n : ℕ). n == h.offset) (pairs.starts (written_pair p)) ≡ Some h.number =
    ap (position (λ (n : ℕ). n == h.offset)) (all_starts (let v = components p in v.class))
    ∙ number_position 2 (infos (part p)) h.offset ∙ h.numbered in
    ap (option_and_then (slice_get (class_order (world p)))) at ∙ h.ordered

-- ---- fields by their tokens

first_of_token : (fs : List FieldTree) (token k : ℕ) (rest : List FieldTree) (i : ℕ) (f : FieldTree)
    → slice_get rest i ≡ Some f → has_token token (instance_field_token fs (k + i) f) ≡ true
    → ((j : ℕ) (g : FieldTree) → j < i → slice_get rest j ≡ Some g → has_token token (instance_field_token fs (k + j) g)
    ≡ false) → position (λ (o : Option ℕ). has_token token o) (instance_tokens fs k rest) ≡ Some i
unfolding instance_tokens
first_of_token fs token k [] i f e has none = absurd cc
first_of_token fs token k (g ∷ rest) zero f e has none =
    let same : g ≡ f = cc in
    let z : k ≡ k + 0 = omega arith in
    position-cons (λ (o : Option ℕ). has_token token o) (instance_field_token fs k g) (instance_tokens fs (k + 1) rest)
    ∙ ap (λ b. if b then Some 0 else option_map suc (position (λ (o : Option ℕ). has_token token o) (instance_tokens fs
    (k + 1) rest))) (ap (λ v. has_token token (instance_field_token fs k v)) same
    ∙ ap (λ n. has_token token (instance_field_token fs n f)) z ∙ has)
first_of_token fs token k (g ∷ rest) (suc i) f e has none =
    let z : k ≡ k + 0 = omega arith in
    let next : k + 1 + i ≡ k + suc i = omega arith in
    position-cons (λ (o : Option ℕ). has_token token o) (instance_field_token fs k g) (instance_tokens fs (k + 1) rest)
    ∙ ap (λ b. if b then Some 0 else option_map suc (position (λ (o : Option ℕ). has_token token o) (instance_tokens fs
    (k + 1) rest))) (ap (λ n. has_token token (instance_field_token fs n g)) z ∙ none 0 g (omega arith) refl)
    ∙ ap (option_map suc) (first_of_token fs token (k + 1) rest i f e (ap (λ n. has_token token (instance_field_token fs
    n f)) next ∙ has) (λ j v lt h. later j v lt h))
  where
    later : (j : ℕ) (v : FieldTree) → j < i → slice_get rest j ≡ Some v → has_token token (instance_field_token fs (k
        + 1 + j) v) ≡ false
    later j v lt h =
        let s : k + 1 + j ≡ k + suc j = omega arith in
        ap (λ n. has_token token (instance_field_token fs n v)) s ∙ none (suc j) v (omega (arith, lt)) h

-- the field of the token of a field of a class is that field
field_back : (fs : List FieldTree) (i : ℕ) (f : FieldTree) → slice_get fs i ≡ Some f → is_instance f ≡ true
    → position (λ (o : Option ℕ). has_token (instance_token fs i f) o) (instance_tokens fs 0 fs) ≡ Some i
field_back fs i f e is =
    let z : i ≡ 0 + i = omega arith in
    first_of_token fs (instance_token fs i f) 0 fs i f e (ap (λ n. has_token (instance_token fs i f)
    (instance_field_token fs n f)) (sym z) ∙ ap (λ b. has_token (instance_token fs i f) (if b
    then Some (instance_token fs i f) else None)) is ∙ like_number (instance_token fs i f)) (λ j g lt h. other j g lt h)
  where
    other : (j : ℕ) (g : FieldTree) → j < i → slice_get fs j ≡ Some g → has_token (instance_token fs i f)
        (instance_field_token fs (0 + j) g) ≡ false
    other j g lt h =
        let z : j ≡ 0 + j = omega arith in
        ap (λ n. has_token (instance_token fs i f) (instance_field_token fs n g)) (sym z) ∙ by (is_instance g) refl
      where
        same_not : (b : Bool) → (instance_token fs j g == instance_token fs i f) ≡ b → is_instance g ≡ true → b ≡ false
        same_not false t k = refl
        same_not true t k =
            let one = token_once fs j i g f h e k is (number_same (instance_token fs j g) (instance_token fs i f) t) in
            absurd (omega (arith, one, lt))

        by : (b : Bool) → is_instance g ≡ b → has_token (instance_token fs i f) (if b then Some (instance_token fs j g)
            else None) ≡ false
        by false k = refl
        by true k = same_not (instance_token fs j g == instance_token fs i f) refl k

module _ (list : List ℕ) (p : Package) (sound : IsSound list p.files) where
  abbrev w : List Class
  w = world p

  abbrev q : Pair
  q = written_pair p

  own_token : (c : Class) (n : ℕ) (t : ClassTree) → (let v = p.files in slice_get v.classes n ≡ Some t) → c ≡ declared n
      t → (i : ℕ) (f : FieldTree) → slice_get t.fields i ≡ Some f → is_instance f ≡ true
      → own_field_desc q (field_token p (field_id t.name f)) c ≡ Some f.desc
  own_token c n t is_class same i f e instance =
      let fs = t.fields in
      let kept = kept-at p.files (has_applets p) n t is_class in
      let place : field_of_token q.tokens n (instance_token fs i f) ≡ Some i =
      ap (option_and_then (λ (k : OfClass). position (λ (o : Option ℕ). has_token (instance_token fs i f) o)
      k.instances)) kept.1 ∙ field_back fs i f e instance in
      ap (λ k. own_field_desc q k c) (token_is list p sound n t is_class i f e instance)
      ∙ ap (own_field_desc q (instance_token fs i f)) same
      ∙ ap (λ o. option_map (λ (v : Member). v.desc) (option_and_then (slice_get (map field_of_class fs)) o)) place
      ∙ ap (option_map (λ (v : Member). v.desc)) (slice_get-map field_of_class fs i ∙ ap (option_map field_of_class) e)

  -- the entry of an instance field of a class file
  pub instance_named : (d : Class) → class_named w d.name ≡ Some d → d.is_imported ≡ false → (t : ClassTree)
      → (let v = p.files in slice_get v.classes d.number ≡ Some t) → d ≡ declared d.number t → (i : ℕ) (f : FieldTree)
      → slice_get t.fields i ≡ Some f → is_instance f ≡ true
      → named_desc q (entry_of (names p) (keys.Field (field_id d.name f))) ≡ Some f.desc
  instance_named d known own t is_class same i f e instance =
      let h = has_info list p sound d (has_named w d.name d known) own in
      let name : d.name ≡ t.name = ap (λ (v : Class). v.name) same in
      ap (λ r. named_desc q (InstanceFieldref r (field_token p (field_id d.name f)))) h.ref
      ∙ ap (option_and_then (own_field_desc q (field_token p (field_id d.name f)))) (class_there p d h)
      ∙ ap (λ v. own_field_desc q (field_token p (field_id v f)) d) name
      ∙ own_token d d.number t is_class same i f e instance
