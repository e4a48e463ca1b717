-- The methods of a package that Descriptor lists have descriptors of methods, and static ones stand in classes and have
-- code.
use Rattle.std.proofs.Common.{◌≡◌, ℕ, zero, suc, ◌+◌, ◌-◌, ◌<◌, refl, sym, ap, subst, ◌∙◌, arith, Bool, true, false}
use Rattle.std.proofs.Common.{List, [], ◌∷◌, ◌++◌, length, map, slice_get, Some, None, ⊎_elim}
use Rattle.std.specs.Prelude.{◌⊎◌, ◌||◌, not, if◌then◌else◌, option_and_then, unwrap_or}
use Rattle.cjc_verified_proof.specs.Bytes.AccessFlags.{is_abstract, is_interface, is_static}
use Rattle.cjc_verified_proof.specs.Bytes.declared.settings.Settings.{Settings}
use Rattle.cjc_verified_proof.proofs.BytesGets.{in_front, mapped_at}
use Rattle.cjc_verified_proof.proofs.BytesPlain.{same_some}
use Rattle.cjc_verified_proof.specs.CapRead.declared.tree.ClassDescriptor.{ClassDescriptor}
use Rattle.cjc_verified_proof.specs.CheckRules.Codes.{whole_spots}
use Rattle.cjc_verified_proof.specs.CheckRules.Complete.{Complete}
use Rattle.cjc_verified_proof.specs.CheckRules.Described.{all_starts, classes_in_order}
use Rattle.cjc_verified_proof.specs.Bytecode.ReadLaws.Members.{IsDescOf}
use Rattle.cjc_verified_proof.specs.Bytecode.declared.method_code.MethodCode.{MethodCode}
use Rattle.cjc_verified_proof.specs.Components.Descriptor.{as_added, method_in, methods_with_added, no_member}
use Rattle.cjc_verified_proof.specs.Components.Paired.Pairs.{ArePaired}
use Rattle.cjc_verified_proof.specs.Script.Sorts.{Signature, result_by, signature_by, signature_of, sort_of}
use Rattle.cjc_theorem.proofs.ShapeProofDescs.{member_desc}
use Rattle.cjc_theorem.proofs.ShapeProofInterfaces.{are_asked}
use Rattle.cjc_shape_proof.proofs.WrittenLaws.Checked.{none_static}
use Rattle.cjc_theorem.specs.Subset.Checks.{check_breaks}
use Rattle.cjc_verified_proof.specs.Tokens.Members.{is_initialiser}
use Rattle.cjc_verified_proof.proofs.TokenProofClean.{own_name}
use Rattle.cjc_verified_proof.proofs.TokenProofOrder.{order_in}
use Rattle.cjc_verified_proof.specs.TokenProof.Tables.Sound.{IsSound}
use Rattle.cjc_verified_proof.specs.Verify.Pairs.{Described, Pair, described, described_among, described_in}
use Rattle.cjc_verified_proof.specs.Verify.Pairs.{member_of}
use Rattle.cjc_verified_proof.specs.Verify.Pairs.{pair_of}
use Rattle.cjc_verified_proof.specs.Verify.Verified.{IsVerified}
use Rattle.cjc_verified_proof.specs.Suited.{HaveCode}
use Rattle.cjc_verified_proof.proofs.DescribedLaws.{described_said, either_part, in_got}
use Rattle.cjc_verified_proof.proofs.FoundLaws.{written_got}
use Rattle.cjc_verified_proof.proofs.TokenProofWrittenCallsFlags.{static_same}
use Rattle.cjc_theorem.proofs.VTableFiled.{get-has}
use Rattle.cjc_verified_proof.specs.World.declared.found.Found.{Found}
use Rattle.cjc_verified_proof.specs.World.declared.image.StaticImage.{StaticImage}
use Rattle.cjc_verified_proof.specs.World.Added.{added, asked_by, by_token, declares_open, has_open, is_one_of, lacking}
use Rattle.cjc_verified_proof.specs.World.Added.{methods_of}
use Rattle.cjc_verified_proof.specs.World.Added.{own_methods, takes_added, with_token, without_initialiser}
use Rattle.cjc_verified_proof.specs.World.Classes.{Class, Member, all_classes, class_named, method_of_class}
use Rattle.cjc_verified_proof.specs.World.Files.{Files}
use Rattle.cjc_verified_proof.specs.World.Interfaces.{gathered, known}
use Rattle.cjc_verified_proof.specs.World.Lookup.{member_at}
use Rattle.cjc_verified_proof.specs.World.Order.{class_order, methods_of_class, places, written}
use Rattle.cjc_verified_proof.specs.World.Supertypes.{AreSupertypes, IsAcyclic, supertypes}
use Rattle.cjc_verified_proof.specs.WorldProof.Calls.Solid.{IsOwn, IsSolid}
use Rattle.cjc_verified_proof.specs.WorldProof.Files.{AreReadFiles}

-- ---- lists

abbrev Each : {A : Type 0} → (P : A → Type 0) → List A → Type 0
Each {A} P xs = (k : ℕ) (x : A) → slice_get xs k ≡ Some x → P x

each_cons : {A : Type 0} (P : A → Type 0) (y : A) (ys : List A) → P y → Each P ys → Each P (y ∷ ys)
each_cons P y ys one later zero x e = subst P (same_some e) one
each_cons P y ys one later (suc k) x e = later k x e

each_none : {A : Type 0} (P : A → Type 0) → Each P []
each_none P k x e = cc

each_append : {A : Type 0} (P : A → Type 0) (xs ys : List A) → Each P xs → Each P ys → Each P (xs ++ ys)
each_append P [] ys f g = g
each_append P (x ∷ xs) ys f g = each_cons P x (xs ++ ys) (f 0 x refl) (each_append P xs ys (λ k y e. f (suc k) y e) g)

-- ---- methods that a class gets are methods of interfaces

module _ (P : Member → Type 0) where
  lacking_keeps : (there : Member → Bool) (given ms : List Member) → Each P ms → Each P (lacking there given ms)
  unfolding lacking
  lacking_keeps there given [] f = each_none P
  lacking_keeps there given (m ∷ ms) f = by (there m || is_one_of given m.name m.desc) (lacking_keeps there given ms
      (λ k x e. f (suc k) x e)) (lacking_keeps there (given ++ m ∷ []) ms (λ k x e. f (suc k) x e))
    where
      by : (b : Bool) → Each P (lacking there given ms) → Each P (lacking there (given ++ m ∷ []) ms)
          → Each P (if b then lacking there given ms else m ∷ lacking there (given ++ m ∷ []) ms)
      by true old fresh = old
      by false old fresh = each_cons P m (lacking there (given ++ m ∷ []) ms) (f 0 m refl) fresh

  without_keeps : (ms : List Member) → Each P ms → Each P (without_initialiser ms)
  without_keeps [] f = each_none P
  without_keeps (m ∷ ms) f = by (is_initialiser m.name) (without_keeps ms (λ k x e. f (suc k) x e))
    where
      by : (b : Bool) → Each P (without_initialiser ms) → Each P (if b then without_initialiser ms
          else m ∷ without_initialiser ms)
      by true more = more
      by false more = each_cons P m (without_initialiser ms) (f 0 m refl) more

  token_keeps : (t : ℕ) (ms : List Member) → Each P ms → Each P (with_token t ms)
  token_keeps t [] f = each_none P
  token_keeps t (m ∷ ms) f = by (Rattle.std.specs.Prelude.nat_eq m.token t) (token_keeps t ms (λ k x e. f (suc k) x e))
    where
      by : (b : Bool) → Each P (with_token t ms) → Each P (if b then m ∷ [] else with_token t ms)
      by true more = each_cons P m [] (f 0 m refl) (each_none P)
      by false more = more

  tokens_keep : (n t : ℕ) (ms : List Member) → Each P ms → Each P (by_token n t ms)
  tokens_keep zero t ms f = each_none P
  tokens_keep (suc n) t ms f = each_append P (with_token t ms) (by_token n (t + 1) ms) (token_keeps t ms f)
      (tokens_keep n (t + 1) ms f)

  own_keep : (c : Class) → Each P c.methods → Each P (own_methods c)
  unfolding own_methods
  own_keep c f = without_keeps (if c.is_imported then by_token (length c.methods) 0 c.methods else c.methods)
      (by c.is_imported)
    where
      by : (b : Bool) → Each P (if b then by_token (length c.methods) 0 c.methods else c.methods)
      by true = tokens_keep (length c.methods) 0 c.methods f
      by false = f

  all_keep : (cs : List Class) → Each (λ (c : Class). Each P c.methods) cs → Each P (methods_of cs)
  unfolding methods_of
  all_keep [] f = each_none P
  all_keep (c ∷ cs) f = each_append P (own_methods c) (methods_of cs) (own_keep c (f 0 c refl)) (all_keep cs (λ k x e. f
      (suc k) x e))

  added_keep : (w : List Class) (c : Class) → Each (λ (d : Class). Each P d.methods) (known (gathered false
      (supertypes w
      c.supers) ++ gathered true (supertypes w c.interfaces))) → Each P (added w c)
  unfolding added asked_by
  added_keep w c f = by (takes_added c)
    where
      test : Member → Bool
      test m = declares_open m.name m.desc c || has_open m.name m.desc (supertypes w c.supers)

      by : (b : Bool) → Each P (if b then lacking test [] (asked_by (supertypes w c.supers) (supertypes w c.interfaces))
          else [])
      by true = lacking_keeps test [] (asked_by (supertypes w c.supers) (supertypes w c.interfaces)) (all_keep
          (known (gathered false (supertypes w c.supers) ++ gathered true (supertypes w c.interfaces))) f)
      by false = each_none P

-- ---- what stands among the methods of a class

places_got : (c : Class) (at n j : ℕ) (f : Found) → slice_get (places c at n) j ≡ Some f → (f ≡ member_at c (at + j))
    × (j < n)
places_got c at zero j f e = absurd cc
places_got c at (suc n) zero f e = let z : at ≡ at + 0 = omega arith in
    (sym (same_some e) ∙ ap (member_at c) z, omega arith)
places_got c at (suc n) (suc j) f e =
    let r = places_got c (at + 1) n j f e in
    let z : at + 1 + j ≡ at + suc j = omega arith in
    let less = r.1 in
    (r.0 ∙ ap (member_at c) z, omega (arith, less))

get_there : {A : Type 0} (xs : List A) (k : ℕ) → k < length xs → (x : A) × (slice_get xs k ≡ Some x)
get_there [] k lt = absurd (omega (arith, lt))
get_there (x ∷ xs) zero lt = (x, refl)
get_there (x ∷ xs) (suc k) lt = get_there xs k (omega (arith, lt))

got_among : (w order : List Class) (xs : List ClassDescriptor) (j : ℕ) (d : Described)
    → slice_get (described_among w order xs) j ≡ Some d → (k : ℕ) × (i : ℕ) × (slice_get order k ≡ Some d.class)
    × (slice_get (methods_of_class w d.class) i ≡ Some d.member)
got_among w [] xs j d e = absurd cc
got_among w (c ∷ order) [] j d e = absurd cc
got_among w (c ∷ order) (x ∷ xs) j d e = ⊎_elim
    (λ a. (
    let g = in_got c x.this_class (methods_of_class w c) x.methods j d a in
    let class : c ≡ d.class = ap (λ (y : Described). y.class) g.4 in
    let member : g.0 ≡ d.member = ap (λ (y : Described). y.member) g.4 in (
      0,
      j,
      ap (λ y. Some y) class,
      ap (λ y. slice_get (methods_of_class w y) j) (sym class) ∙ g.2
          ∙ ap (λ y. Some y) member,
    )
    ))
    (λ b. (let r = got_among w order xs b.0 d b.1 in (suc r.0, r.1, r.2, r.3)))
    (either_part (described_in c x.this_class (methods_of_class w c) x.methods) (described_among w order xs) j d e)

-- a method's descriptor has types
desc_types : (desc : List ℕ) → IsDescOf true desc → (s : Signature) × (signature_of desc ≡ Some s)
desc_types desc d =
    let parts = d.0 in
    let s : Signature = record {
      params = map sort_of parts.params;
      result = (let r = parts.result in result_by r.kind r);
    } in
    (s, ap (option_and_then signature_by) d.1 ∙ ap (λ b. if b then Some s else None) d.2)

module _ (name : List ℕ) (applets : Bool) (files : Files) (image : StaticImage) (c : Complete) (codes : List MethodCode)
    (settings : Settings) (sound : IsSound name files) (checks : check_breaks name files codes settings ≡ [])
    (read : AreReadFiles files) (solid : IsSolid files)
    (acyclic : IsAcyclic (all_classes files)) (are_supertypes : (xs : List (List ℕ)) → AreSupertypes
    (all_classes files) xs
    (supertypes (all_classes files) xs))
    (whole : whole_spots c ≡ [])
    (ordered : (let d = c.descriptor in classes_in_order d.classes (all_starts c.class)) ≡ [])
    (paired : ArePaired files image c) (verified : IsVerified (pair_of applets files image c)) where
  abbrev p : Pair
  p = pair_of applets files image c

  abbrev w : List Class
  w = all_classes files

  abbrev IsTyped : Member → Type 0
  IsTyped m = IsDescOf true m.desc

  -- methods of classes of files
  own_typed : (x : List ℕ) (d : Class) → class_named w x ≡ Some d → Each IsTyped d.methods
  own_typed x d known i m e = (member_desc files read d (ap (class_named w)
      (Rattle.cjc_verified_proof.proofs.WorldCycles.class_named-name
      w x d known) ∙ known) i m e).0

  -- and those that a class gets
  got_typed : (x : List ℕ) (d : Class) → class_named w x ≡ Some d → Each IsTyped (added w d)
  got_typed x d known = added_keep IsTyped w d (λ k i e. (
      let all = known_ones in
      let r = are_asked name files sound.classes sound.exports sound.unbroken acyclic are_supertypes x d i known
      (get-has i all k e)
      in own_typed r.1.0 i r.1.1
      ))
    where
      known_ones : List Class
      known_ones = Rattle.cjc_verified_proof.specs.World.Interfaces.known (gathered false (supertypes w d.supers)
          ++ gathered true (supertypes w d.interfaces))

  -- a method that Descriptor lists: one of its class's file, but no initialiser, or one that the class gets
  data IsMethodOf (d : Described) : Type 0 where
    own_method : (i : ℕ) (m : Member) → (let k = d.class in slice_get k.methods i ≡ Some m) → member_of p d ≡ m
        → is_initialiser m.name ≡ false → IsMethodOf d
    got_method : (i : ℕ) (m : Member) → slice_get (added w d.class) i ≡ Some m → member_of p d ≡ as_added m
        → IsMethodOf d

  member_is : (k : Class) (i : ℕ) (m : Member) → slice_get (methods_with_added w k) i ≡ Some m → method_in w k (length
      k.fields + i) ≡ m
  member_is k i m e =
      let left : length k.fields + i - length k.fields ≡ i = omega arith in
      ap (λ j. unwrap_or (slice_get (methods_with_added w k) j) no_member) left ∙ ap (λ o. unwrap_or o no_member) e

  -- the class of a method that Descriptor lists
  record IsOf (d : Described) : Type 0 where
    known : (let k = d.class in class_named w k.name ≡ Some k)
    own : (let k = d.class in k.is_imported ≡ false)
    method : IsMethodOf d

  listed_of : (j : ℕ) (d : Described) → slice_get (described p) j ≡ Some d → IsOf d
  listed_of j d e =
      let x = c.descriptor in
      let g = got_among w (class_order w) x.classes j d e in
      let o = order_in name files sound d.class (get-has d.class (class_order w) g.0 g.2) in
      record { known = own_name name files sound d.class o.0; own = o.1; method = by g.1 g.3 }
    where
      k : Class
      k = d.class

      by : (i : ℕ) → slice_get (methods_of_class w k) i ≡ Some d.member → IsMethodOf d
      by i f = ⊎_elim
          (λ a. (
          let r = written_got k (length k.fields) k.methods i d.member a in
          own_method r.0 r.1 r.2 (ap (λ (y : Found). method_in w k y.member) r.3 ∙ member_is k r.0 r.1
          (in_front k.methods
          (map as_added (added w k)) r.0 r.1 r.2)) r.4
          ))
          (λ b. (
          let r = places_got k (length k.fields + length k.methods) (length (added w k)) b.0 d.member b.1 in
          let m = get_there (added w k) b.0 r.1 in
          let at : length k.fields + length k.methods + b.0 ≡ length k.fields +
          (length k.methods + b.0) = omega arith in
          got_method b.0 m.0 m.1 (ap (λ (y : Found). method_in w k y.member) (r.0 ∙ ap (member_at k) at) ∙ member_is k
          (length k.methods + b.0) (as_added m.0) (Rattle.cjc_verified_proof.proofs.BytesGets.get_behind k.methods
          (map as_added
          (added w k)) b.0 ∙ Rattle.cjc_verified_proof.proofs.BytesGets.item_there as_added (added w k) b.0 m.0 m.1))
          ))
          (either_part (written k (length k.fields) k.methods) (places k (length k.fields + length k.methods)
          (length (added w k))) i d.member f)

  -- each has a descriptor of a method
  typed : (j : ℕ) (d : Described) → slice_get (described p) j ≡ Some d → IsDescOf true (let m = member_of p d in m.desc)
  typed j d e = by o.method
    where
      o : IsOf d
      o = listed_of j d e

      by : IsMethodOf d → IsDescOf true (let m = member_of p d in m.desc)
      by (own_method i m at is plain) = subst (λ (y : Member). IsDescOf true y.desc) (sym is) (own_typed
          (let k = d.class
          in k.name) d.class o.known i m at)
      by (got_method i m at is) = subst (λ (y : Member). IsDescOf true y.desc) (sym is) (got_typed (let k = d.class
          in k.name) d.class o.known i m at)

  clash : {A : Type 0} (b : Bool) → b ≡ true → b ≡ false → A
  clash true e f = absurd cc
  clash false e f = absurd cc

  -- a static one is a static one of its file, which is not abstract, in a class that is no interface
  static_one : (j : ℕ) (d : Described) → slice_get (described p) j ≡ Some d → is_static (let m = d.method in m.flags)
      ≡ true → ((let k = d.class in is_interface k.flags ≡ false)) × (is_abstract (let m = member_of p d in m.flags)
      ≡ false)
  static_one j d e static = by o.method
    where
      o : IsOf d
      o = listed_of j d e

      said : is_static (let m = member_of p d in m.flags) ≡ true
      said = (let s = described_said applets files image c whole ordered paired verified j d e in sym (static_same
          (member_of p d)) ∙ sym (ap is_static s.flags) ∙ static)

      in_file : (i : ℕ) (m : Member) → (let k = d.class in slice_get k.methods i ≡ Some m) → is_static m.flags ≡ true
          → is_initialiser m.name ≡ false → ((let k = d.class in is_interface k.flags ≡ false)) × (is_abstract m.flags
          ≡ false)
      in_file i m at on plain = (
        kind (is_interface (let k = d.class in k.flags)) refl,
        coded
            (is_abstract m.flags) refl,
      )
        where
          kind : (b : Bool) → is_interface (let k = d.class in k.flags) ≡ b → b ≡ false
          kind false f = refl
          kind true f = clash (is_initialiser m.name) (none_static files solid name codes settings checks
              (let k = d.class
              in k.name) d.class o.known o.own f i m at on) plain

          coded : (b : Bool) → is_abstract m.flags ≡ b → b ≡ false
          coded false f = refl
          coded true f =
              let t = solid.own (let k = d.class in k.name) d.class o.known o.own in
              let r = mapped_at method_of_class (let u = t.0 in u.methods) i m (ap (λ
              (v : Class). slice_get v.methods i)
              (sym t.2) ∙ at) in
              let own : IsOwn files t.0 r.0 = record {
                number = (let k = d.class in k.number);
                place = i;
                is_class = t.1;
                is_method = r.1;
              } in
              let bound = solid.bound t.0 r.0 own (ap (λ (v : Member). is_abstract v.flags) r.2 ∙ f) in
              clash (is_static m.flags) on (ap (λ (v : Member). is_static v.flags) (sym r.2) ∙ bound.0)

      by : IsMethodOf d → ((let k = d.class in is_interface k.flags ≡ false)) × (is_abstract (let m = member_of p d
          in m.flags) ≡ false)
      by (own_method i m at is plain) =
          let r = in_file i m at (ap (λ (v : Member). is_static v.flags) (sym is) ∙ said) plain in
          (r.0, ap (λ (v : Member). is_abstract v.flags) is ∙ r.1)
      by (got_method i m at is) = clash (is_static (let v = as_added m in v.flags)) (ap (λ (v : Member).
          is_static v.flags) (sym is) ∙ said) refl

  pub have_code : HaveCode p
  have_code = record {
    signed = λ j d e. desc_types (let m = member_of p d in m.desc) (typed j d e);
    in_classes = λ j d e static. (static_one j d e static).0;
    coded = λ j d e static. ap not (static_one j d e static).1;
  }
