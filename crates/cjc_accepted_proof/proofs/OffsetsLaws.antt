-- Where a method stands in Method is what Descriptor says of it.
use Rattle.std.proofs.Common.{◌≡◌, ℕ, ◌+◌, ◌==◌, refl, sym, ap, subst, ◌∙◌, Bool, true, false, List, []}
use Rattle.std.proofs.Common.{◌∷◌, ◌++◌, map, Option, Some, None, append_assoc}
use Rattle.std.specs.Prelude.{◌&&◌, ◌||◌, cond, if◌then◌else◌, not, option_map, unwrap_or}
use Rattle.std.specs.List.{AllByRecursion, find, list_any}
use Rattle.cjc_types.proofs.BytesBools.{true_not_false}
use Rattle.cjc_types.proofs.BytesGets.{all_at, find_got}
use Rattle.cjc_types.proofs.BytesLists.{map_append}
use Rattle.cjc_types.proofs.BytesNumbers.{like_number, number_same}
use Rattle.cjc_types.proofs.BytesQuantified.{all_both}
use Rattle.cjc_verify.specs.CapRead.declared.tree.ClassRef.{ClassRef}
use Rattle.cjc_types.specs.World.declared.found.Found.{Found}
use Rattle.cjc_types.specs.World.Classes.{Class}
use Rattle.cjc_types.specs.World.Order.{class_order, in_order, method_order, methods_in_turn, methods_of_class}
use Rattle.cjc_verify.specs.Components.Package.{LaidMethod, Package, world}
use Rattle.cjc_verify.specs.Components.Methods.{Extent, extent_at, extent_from, extent_of, first_method}
use Rattle.cjc_verify.specs.Components.Methods.{handler_count}
use Rattle.cjc_verify.specs.Components.Methods.{is_member, method_offset, method_size, nowhere}
use Rattle.cjc_verify.specs.Components.Descriptor.{class_descriptor, method_descriptor}
use Rattle.cjc_verify.specs.Components.Names.{class_ref}
use Rattle.cjc_check_proof.specs.TokenProof.Components.Methods.{HasMethods}
use Rattle.cjc_check_proof.proofs.TokenProofApart.{AreOwn, order_own}
use Rattle.cjc_verify.specs.Pairs.{Described, described_among, described_in, same_found}
use Rattle.cjc_verify.specs.Pairs as pairs
use Rattle.cjc_accepted_proof.specs.Written.{written_pair}

-- ---- lists

none_behind : {A : Type 0} (test : A → Bool) (xs ys : List A) → list_any test (xs ++ ys) ≡ false → list_any test ys
    ≡ false
none_behind test [] ys e = e
none_behind test (x ∷ xs) ys e = by (test x) (list_any test (xs ++ ys)) e (none_behind test xs ys)
  where
    by : (a b : Bool) → (a || b) ≡ false → (b ≡ false → list_any test ys ≡ false) → list_any test ys ≡ false
    by true b f more = absurd cc
    by false b f more = more f

-- none passes where none is found
not_found : {A B : Type 0} (test : B → Bool) (f : A → B) (xs : List A) → find (λ (x : A). test (f x)) xs ≡ None
    → list_any test (map f xs) ≡ false
not_found test f [] e = refl
not_found {A} test f (x ∷ xs) e = by (test (f x)) e (not_found test f xs)
  where
    by : (b : Bool) → cond b (Some x) (find (λ (y : A). test (f y)) xs) ≡ None
        → (find (λ (y : A). test (f y)) xs ≡ None → list_any test (map f xs) ≡ false)
        → (b || list_any test (map f xs)) ≡ false
    by true g more = absurd cc
    by false g more = more g

in_turn_both : (w : List Class) (xs ys : List Class) → methods_in_turn w (xs ++ ys) ≡ methods_in_turn w xs
    ++ methods_in_turn w ys
in_turn_both w [] ys = refl
in_turn_both w (x ∷ xs) ys = ap (λ fs. methods_of_class w x ++ fs) (in_turn_both w xs ys)
    ∙ sym (append_assoc (methods_of_class w x) (methods_in_turn w xs) (methods_in_turn w ys))

-- ---- one member

all_four : (a b c d : Bool) → (a && b && c && d) ≡ true → (a ≡ true) × (b ≡ true) × (c ≡ true) × (d ≡ true)
all_four true true true true e = (refl, refl, refl, refl)
all_four true true true false e = absurd cc
all_four true true false d e = absurd cc
all_four true false c d e = absurd cc
all_four false b c d e = absurd cc

all_three : (a b c : Bool) → (a && b && c) ≡ true → (a ≡ true) × (b ≡ true) × (c ≡ true)
all_three true true true e = (refl, refl, refl)
all_three true true false e = absurd cc
all_three true false c e = absurd cc
all_three false b c e = absurd cc

no_true : (b : Bool) → not b ≡ true → b ≡ false
no_true true e = absurd cc
no_true false e = refl

-- the same member of the same class is one
found_same : (f g : Found) → same_found f g ≡ true → f ≡ g
found_same f g e =
    let r = all_four (not f.imported) (not g.imported) (f.class == g.class) (f.member == g.member) e in
    ap (λ b. record f { imported = b }) (no_true f.imported r.0 ∙ sym (no_true g.imported r.1))
    ∙ ap (λ n. record f { imported = g.imported; class = n }) (number_same f.class g.class r.2)
    ∙ ap (λ n. record g { member = n }) (number_same f.member g.member r.3)

-- a method of the package that is this member is the same one
member_same : (f : Found) (m : LaidMethod) → (let g = m.member in g.imported ≡ false) → is_member f m ≡ true
    → same_found m.member f ≡ true
member_same f m own e =
    let g = m.member in
    let r = all_three (not f.imported) (f.class == g.class) (f.member == g.member) e in
    ap (λ b. not b && not f.imported && (g.class == f.class) && (g.member == f.member)) own
    ∙ ap (λ b. true && b && (g.class == f.class) && (g.member == f.member)) r.0
    ∙ ap (λ n. true && true && (n == f.class) && (g.member == f.member)) (sym (number_same f.class g.class r.1))
    ∙ ap (λ b. true && true && b && (g.member == f.member)) (like_number f.class)
    ∙ ap (λ n. true && true && true && (n == f.member)) (sym (number_same f.member g.member r.2))
    ∙ like_number f.member

-- ---- methods of the package

-- a member that is none of the methods stands nowhere
stands_nowhere : (f : Found) (at k : ℕ) (ms : List LaidMethod) → AreOwn (map (λ (m : LaidMethod). m.member) ms) →
    list_any (λ (g : Found). same_found g f) (map (λ (m : LaidMethod). m.member) ms) ≡ false → extent_from at k ms f
    ≡ nowhere
stands_nowhere f at k [] own e = refl
stands_nowhere f at k (m ∷ ms) own e = by (same_found m.member f) refl (is_member f m) refl e (stands_nowhere f (at +
    method_size m) (k + handler_count m) ms own.1)
  where
    by : (s : Bool) → same_found m.member f ≡ s → (t : Bool) → is_member f m ≡ t
        → (s || list_any (λ (g : Found). same_found g f) (map (λ (m : LaidMethod). m.member) ms)) ≡ false
        → (list_any (λ (g : Found). same_found g f) (map (λ (m : LaidMethod). m.member) ms) ≡ false
        → extent_from (at + method_size m) (k + handler_count m) ms f ≡ nowhere)
        → (if t then extent_at at k m else extent_from (at + method_size m) (k + handler_count m) ms f) ≡ nowhere
    by true is t member g more = absurd cc
    by false is true member g more = absurd (true_not_false (same_found m.member f) (member_same f m own.0 member) is)
    by false is false member g more = more g

-- ---- Descriptor

module _ (p : Package) where
  abbrev w : List Class
  w = world p

  -- Descriptor says where it stands
  abbrev IsPlaced : Described → Type 0
  IsPlaced d = let m = d.method in m.offset ≡ method_offset p d.member

  class_placed : (c : Class) (holder : ClassRef) (fs : List Found) → AllByRecursion IsPlaced (described_in c holder fs
      (map (method_descriptor p c) fs))
  class_placed c holder [] = tt
  class_placed c holder (f ∷ fs) = (refl, class_placed c holder fs)

  all_placed : (cs : List Class) → AllByRecursion IsPlaced (described_among w cs (map (class_descriptor p) cs))
  all_placed [] = tt
  all_placed (c ∷ cs) =
      all_both IsPlaced (described_in c (class_ref p c.name) (methods_of_class w c) (map (method_descriptor p c)
      (methods_of_class w c))) (described_among w cs (map (class_descriptor p) cs)) (class_placed c (class_ref p c.name)
      (methods_of_class w c)) (all_placed cs)

  class_members : (c : Class) (holder : ClassRef) (fs : List Found) → map (λ (d : Described). d.member) (described_in c
      holder fs (map (method_descriptor p c) fs)) ≡ fs
  class_members c holder [] = refl
  class_members c holder (f ∷ fs) = ap (λ gs. f ∷ gs) (class_members c holder fs)

  all_members : (cs : List Class) → map (λ (d : Described). d.member) (described_among w cs (map (class_descriptor p)
      cs)) ≡ methods_in_turn w cs
  all_members [] = refl
  all_members (c ∷ cs) =
      let fs = methods_of_class w c in
      map_append (λ (d : Described). d.member) (described_in c (class_ref p c.name) fs (map (method_descriptor p c) fs))
      (described_among w cs (map (class_descriptor p) cs))
      ∙ ap (λ gs. gs ++ map (λ (d : Described). d.member) (described_among w cs (map (class_descriptor p) cs)))
      (class_members c (class_ref p c.name) fs)
      ∙ ap (λ gs. fs ++ gs) (all_members cs)

  module _ (has : HasMethods p) where
    elsewhere : (f : Found) → list_any (λ (g : Found). same_found g f) (methods_in_turn w (class_order w)) ≡ false
        → extent_of p f ≡ nowhere
    unfolding class_order method_order
    elsewhere f e =
        let members = map (λ (m : LaidMethod). m.member) p.methods in
        let here : members ≡ methods_in_turn w (in_order w false) = has in
        let none = none_behind (λ (g : Found). same_found g f) (methods_in_turn w (in_order w true)) (methods_in_turn w
        (in_order w false)) (ap (list_any (λ (g : Found). same_found g f)) (sym (in_turn_both w (in_order w true)
        (in_order w false))) ∙ e) in
        stands_nowhere f (first_method p.methods) 0 p.methods (subst AreOwn (sym has) (order_own w))
        (ap (list_any (λ (g : Found). same_found g f)) here ∙ none)

    abbrev ds : List Described
    ds = described_among w (class_order w) (map (class_descriptor p) (class_order w))

    pub offset_same : (f : Found) → pairs.method_offset (written_pair p) f ≡ method_offset p f
    offset_same f = by (find (λ (d : Described). same_found d.member f) ds) refl
      where
        by : (o : Option Described) → find (λ (d : Described). same_found d.member f) ds ≡ o
            → unwrap_or (option_map (λ (d : Described). let m = d.method in m.offset) o) 0 ≡ method_offset p f
        by None e = sym (ap (λ (x : Extent). x.offset) (elsewhere f (ap (list_any (λ (g : Found). same_found g f))
            (sym (all_members (class_order w))) ∙ not_found (λ (g : Found). same_found g f) (λ (d : Described).
            d.member)
            ds e)))
        by (Some d) e =
            let r = find_got (λ (d : Described). same_found d.member f) ds d e in
            all_at IsPlaced ds r.0 d (all_placed (class_order w)) r.1 ∙ ap (method_offset p) (found_same d.member f r.2)
