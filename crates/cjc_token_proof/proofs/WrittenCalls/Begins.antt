-- Each method of a class file begins at its offset, and Descriptor lists it there.
use Rattle.std.proofs.Common.{◌≡◌, ℕ, zero, suc, ◌<◌, refl, sym, ap, subst, ◌∙◌, arith, Bool, true, false, List, []}
use Rattle.std.proofs.Common.{◌∷◌, ◌++◌}
use Rattle.std.specs.Prelude.{Option, Some, None, slice_get, map, not, ◌&&◌, ◌||◌, ◌==◌, if◌then◌else◌}
use Rattle.std.specs.List.{list_any}
use Rattle.std.proofs.lemmas.Bool.Decides.{nat_tests}
use Rattle.cjc_card_semantics.specs.CapRead.declared.tree.ClassDescriptor.{ClassDescriptor}
use Rattle.cjc_card_semantics.specs.CapRead.declared.tree.MethodDescriptor.{MethodDescriptor}
use Rattle.cjc_token_proof.specs.Calls.Reaching.{is_same}
use Rattle.cjc_card_semantics.specs.Machine.Classes.{or_else}
use Rattle.cjc_card_semantics.specs.Machine.Methods.{described, is_class_at, method_among}
use Rattle.cjc_components.specs.Descriptor.{class_descriptor, method_descriptor}
use Rattle.cjc_components.specs.Methods.{extent_of, is_member, method_offset}
use Rattle.cjc_components.specs.Names.{class_ref}
use Rattle.cjc_components.specs.Package.{LaidMethod, Package, world}
use Rattle.cjc_world.specs.declared.found.Found.{Found}
use Rattle.cjc_world.specs.Classes.{Class}
use Rattle.cjc_world.specs.Order.{class_order, in_order, method_order, methods_in_turn, methods_of_class}
use Rattle.cjc_token_proof.specs.Tables.Loading.{part}
use Rattle.cjc_token_proof.specs.WrittenCalls.Standing.{ClassesStand}
use Rattle.cjc_bytes.proofs.Quantified.{any_both}

module _ (p : Package) (off count : ℕ) (some : 0 < off) (one : (g : Found) → method_offset p g ≡ off
    → (let e = extent_of p g in e.bytecode_count) ≡ count) where
  abbrev md : Class → Found → MethodDescriptor
  md c g = method_descriptor p c g

  -- a descriptor with the bytes of the code
  abbrev Tells : Option MethodDescriptor → Type 0
  Tells o = (d : MethodDescriptor) × (o ≡ Some d) × (d.bytecode_count ≡ count)

  -- one of these methods stands there
  abbrev stands_at : List Found → Bool
  stands_at fs = list_any (λ g. method_offset p g == off) fs

  -- told where one stands there, else none
  abbrev Told : Bool → Option MethodDescriptor → Type 0
  Told true o = Tells o
  Told false o = o ≡ None

  among : (c : Class) (fs : List Found) (t : Bool) → stands_at fs ≡ t → Told t (method_among (map (md c) fs) off)
  among c [] true e = absurd (cc)
  among c [] false e = refl
  among c (g ∷ fs) t e = by (method_offset p g == off) refl t e (among c fs)
    where
      by : (s : Bool) → (method_offset p g == off) ≡ s → (t : Bool) → (s || stands_at fs) ≡ t
          → ((u : Bool) → stands_at fs ≡ u → Told u (method_among (map (md c) fs) off))
          → Told t (if s then Some (md c g) else method_among (map (md c) fs) off)
      by true is true h rest = (md c g, refl, one g (grind (arith, nat_tests, is)))
      by true is false h rest = absurd (cc)
      by false is t h rest = rest t h

  -- a class on the way is passed, or has the method
  passed : (c : Class) (ds : List ClassDescriptor) → Tells (described (part p) ds off)
      → Tells (described (part p) (class_descriptor p c ∷ ds) off)
  passed c ds rest = by (is_class_at (part p) (class_ref p c.name))
    where
      here : (t : Bool) → stands_at (methods_of_class (world p) c) ≡ t
          → Tells (or_else (method_among (map (md c) (methods_of_class (world p) c)) off) (described (part p) ds off))
      here true e =
          let r = among c (methods_of_class (world p) c) true e in
          (r.0, ap (λ o. or_else o (described (part p) ds off)) r.1, r.2)
      here false e = subst (λ o. Tells (or_else o (described (part p) ds off)))
          (sym (among c (methods_of_class (world p) c) false e)) rest

      by : (t : Bool) → Tells (if t then or_else (method_among (map (md c) (methods_of_class (world p) c)) off)
          (described (part p) ds off) else described (part p) ds off)
      by true = here (stands_at (methods_of_class (world p) c)) refl
      by false = rest

  in_front : (cs : List Class) (ds : List ClassDescriptor) → Tells (described (part p) ds off)
      → Tells (described (part p) (map (class_descriptor p) cs ++ ds) off)
  in_front [] ds rest = rest
  in_front (c ∷ cs) ds rest = passed c (map (class_descriptor p) cs ++ ds) (in_front cs ds rest)

  -- the class that has it
  had : (c : Class) (ds : List ClassDescriptor) → is_class_at (part p) (class_ref p c.name) ≡ true
      → stands_at (methods_of_class (world p) c) ≡ true → Tells (described (part p) (class_descriptor p c ∷ ds) off)
  had c ds is e =
      let r = among c (methods_of_class (world p) c) true e in (
        r.0,
        ap (λ t. if t then or_else (method_among (map (md c) (methods_of_class (world p) c)) off) (described (part p) ds
            off) else described (part p) ds off) is
            ∙ ap (λ o. or_else o (described (part p) ds off)) r.1,
        r.2,
      )

  in_classes : (cs : List Class) → ((k : ℕ) (c : Class) → slice_get cs k ≡ Some c
      → is_class_at (part p) (class_ref p c.name) ≡ true) → stands_at (methods_in_turn (world p) cs) ≡ true
      → Tells (described (part p) (map (class_descriptor p) cs) off)
  in_classes [] stand e = absurd (cc)
  in_classes (c ∷ cs) stand e =
      by (stands_at (methods_of_class (world p) c)) refl (sym (any_both (λ g. method_offset p g == off)
      (methods_of_class (world p) c) (methods_in_turn (world p) cs))
      ∙ e) (λ h. in_classes cs (λ k d i. stand (suc k) d i) h)
    where
      by : (t : Bool) → stands_at (methods_of_class (world p) c) ≡ t → (t || stands_at (methods_in_turn (world p) cs))
          ≡ true → (stands_at (methods_in_turn (world p) cs) ≡ true
          → Tells (described (part p) (map (class_descriptor p) cs) off))
          → Tells (described (part p) (class_descriptor p c ∷ map (class_descriptor p) cs) off)
      by true is h rest = had c (map (class_descriptor p) cs) (stand 0 c refl) is
      by false is h rest = passed c (map (class_descriptor p) cs) (rest h)

  pub told : ClassesStand p → stands_at (method_order (world p)) ≡ true
      → Tells (described (part p) (map (class_descriptor p) (class_order (world p))) off)
  unfolding class_order method_order
  told stand e =
      subst (λ ds. Tells (described (part p) ds off)) (sym (map_both (class_descriptor p) (in_order (world p) true)
      (in_order (world p) false)))
      (in_front (in_order (world p) true) (map (class_descriptor p) (in_order (world p) false))
      (in_classes (in_order (world p) false) stand e))
    where
      map_both : {A B : Type 0} (f : A → B) (xs ys : List A) → map f (xs ++ ys) ≡ map f xs ++ map f ys
      map_both f [] ys = refl
      map_both f (x ∷ xs) ys = ap (λ zs. f x ∷ zs) (map_both f xs ys)

-- ---- members

pub get_member : (ms : List LaidMethod) (k : ℕ) (m : LaidMethod) → slice_get ms k ≡ Some m
    → slice_get (map (λ (o : LaidMethod). o.member) ms) k ≡ Some m.member
get_member [] k m e = absurd (cc)
get_member (o ∷ ms) zero m e = let same : o ≡ m = cc in ap (λ (x : LaidMethod). Some x.member) same
get_member (o ∷ ms) (suc k) m e = get_member ms k m e

pub any_member : (f : Found) (ms : List LaidMethod) → list_any (is_same f) (map (λ (o : LaidMethod). o.member) ms)
    ≡ list_any (is_member f) ms
any_member f [] = refl
any_member f (m ∷ ms) = ap (λ t. is_member f m || t) (any_member f ms)

pub same_itself : (f : Found) → f.imported ≡ false → is_same f f ≡ true
same_itself f own = ap (λ t. not t && f.class == f.class && f.member == f.member) own ∙ by f.class f.member
  where
    by : (a b : ℕ) → (true && a == a && b == b) ≡ true
    by a b = grind (arith, nat_tests)

pub same_found : (f g : Found) → f.imported ≡ false → g.imported ≡ false → is_same f g ≡ true → g ≡ f
same_found f g own other e =
    let t = sym (ap (λ t. not t && f.class == g.class && f.member == g.member) own) ∙ e in
    let c : f.class ≡ g.class = one f.class g.class f.member g.member t in
    let m : f.member ≡ g.member = two f.class g.class f.member g.member t in
    ap (λ t. record { imported = t; class = g.class; member = g.member }) (other ∙ sym own)
    ∙ ap (λ x. record { imported = f.imported; class = x; member = g.member }) (sym c)
    ∙ ap (λ x. record { imported = f.imported; class = f.class; member = x }) (sym m)
  where
    one : (a b c d : ℕ) → (true && a == b && c == d) ≡ true → a ≡ b
    one a b c d e = grind (arith, nat_tests, e)

    two : (a b c d : ℕ) → (true && a == b && c == d) ≡ true → c ≡ d
    two a b c d e = grind (arith, nat_tests, e)
