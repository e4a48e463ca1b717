-- Classes and their places.
use Rattle.std.proofs.Common.{◌≡◌, ℕ, zero, suc, arith, refl, sym, ap, subst, ◌∙◌, Bool, true, false, List, [], ◌∷◌}
use Rattle.std.proofs.Common.{◌++◌}
use Rattle.std.specs.Prelude.{All, IfSome, Option, Some, None, option_map, option_to_list, slice_get, if◌then◌else◌}
use Rattle.std.specs.Str.{bytes_eq}
use Rattle.cjc_world.specs.Classes.{Class, class_named}
use Rattle.cjc_world.specs.declared.class.Known.{Known}
use Rattle.cjc_world.specs.Working.Known.{class_of}
use Rattle.cjc_world.specs.Working.Spots.{IsCounted}
use Rattle.cjc_world.specs.Working.Places.{place_named, places_of, at_places}

pub place-class : (w : List Class) (x : List ℕ) (p : ℕ) → place_named w x ≡ Some p → (c : Class)
    × (slice_get w p ≡ Some c) × (class_named w x ≡ Some c)
unfolding place_named class_named
place-class [] x p e = cc
place-class (c ∷ w) x p e = by (bytes_eq c.name x) p e (place-class w x)
  where
    by : (b : Bool) (p : ℕ) → (if b then Some 0 else option_map suc (place_named w x)) ≡ Some p
        → ((p : ℕ) → place_named w x ≡ Some p → (d : Class) × (slice_get w p ≡ Some d) × (class_named w x ≡ Some d))
        → (d : Class) × (slice_get (c ∷ w) p ≡ Some d) × ((if b then Some c else class_named w x) ≡ Some d)
    by true zero e rest = (c, refl, refl)
    by true (suc p) e rest = cc
    by false p e rest = inner (place_named w x) p e rest
      where
        inner : (o : Option ℕ) (p : ℕ) → option_map suc o ≡ Some p → ((p : ℕ) → o ≡ Some p → (d : Class)
            × (slice_get w p ≡ Some d) × (class_named w x ≡ Some d))
            → (d : Class) × (slice_get (c ∷ w) p ≡ Some d) × (class_named w x ≡ Some d)
        inner None p e rest = cc
        inner (Some q) zero e rest = cc
        inner (Some q) (suc p) e rest = rest p cc

pub place-none : (w : List Class) (x : List ℕ) → place_named w x ≡ None → class_named w x ≡ None
unfolding place_named class_named
place-none [] x e = refl
place-none (c ∷ w) x e = by (bytes_eq c.name x) e (place-none w x)
  where
    by : (b : Bool) → (if b then Some 0 else option_map suc (place_named w x)) ≡ None → (place_named w x ≡ None
        → class_named w x ≡ None) → (if b then Some c else class_named w x) ≡ None
    by true e rest = cc
    by false e rest = inner (place_named w x) e rest
      where
        inner : (o : Option ℕ) → option_map suc o ≡ None → (o ≡ None → class_named w x ≡ None) → class_named w x ≡ None
        inner None e rest = rest refl
        inner (Some q) e rest = cc

pub class-place : (w : List Class) (x : List ℕ) (c : Class) → class_named w x ≡ Some c → (p : ℕ)
    × (place_named w x ≡ Some p) × (slice_get w p ≡ Some c)
class-place w x c e = by (place_named w x) refl
  where
    by : (o : Option ℕ) → place_named w x ≡ o → (p : ℕ) × (place_named w x ≡ Some p) × (slice_get w p ≡ Some c)
    by None f = let n = place-none w x f in cc
    by (Some p) f = let d = place-class w x p f in (p, f, let a = d.1 in let b = d.2 in cc)

-- ---- the classes of some list are those of their names
unfoldable pub AreNamed : List Class → List Class → Type 0
AreNamed w [] = Unit {0}
AreNamed w (c ∷ cs) = (class_named w c.name ≡ Some c) × AreNamed w cs

pub named-append : (w cs ds : List Class) → AreNamed w cs → AreNamed w ds → AreNamed w (cs ++ ds)
unfolding AreNamed
named-append w [] ds a b = b
named-append w (c ∷ cs) ds a b = (a.0, named-append w cs ds a.1 b)

pub places-append : (w cs ds : List Class) → places_of w (cs ++ ds) ≡ places_of w cs ++ places_of w ds
unfolding places_of
places-append w [] ds = refl
places-append w (c ∷ cs) ds = by (place_named w c.name) (places-append w cs ds)
  where
    by : (o : Option ℕ) → places_of w (cs ++ ds) ≡ places_of w cs ++ places_of w ds → option_to_list o
        ++ places_of w (cs ++ ds) ≡ (option_to_list o ++ places_of w cs) ++ places_of w ds
    by None e = e
    by (Some p) e = ap (λ ps. p ∷ ps) e

pub at-places-of : (w cs : List Class) → AreNamed w cs → at_places w (places_of w cs) ≡ cs
unfolding AreNamed places_of at_places
at-places-of w [] a = refl
at-places-of w (c ∷ cs) a =
    let p = class-place w c.name c a.0 in
    ap (λ o. at_places w (option_to_list o ++ places_of w cs)) p.1
    ∙ ap (λ o. option_to_list o ++ at_places w (places_of w cs)) p.2
    ∙ ap (λ ds. c ∷ ds) (at-places-of w cs a.1)

all-at : (w : List Class) → All IsCounted w → (p : ℕ) (c : Class) → slice_get w p ≡ Some c → IsCounted c
all-at [] all p c e = cc
all-at (d ∷ w) all zero c e = let is : d ≡ c = cc in subst (λ (v : Class). IsCounted v) is (all 0 d (omega arith))
all-at (d ∷ w) all (suc p) c e = all-at w (λ k x l. all (suc k) x (omega arith)) p c e

pub placed-counted : (w : List Class) → All IsCounted w → (p : ℕ) (o : Option Known) → option_map class_of o
    ≡ slice_get w p → IfSome o (λ k. IsCounted (class_of k))
placed-counted w all p None e = tt
placed-counted w all p (Some k) e = all-at w all p (class_of k) (sym e)
