-- Step after step the table of a name tells what its trees do, so many steps upwards.
use Rattle.std.proofs.Common.{◌≡◌, ℕ, zero, suc, ◌<◌, ◌+◌, ◌-◌, refl, sym, ap, subst, ◌∙◌, arith, Bool, true, false}
use Rattle.std.proofs.Common.{List, [], ◌∷◌, ◌++◌, length, ⊎_elim}
use Rattle.std.specs.Prelude.{not, ◌&&◌, ◌||◌, Option, Some, None, unwrap_or, slice_get}
use Rattle.std.specs.List.{list_any}
use Rattle.std.specs.Str.{bytes_eq}
use Rattle.std.specs.Cmp.Lexicographic.{pointwise}
use mathlib.Core.Bool.{beq}
use Rattle.std.proofs.lemmas.Option.{slice_get_within}
use Rattle.cjc_world.specs.Classes.{Class, class_named}
use Rattle.cjc_world.specs.Supertypes.{End, known_as, supertypes_within, supertypes, is_below, stands, stands_by_supers}
use Rattle.cjc_world.specs.Supertypes.{above_of, stands_above}
use Rattle.cjc_world.specs.Rules.{throwable}
use Rattle.cjc_world.specs.Working.Places.{place_named, has_name}
use Rattle.cjc_world.specs.Working.Steps.{standing, name_stands_at, name_stands, any_stands, class_stands, IsStep}
use Rattle.cjc_world.specs.Working.Steps.{IsBegun, IsDone}
use Rattle.cjc_world.proofs.Rising.{stands-row, stands-empty, stands-unknown, stands-known, stands_of_both, below-row}
use Rattle.cjc_world.proofs.Rising.{below-empty, below-unknown, below-known}
use Rattle.cjc_world.proofs.Cycles.{class_named-name}
use Rattle.cjc_world.proofs.ByPlace.{place-class, place-none}
use Rattle.cjc_world.proofs.Adding.{push-old, push-new}
use Rattle.cjc_world.proofs.Joined.{or-false}
use Rattle.cjc_bytes.proofs.Numbers.{same_place}

module _ (w : List Class) (by_supers : Bool) (y : List ℕ) where
  unfoldable pub Told : ℕ → List Bool → Type 0
  Told k known = (x : List ℕ) (p : ℕ) → place_named w x ≡ Some p
      → slice_get known p ≡ Some (standing by_supers y (supertypes_within w k (x ∷ [])))

  row : (n : ℕ) (x : List ℕ) (xs : List (List ℕ)) → standing by_supers y (supertypes_within w n (x ∷ xs))
      ≡ (standing by_supers y (supertypes_within w n (x ∷ [])) || standing by_supers y (supertypes_within w n xs))
  row n x xs = by by_supers
    where
      by : (b : Bool) → standing b y (supertypes_within w n (x ∷ xs)) ≡ (standing b y (supertypes_within w n (x ∷ []))
          || standing b y (supertypes_within w n xs))
      by true = below-row w y n x xs
      by false = stands-row w y n x xs

  empty : (n : ℕ) → standing by_supers y (supertypes_within w n []) ≡ false
  empty n = by by_supers
    where
      by : (b : Bool) → standing b y (supertypes_within w n []) ≡ false
      by true = below-empty w y n
      by false = stands-empty w y n

  unknown : (n : ℕ) (x : List ℕ) → 0 < n → None ≡ class_named w x
      → bytes_eq x y ≡ standing by_supers y (supertypes_within w n (x ∷ []))
  unknown n x l e = by by_supers
    where
      by : (b : Bool) → bytes_eq x y ≡ standing b y (supertypes_within w n (x ∷ []))
      by true = below-unknown w y n x l e
      by false = stands-unknown w y n x l e

  known_here : (k : ℕ) (x : List ℕ) (c : Class) → Some c ≡ class_named w x
      → (bytes_eq c.name y || standing by_supers y (supertypes_within w k c.supers)
      || (not by_supers && standing by_supers y (supertypes_within w k c.interfaces)))
      ≡ standing by_supers y (supertypes_within w (k + 1) (x ∷ []))
  known_here k x c e = by by_supers
    where
      less : (k + 1) - 1 ≡ k
      less = omega arith

      by : (b : Bool) → (bytes_eq c.name y || standing b y (supertypes_within w k c.supers)
          || (not b && standing b y (supertypes_within w k c.interfaces)))
          ≡ standing b y (supertypes_within w (k + 1) (x ∷ []))
      by true =
          or-false (bytes_eq c.name y || standing true y (supertypes_within w k c.supers))
          ∙ ap (λ n. bytes_eq c.name y || standing true y (supertypes_within w n c.supers)) (sym less)
          ∙ below-known w y (k + 1) x c (omega arith) e
      by false =
          ap (λ n. bytes_eq c.name y || standing false y (supertypes_within w n c.supers)
          || standing false y (supertypes_within w n c.interfaces)) (sym less)
          ∙ stands-known w y (k + 1) x c (omega arith) e

  name-told : (k : ℕ) (known : List Bool) → 0 < k → Told k known → (x : List ℕ) → name_stands w y known x
      ≡ standing by_supers y (supertypes_within w k (x ∷ []))
  unfolding Told
  name-told k known l told x = by (place_named w x) refl
    where
      by : (o : Option ℕ) → place_named w x ≡ o → name_stands_at y known x o
          ≡ standing by_supers y (supertypes_within w k (x ∷ []))
      by None e = unknown k x l (sym (place-none w x e))
      by (Some p) e = ap (λ o. unwrap_or o false) (told x p e)

  pub any-told : (k : ℕ) (known : List Bool) → 0 < k → Told k known → (xs : List (List ℕ)) → any_stands w y known xs
      ≡ standing by_supers y (supertypes_within w k xs)
  unfolding any_stands
  any-told k known l told [] = sym (empty k)
  any-told k known l told (x ∷ xs) =
      ap (λ b. b || list_any (λ x. name_stands w y known x) xs) (name-told k known l told x)
      ∙ ap (λ b. standing by_supers y (supertypes_within w k (x ∷ [])) || b) (any-told k known l told xs)
      ∙ sym (row k x xs)

  pub step-told : (k : ℕ) (known new : List Bool) → 0 < k → Told k known → IsStep w by_supers y known new
      → Told (k + 1) new
  unfolding Told
  step-told k known new l told step x p e =
      let d = place-class w x p e in
      let c = d.0 in
      step p (slice_get_within w p c d.1)
      ∙ ap (λ o. Some (class_stands w by_supers y known o)) d.1
      ∙ ap (λ b. Some (bytes_eq c.name y || b || (not by_supers && any_stands w y known c.interfaces)))
      (any-told k known l told c.supers)
      ∙ ap (λ b. Some (bytes_eq c.name y || standing by_supers y (supertypes_within w k c.supers)
      || (not by_supers && b))) (any-told k known l told c.interfaces)
      ∙ ap Some (known_here k x c (sym d.2))

  pub begun-told : (known : List Bool) → IsBegun w y known → Told 1 known
  unfolding Told supertypes_within
  begun-told known begun x p e =
      let d = place-class w x p e in
      let c = d.0 in
      begun p (slice_get_within w p c d.1)
      ∙ ap (λ o. Some (has_name y o)) d.1
      ∙ ap Some (alone by_supers (bytes_eq c.name y) ∙ known_here 0 x c (sym d.2)
      ∙ ap (λ n. standing by_supers y (supertypes_within w n (x ∷ []))) (let one : 0 + 1 ≡ 1 = omega arith in one))
    where
      alone : (b : Bool) (a : Bool) → a ≡ (a || standing b y (supertypes_within w 0 [])
          || (not b && standing b y (supertypes_within w 0 [])))
      alone true true = refl
      alone true false = refl
      alone false true = refl
      alone false false = refl

  pub fixed-told : (m k : ℕ) (known : List Bool) → 0 < k → Told k known → IsStep w by_supers y known known
      → Told (m + k) known
  fixed-told zero k known l told step = subst (λ n. Told n known) (let e : k ≡ 0 + k = omega arith in e) told
  fixed-told (suc m) k known l told step = subst (λ n. Told n known) (let e : m + k + 1 ≡ suc m + k = omega arith
      in e) (step-told (m + k) known known (omega arith) (fixed-told m k known l told step) step)

  pub done-told : (k : ℕ) (known : List Bool) → k ≡ suc (length w) → Told k known → IsDone w by_supers y known
  unfolding Told supertypes
  done-told k known e told x p f = told x p f ∙ ap (λ n. Some (standing by_supers y (supertypes_within w n (x ∷ [])))) e

  pub any-done : (known : List Bool) → IsDone w by_supers y known → (xs : List (List ℕ)) → any_stands w y known xs
      ≡ standing by_supers y (supertypes w xs)
  unfolding Told supertypes
  any-done known done xs = any-told (suc (length w)) known (omega arith) done xs

pub own-stands : (w : List Class) (known : List Bool) (x : List ℕ) (p : ℕ) (c : Class) → place_named w x ≡ Some p
    → slice_get w p ≡ Some c → IsDone w false c.name known
    → (any_stands w c.name known c.supers || any_stands w c.name known c.interfaces) ≡ stands_above w x x
unfolding stands_above
own-stands w known x p c e f done =
    let d = place-class w x p e in
    let is : d.0 ≡ c = let g = d.1 in cc in
    let named : class_named w x ≡ Some c = d.2 ∙ ap Some is in
    let name = class_named-name w x c named in
    ap (λ b. b || any_stands w c.name known c.interfaces) (any-done w false c.name known done c.supers)
    ∙ ap (λ b. stands c.name (supertypes w c.supers) || b) (any-done w false c.name known done c.interfaces)
    ∙ sym (stands_of_both w c.name c.supers c.interfaces)
    ∙ ap (λ z. stands z (supertypes w (c.supers ++ c.interfaces))) name
    ∙ ap (λ o. stands x (above_of w o)) (sym named)

-- ---- rows of Bool

pub bools-same : (xs ys : List Bool) → pointwise beq xs ys ≡ true → xs ≡ ys
bools-same [] [] e = refl
bools-same [] (y ∷ ys) e = cc
bools-same (x ∷ xs) [] e = cc
bools-same (true ∷ xs) (true ∷ ys) e = ap (λ v. true ∷ v) (bools-same xs ys e)
bools-same (false ∷ xs) (false ∷ ys) e = ap (λ v. false ∷ v) (bools-same xs ys e)
bools-same (true ∷ xs) (false ∷ ys) e = cc
bools-same (false ∷ xs) (true ∷ ys) e = cc

-- ---- rows that are made place by place

pub made-more : {A : Type 0} (xs : List A) (y : A) (n : ℕ) (at : ℕ → A) → length xs ≡ n
    → ((p : ℕ) → p < n → slice_get xs p ≡ Some (at p)) → y ≡ at n → (p : ℕ) → p < n + 1 → slice_get (xs ++ y ∷ []) p
    ≡ Some (at p)
made-more xs y n at count made here p l = ⊎_elim
    (λ (is : p ≡ n). push-new xs y p (is ∙ sym count) ∙ ap Some (here ∙ ap at (sym is)))
    (λ (other : p ≡ n → ⊥). push-old xs y p (omega arith) ∙ made p (omega arith))
    (same_place p n)

pub not-own : (w : List Class) (x : List ℕ) (p : ℕ) → place_named w x ≡ Some p → slice_get w p ≡ None
    → false ≡ stands_above w x x
not-own w x p e f = let d = place-class w x p e in let g = d.1 in cc

pub done-below : (w : List Class) (known : List Bool) → IsDone w true throwable known → (x : List ℕ) (p : ℕ)
    → place_named w x ≡ Some p → slice_get known p ≡ Some (is_below w x throwable)
unfolding is_below
done-below w known done x p e = done x p e

pub none-own : (w : List Class) (x : List ℕ) → place_named w x ≡ None → false ≡ stands_above w x x
unfolding stands_above
none-own w x e = sym (ap (λ o. stands x (above_of w o)) (place-none w x e))

pub none-throwable : (w : List Class) (x : List ℕ) → place_named w x ≡ None → bytes_eq x throwable
    ≡ is_below w x throwable
unfolding is_below supertypes supertypes_within
none-throwable w x e = sym (ap (λ o. stands_by_supers throwable (known_as (supertypes_within w (length w)) x o End))
    (place-none w x e) ∙ or-false (bytes_eq x throwable))
