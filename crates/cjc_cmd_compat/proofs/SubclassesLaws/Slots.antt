-- Slots and tokens of a class in two worlds that agree on what the package declares.
use Rattle.std.proofs.Common.{◌≡◌, ℕ, zero, suc, refl, sym, ap, subst, ◌∙◌, arith, Bool, true, false, List, [], ◌∷◌}
use Rattle.std.proofs.Common.{◌++◌, length, length-append, length-set}
use Rattle.std.specs.Prelude.{◌||◌, Option, Some, None, if◌then◌else◌, option_map, set, slice_get}
use Rattle.std.proofs.lemmas.Bool.{or_right}
use Rattle.cjc_world.specs.declared.found.Found.{Found}
use Rattle.cjc_tokens.specs.Members.{Signature, has, same}
use Rattle.cjc_tokens.specs.Slots.{Slots, has_slot, holds, is_of_package}
use Rattle.cjc_tokens.specs.Slots.{is_slot_of, new_in}
use Rattle.cjc_tokens.specs.Slots.{token, with_all_taken}
use Rattle.cjc_tokens.specs.Slots.{with_taken}
use Rattle.cjc_tokens.proofs.Facts.{same-refl, same-true}
use Rattle.cjc_tokens.proofs.Held.{token-cons}
use Rattle.cjc_world.proofs.BytesBools.{clash}

-- ---- tests

pub both_ways : (a b : Bool) → (a ≡ true → b ≡ true) → (b ≡ true → a ≡ true) → b ≡ a
both_ways true b f g = f refl
both_ways false true f g = sym (g refl)
both_ways false false f g = refl

pub neither : (a b : Bool) → (a ≡ true → false ≡ true) → (b ≡ true → false ≡ true) → b ≡ a
neither true b f g = absurd (let no = f refl in cc)
neither false true f g = absurd (let no = g refl in cc)
neither false false f g = refl

-- ---- where a signature has its slots

-- in both lists the slot at the place is of the signature, or in neither
abbrev pub AreAlikeAt : Signature → ℕ → (old new : Slots) → Type 0
AreAlikeAt u t old new = is_slot_of (slice_get new t) u ≡ is_slot_of (slice_get old t) u

-- it is so at all places
abbrev pub AreAlike : Signature → (old new : Slots) → Type 0
AreAlike u old new = (t : ℕ) → AreAlikeAt u t old new

shorter : {A : Type 0} (x y : A) (old new : List A) → length (y ∷ new) ≡ length (x ∷ old) → length new ≡ length old
shorter x y old new e = omega (arith, e)

pub longer : {A : Type 0} (old new more : List A) → length new ≡ length old → length (new ++ more) ≡ length
    (old ++ more)
longer old new more e = let p = length-append old more in let q = length-append new more in omega (arith, e, p, q)

pub alike-append : (u : Signature) (old new more : Slots) → length new ≡ length old → AreAlike u old new
    → AreAlike u (old ++ more) (new ++ more)
alike-append u [] [] more e h t = refl
alike-append u [] (y ∷ new) more e h t = absurd (omega (arith, e))
alike-append u (x ∷ old) [] more e h t = absurd (omega (arith, e))
alike-append u (x ∷ old) (y ∷ new) more e h zero = h zero
alike-append u (x ∷ old) (y ∷ new) more e h (suc t) = alike-append u old new more (shorter x y old new e)
    (λ k. h (suc k)) t

alike-set : (u s : Signature) (old new : Slots) (k t : ℕ) → length new ≡ length old → AreAlikeAt u t old new
    → AreAlikeAt u t (set old k (Some s)) (set new k (Some s))
alike-set u s [] [] k t e h = refl
alike-set u s [] (y ∷ new) k t e h = absurd (omega (arith, e))
alike-set u s (x ∷ old) [] k t e h = absurd (omega (arith, e))
alike-set u s (x ∷ old) (y ∷ new) zero zero e h = refl
alike-set u s (x ∷ old) (y ∷ new) zero (suc t) e h = h
alike-set u s (x ∷ old) (y ∷ new) (suc k) zero e h = h
alike-set u s (x ∷ old) (y ∷ new) (suc k) (suc t) e h = alike-set u s old new k t (shorter x y old new e) h

set-alike : (u s : Signature) (old new : Slots) (k : ℕ) → length new ≡ length old
    → AreAlikeAt u k (set old k (Some s)) (set new k (Some s))
set-alike u s [] [] k e = refl
set-alike u s [] (y ∷ new) k e = absurd (omega (arith, e))
set-alike u s (x ∷ old) [] k e = absurd (omega (arith, e))
set-alike u s (x ∷ old) (y ∷ new) zero e = refl
set-alike u s (x ∷ old) (y ∷ new) (suc k) e = set-alike u s old new k (shorter x y old new e)

set-only : (u s : Signature) (all : Slots) (k t : ℕ) → same s u ≡ false
    → is_slot_of (slice_get (set all k (Some s)) t) u ≡ true → is_slot_of (slice_get all t) u ≡ true
set-only u s [] k t n e = e
set-only u s (x ∷ all) zero zero n e = clash (same s u) e n
set-only u s (x ∷ all) zero (suc t) n e = e
set-only u s (x ∷ all) (suc k) zero n e = e
set-only u s (x ∷ all) (suc k) (suc t) n e = set-only u s all k t n e

has_slot-alike : (u : Signature) (old new : Slots) → length new ≡ length old → AreAlike u old new
    → has_slot new u ≡ has_slot old u
has_slot-alike u [] [] e h = refl
has_slot-alike u [] (y ∷ new) e h = absurd (omega (arith, e))
has_slot-alike u (x ∷ old) [] e h = absurd (omega (arith, e))
has_slot-alike u (x ∷ old) (y ∷ new) e h =
    ap (λ b. b || has_slot new u) (h zero)
    ∙ ap (λ b. holds x u || b) (has_slot-alike u old new (shorter x y old new e) (λ t. h (suc t)))

pub token-alike : (u : Signature) (old new : Slots) → length new ≡ length old → AreAlike u old new
    → token new u ≡ token old u
token-alike u [] [] e h = refl
token-alike u [] (y ∷ new) e h = absurd (omega (arith, e))
token-alike u (x ∷ old) [] e h = absurd (omega (arith, e))
token-alike u (x ∷ old) (y ∷ new) e h =
    token-cons y new u
    ∙ ap (λ b. if b then Some 0 else option_map suc (token new u)) (h zero)
    ∙ ap (λ o. if holds x u then Some 0 else option_map suc o) (token-alike u old new (shorter x y old new e) (λ t. h
    (suc t)))
    ∙ sym (token-cons x old u)

pub new_in-alike : (old new : Slots) (ss : List Signature) → length new ≡ length old
    → ((u : Signature) → has ss u ≡ true → AreAlike u old new) → new_in new ss ≡ new_in old ss
new_in-alike old new [] e h = refl
new_in-alike old new (s ∷ ss) e h =
    let tail : (u : Signature) → has ss u ≡ true → AreAlike u old new =
    λ u i. h u (or_right (same s u) (has ss u) i) in
    let here = has_slot-alike s old new e (h s (ap (λ b. b || has ss s) (same-refl s))) in
    let there = new_in-alike old new ss e tail in
    let behind = new_in-alike (old ++ Some s ∷ []) (new ++ Some s ∷ []) ss (longer old new (Some s ∷ []) e)
    (λ u i. alike-append u old new (Some s ∷ []) e (tail u i)) in
    ap (λ b. if b then new_in new ss else s ∷ new_in (new ++ Some s ∷ []) ss) here
    ∙ ap (λ l. if has_slot old s then l else s ∷ new_in (new ++ Some s ∷ []) ss) there
    ∙ ap (λ l. if has_slot old s then new_in old ss else s ∷ l) behind

-- a slot of a signature, as what stands there
pub slot-is : (o : Option (Option Signature)) (u : Signature) → is_slot_of o u ≡ true → o ≡ Some (Some u)
slot-is None u e = absurd cc
slot-is (Some None) u e = absurd cc
slot-is (Some (Some s)) u e = ap (λ x. Some (Some x)) (same-true s u e)

-- ---- slots that are taken

taken_one-length : (o : Option ℕ) (rows : List (Option Found)) (s : Signature) (all : Slots)
    → length (with_taken o rows s all) ≡ length all
taken_one-length None rows s all = refl
taken_one-length (Some t) rows s all = by (is_of_package (slice_get rows t))
  where
    by : (b : Bool) → length (if b then all else set all t (Some s)) ≡ length all
    by true = refl
    by false = length-set all t (Some s)

pub taken-length : (listed : Signature → Option ℕ) (rows : List (Option Found)) (ss : List Signature) (all : Slots)
    → length (with_all_taken listed rows ss all) ≡ length all
taken-length listed rows [] all = refl
taken-length listed rows (s ∷ ss) all = taken-length listed rows ss (with_taken (listed s) rows s all)
    ∙ taken_one-length (listed s) rows s all

-- what has a slot afterwards took it or had it
taken_one-only : (u s : Signature) (o : Option ℕ) (rows : List (Option Found)) (all : Slots) (t : ℕ) → same s u ≡ false
    → is_slot_of (slice_get (with_taken o rows s all) t) u ≡ true → is_slot_of (slice_get all t) u ≡ true
taken_one-only u s None rows all t n e = e
taken_one-only u s (Some k) rows all t n e = by (is_of_package (slice_get rows k)) e
  where
    by : (b : Bool) → is_slot_of (slice_get (if b then all else set all k (Some s)) t) u ≡ true
        → is_slot_of (slice_get all t) u ≡ true
    by true e = e
    by false e = set-only u s all k t n e

pub taken-only : (u : Signature) (listed : Signature → Option ℕ) (rows : List (Option Found)) (ss : List Signature)
    (all : Slots) (t : ℕ) → has ss u ≡ false → is_slot_of (slice_get (with_all_taken listed rows ss all) t) u ≡ true
    → is_slot_of (slice_get all t) u ≡ true
taken-only u listed rows [] all t n e = e
taken-only u listed rows (s ∷ ss) all t n e =
    let no = none (same s u) (has ss u) n in
    taken_one-only u s (listed s) rows all t no.0 (taken-only u listed rows ss (with_taken (listed s) rows s all) t no.1
    e)
  where
    none : (a b : Bool) → (a || b) ≡ false → (a ≡ false) × (b ≡ false)
    none true b e = absurd cc
    none false b e = (refl, e)

-- ---- the same signatures take slots in two worlds

module _ (told told' : Signature → Option ℕ) (rows rows' : List (Option Found)) (held : (t : ℕ)
    → is_of_package (slice_get rows' t) ≡ is_of_package (slice_get rows t)) where
  step-alike : (u s : Signature) (t : ℕ) (o : Option ℕ) (old new : Slots) → length new ≡ length old
      → AreAlikeAt u t old new → AreAlikeAt u t (with_taken o rows s old) (with_taken o rows' s new)
  step-alike u s t None old new e h = h
  step-alike u s t (Some k) old new e h = by (is_of_package (slice_get rows k)) (is_of_package (slice_get rows' k))
      (held
      k)
    where
      by : (b c : Bool) → c ≡ b → AreAlikeAt u t (if b then old else set old k (Some s)) (if c then new
          else set new k (Some s))
      by true true f = h
      by false false f = alike-set u s old new k t e h
      by true false f = absurd cc
      by false true f = absurd cc

  told-alike : (u s : Signature) (t : ℕ) (old new : Slots) → told' s ≡ told s → length new ≡ length old
      → AreAlikeAt u t old new → AreAlikeAt u t (with_taken (told s) rows s old) (with_taken (told' s) rows' s new)
  told-alike u s t old new f e h = subst (λ o. AreAlikeAt u t (with_taken (told s) rows s old) (with_taken o rows' s
      new)) (sym f) (step-alike u s t (told s) old new e h)

  step-length : (s : Signature) (old new : Slots) → length new ≡ length old
      → length (with_taken (told' s) rows' s new) ≡ length (with_taken (told s) rows s old)
  step-length s old new e = taken_one-length (told' s) rows' s new ∙ e ∙ sym (taken_one-length (told s) rows s old)

  pub taken-alike : (u : Signature) (t : ℕ) (ss : List Signature) (old new : Slots)
      → ((s : Signature) → has ss s ≡ true → told' s ≡ told s) → length new ≡ length old → AreAlikeAt u t old new
      → AreAlikeAt u t (with_all_taken told rows ss old) (with_all_taken told' rows' ss new)
  taken-alike u t [] old new f e h = h
  taken-alike u t (s ∷ ss) old new f e h =
      taken-alike u t ss (with_taken (told s) rows s old) (with_taken (told' s) rows' s new)
      (λ x i. f x (or_right (same s x) (has ss x) i)) (step-length s old new e)
      (told-alike u s t old new (f s (ap (λ b. b || has ss s) (same-refl s))) e h)

  -- at the place that is told of it
  step-at : (u s : Signature) (t : ℕ) (o p : Option ℕ) (old new : Slots) → o ≡ Some t → p ≡ Some t
      → is_of_package (slice_get rows t) ≡ false → length new ≡ length old
      → AreAlikeAt u t (with_taken o rows s old) (with_taken p rows' s new)
  step-at u s t o p old new f g free e =
      subst (λ q. AreAlikeAt u t (with_taken q rows s old) (with_taken p rows' s new)) (sym f)
      (subst (λ q. AreAlikeAt u t (with_taken (Some t) rows s old) (with_taken q rows' s new)) (sym g)
      (by (is_of_package (slice_get rows t)) (is_of_package (slice_get rows' t)) free (held t ∙ free)))
    where
      by : (b c : Bool) → b ≡ false → c ≡ false → AreAlikeAt u t (if b then old else set old t (Some s)) (if c then new
          else set new t (Some s))
      by false false f g = set-alike u s old new t e
      by true c f g = absurd cc
      by false true f g = absurd cc

  pub taken-at : (u : Signature) (t : ℕ) (ss : List Signature) (old new : Slots)
      → ((s : Signature) → has ss s ≡ true → told' s ≡ told s) → has ss u ≡ true → told u ≡ Some t
      → is_of_package (slice_get rows t) ≡ false → length new ≡ length old
      → AreAlikeAt u t (with_all_taken told rows ss old) (with_all_taken told' rows' ss new)
  taken-at u t [] old new f i g free e = absurd cc
  taken-at u t (s ∷ ss) old new f i g free e =
      by (same s u) refl i (taken-at u t ss (with_taken (told s) rows s old) (with_taken (told' s) rows' s new) tail)
    where
      tail : (x : Signature) → has ss x ≡ true → told' x ≡ told x
      tail x j = f x (or_right (same s x) (has ss x) j)

      here : told' s ≡ told s
      here = f s (ap (λ b. b || has ss s) (same-refl s))

      by : (b : Bool) → same s u ≡ b → (b || has ss u) ≡ true → (has ss u ≡ true → told u ≡ Some t
          → is_of_package (slice_get rows t) ≡ false → length (with_taken (told' s) rows' s new)
          ≡ length (with_taken (told s) rows s old)
          → AreAlikeAt u t (with_all_taken told rows ss (with_taken (told s) rows s old))
          (with_all_taken told' rows' ss (with_taken (told' s) rows' s new)))
          → AreAlikeAt u t (with_all_taken told rows ss (with_taken (told s) rows s old))
          (with_all_taken told' rows' ss (with_taken (told' s) rows' s new))
      by true h j rest =
          let at : told s ≡ Some t = ap told (same-true s u h) ∙ g in
          taken-alike u t ss (with_taken (told s) rows s old) (with_taken (told' s) rows' s new) tail (step-length s old
          new e) (step-at u s t (told s) (told' s) old new at (here ∙ at) free e)
      by false h j rest = rest j g free (step-length s old new e)
