-- Slots: what stands at a place, and what has a slot.
use Rattle.std.proofs.Common.{◌≡◌, ℕ, zero, suc, refl, sym, ap, subst, ◌∙◌, Bool, true, false, List, [], ◌∷◌, ◌++◌, inl}
use Rattle.std.proofs.Common.{inr, ⊎_elim, append_assoc}
use Rattle.std.specs.Prelude.{◌&&◌, ◌||◌, ◌⊎◌, Option, Some, None, if◌then◌else◌, slice_get, map, option_map, ◌==◌}
use Rattle.std.proofs.lemmas.Bool.{eqb-false, eqb-true}
use Rattle.cjc_world.specs.Classes.{Member}
use Rattle.cjc_tokens.specs.Members.{Signature, signature_of, same, has, is_exposed, is_shown, is_virtual, In, first_of}
use Rattle.cjc_tokens.specs.Members.{later}
use Rattle.cjc_tokens.specs.Slots.{Slots, holds, has_slot, new_in, put, reserve, listed_slots, token}
use Rattle.cjc_tokens.proofs.Facts.{same-true, same-refl, position-cons}
use Rattle.cjc_bytes.proofs.Bools.{or_true}

-- what stands in the first part or is one of those behind it
pub at_either : (front : Slots) (ss : List Signature) (t : ℕ) (s : Signature) → slice_get (front ++ map Some ss) t
    ≡ Some (Some s) → (slice_get front t ≡ Some (Some s)) ⊎ (has ss s ≡ true)
at_either [] [] t s e = cc
at_either [] (u ∷ ss) zero s e = let is : u ≡ s = cc in inr (ap (λ q. same q s || has ss s) is
    ∙ ap (λ q. q || has ss s) (same-refl s))
at_either [] (u ∷ ss) (suc t) s e = ⊎_elim (λ h. cc) (λ h. inr (ap (λ q. same u s || q) h ∙ or_true (same u s)))
    (at_either [] ss t s e)
at_either (slot ∷ front) ss zero s e = inl e
at_either (slot ∷ front) ss (suc t) s e = at_either front ss t s e

-- what is new is one of those that were offered
pub new-offered : (known : Slots) (ss : List Signature) (s : Signature) → has (new_in known ss) s ≡ true
    → has ss s ≡ true
new-offered known [] s e = e
new-offered known (u ∷ ss) s e = by (has_slot known u) (same u s) refl e (new-offered known ss s) (new-offered (known
    ++ Some u ∷ []) ss s)
  where
    by : (b a : Bool) → same u s ≡ a → has (if b then new_in known ss else u ∷ new_in (known ++ Some u ∷ []) ss) s
        ≡ true → (has (new_in known ss) s ≡ true → has ss s ≡ true) → (has (new_in (known ++ Some u ∷ []) ss) s ≡ true
        → has ss s ≡ true) → (a || has ss s) ≡ true
    by b true f e old fresh = refl
    by true false f e old fresh = old e
    by false false f e old fresh = fresh (ap (λ q. q || has (new_in (known ++ Some u ∷ []) ss) s) (sym f) ∙ e)

pub has_slot-append : (a b : Slots) (s : Signature) → has_slot a s ≡ true → has_slot (a ++ b) s ≡ true
has_slot-append [] b s e = cc
has_slot-append (slot ∷ a) b s e = by (holds slot s) e (has_slot-append a b s)
  where
    by : (h : Bool) → (h || has_slot a s) ≡ true → (has_slot a s ≡ true → has_slot (a ++ b) s ≡ true)
        → (h || has_slot (a ++ b) s) ≡ true
    by true e rest = refl
    by false e rest = rest e

-- what is new had no slot
pub new-fresh : (known : Slots) (ss : List Signature) (s : Signature) → has_slot known s ≡ true
    → has (new_in known ss) s ≡ false
new-fresh known [] s e = refl
new-fresh known (u ∷ ss) s e = by (has_slot known u) (same u s) refl refl (new-fresh known ss s e) (new-fresh (known
    ++ Some u ∷ []) ss s (has_slot-append known (Some u ∷ []) s e))
  where
    by : (b a : Bool) → has_slot known u ≡ b → same u s ≡ a → has (new_in known ss) s ≡ false
        → has (new_in (known ++ Some u ∷ []) ss) s ≡ false → has (if b then new_in known ss else u ∷ new_in (known
        ++ Some u ∷ []) ss) s ≡ false
    by true a g f old fresh = old
    by false true g f old fresh = let is = same-true u s f in let h : has_slot known u ≡ true = ap (has_slot known) is
        ∙ e in cc
    by false false g f old fresh = ap (λ q. q || has (new_in (known ++ Some u ∷ []) ss) s) f ∙ fresh

-- ---- imported classes: a slot is the first method with the token

put-same : (t : ℕ) (s : Signature) (all : Slots) → slice_get (put t s all) t ≡ Some (Some s)
put-same zero s [] = refl
put-same zero s (slot ∷ all) = refl
put-same (suc t) s [] = put-same t s []
put-same (suc t) s (slot ∷ all) = put-same t s all

pub put-other : (t k : ℕ) (s u : Signature) (all : Slots) → (t ≡ k → ⊥) → slice_get (put t s all) k ≡ Some (Some u)
    → slice_get all k ≡ Some (Some u)
put-other zero zero s u all n e = absurd (n refl)
put-other zero (suc k) s u [] n e = e
put-other zero (suc k) s u (slot ∷ all) n e = e
put-other (suc t) zero s u [] n e = cc
put-other (suc t) zero s u (slot ∷ all) n e = e
put-other (suc t) (suc k) s u [] n e = put-other t k s u [] (λ h. n (ap suc h)) e
put-other (suc t) (suc k) s u (slot ∷ all) n e = put-other t k s u all (λ h. n (ap suc h)) e

-- ---- what has a slot

pub here-has_slot : (all : Slots) (t : ℕ) (s : Signature) → slice_get all t ≡ Some (Some s) → has_slot all s ≡ true
here-has_slot [] t s e = cc
here-has_slot (slot ∷ all) zero s e = let is : slot ≡ Some s = cc in ap (λ q. holds q s || has_slot all s) is
    ∙ ap (λ q. q || has_slot all s) (same-refl s)
here-has_slot (slot ∷ all) (suc t) s e = ap (λ q. holds slot s || q) (here-has_slot all t s e) ∙ or_true (holds slot s)

pub has_slot-behind : (a b : Slots) (s : Signature) → has_slot b s ≡ true → has_slot (a ++ b) s ≡ true
has_slot-behind [] b s e = e
has_slot-behind (slot ∷ a) b s e = ap (λ q. holds slot s || q) (has_slot-behind a b s e) ∙ or_true (holds slot s)

-- what is offered has a slot afterwards
pub offered-has_slot : (known : Slots) (ss : List Signature) (s : Signature) → has ss s ≡ true
    → has_slot (known ++ map Some (new_in known ss)) s ≡ true
offered-has_slot known [] s e = cc
offered-has_slot known (u ∷ ss) s e = by (has_slot known u) (same u s) refl refl e (offered-has_slot known ss s)
    (offered-has_slot (known ++ Some u ∷ []) ss s)
  where
    by : (b a : Bool) → has_slot known u ≡ b → same u s ≡ a → (a || has ss s) ≡ true
        → (has ss s ≡ true → has_slot (known ++ map Some (new_in known ss)) s ≡ true)
        → (has ss s ≡ true → has_slot ((known ++ Some u ∷ []) ++ map Some (new_in (known ++ Some u ∷ []) ss)) s ≡ true)
        → has_slot (known ++ map Some (if b then new_in known ss else u ∷ new_in (known ++ Some u ∷ []) ss)) s ≡ true
    by true true g f e old fresh = has_slot-append known (map Some (new_in known ss)) s
        (ap (has_slot known) (sym (same-true u s f)) ∙ g)
    by true false g f e old fresh = old e
    by false true g f e old fresh = has_slot-behind known (Some u ∷ map Some (new_in (known ++ Some u ∷ []) ss)) s
        (ap (λ q. q || has_slot (map Some (new_in (known ++ Some u ∷ []) ss)) s) f)
    by false false g f e old fresh =
        ap (λ q. has_slot q s) (sym (append_assoc known (Some u ∷ []) (map Some (new_in (known ++ Some u ∷ []) ss))))
        ∙ fresh e

-- the token of a signature is the place of a slot of it
pub token-cons : (slot : Option Signature) (all : Slots) (s : Signature) → token (slot ∷ all) s ≡ (if holds slot s
    then Some 0 else option_map suc (token all s))
unfolding token
token-cons slot all s = position-cons (λ q. holds q s) slot all

pub token-nil : (s : Signature) → token [] s ≡ None
unfolding token
token-nil s = refl

pub token-slot : (all : Slots) (s : Signature) (t : ℕ) → token all s ≡ Some t → slice_get all t ≡ Some (Some s)
token-slot [] s t e = let none = token-nil s in cc
token-slot (slot ∷ all) s t e = by slot (holds slot s) refl (token all s) refl (sym (token-cons slot all s)
    ∙ e) (token-slot all s)
  where
    by : (o : Option Signature) (b : Bool) → holds o s ≡ b → (p : Option ℕ) → token all s ≡ p
        → (if b then Some 0 else option_map suc p) ≡ Some t → ((k : ℕ) → token all s ≡ Some k
        → slice_get all k ≡ Some (Some s)) → slice_get (o ∷ all) t ≡ Some (Some s)
    by None true f p g e rest = cc
    by (Some u) true f p g e rest = let at : 0 ≡ t = cc in subst (λ k. slice_get (Some u ∷ all) k ≡ Some (Some s)) at
        (ap (λ q. Some (Some q)) (same-true u s f))
    by o false f None g e rest = cc
    by o false f (Some k) g e rest = let at : suc k ≡ t = cc in subst (λ q. slice_get (o ∷ all) q ≡ Some (Some s)) at
        (rest k g)

-- a method that an imported class lists has the slot of its token, or another with its token has
pub put-same_at : (t k : ℕ) (s : Signature) (all : Slots) → t ≡ k → slice_get (put t s all) k ≡ Some (Some s)
put-same_at t k s all at = subst (λ q. slice_get (put t s all) q ≡ Some (Some s)) at (put-same t s all)

pub put-still : (t k : ℕ) (s : Signature) (all : Slots) (slot : Option Signature) → (t ≡ k → ⊥)
    → slice_get all k ≡ Some slot → slice_get (put t s all) k ≡ Some slot
put-still zero zero s all slot n e = absurd (n refl)
put-still zero (suc k) s [] slot n e = cc
put-still zero (suc k) s (u ∷ all) slot n e = e
put-still (suc t) k s [] slot n e = cc
put-still (suc t) zero s (u ∷ all) slot n e = e
put-still (suc t) (suc k) s (u ∷ all) slot n e = put-still t k s all slot (λ h. n (ap suc h)) e

reserve-other : (t k : ℕ) (s : Signature) (all : Slots) → slice_get (reserve t all) k ≡ Some (Some s)
    → slice_get all k ≡ Some (Some s)
reserve-other zero zero s [] e = cc
reserve-other zero (suc k) s [] e = e
reserve-other zero k s (slot ∷ all) e = e
reserve-other (suc t) zero s [] e = cc
reserve-other (suc t) (suc k) s [] e = reserve-other t k s [] e
reserve-other (suc t) zero s (slot ∷ all) e = e
reserve-other (suc t) (suc k) s (slot ∷ all) e = reserve-other t k s all e

pub reserve-still : (t k : ℕ) (slot : Option Signature) (all : Slots) → slice_get all k ≡ Some slot
    → slice_get (reserve t all) k ≡ Some slot
reserve-still t k slot [] e = cc
reserve-still zero k slot (u ∷ all) e = e
reserve-still (suc t) zero slot (u ∷ all) e = e
reserve-still (suc t) (suc k) slot (u ∷ all) e = reserve-still t k slot all e

-- a slot that an imported class has is that of a public or protected method which it or a super lists
pub listed_slot : (ms : List Member) (t : ℕ) (s : Signature) → slice_get (listed_slots ms) t ≡ Some (Some s)
    → (m : Member) × In m ms × (is_shown m ≡ true) × (m.token ≡ t) × ((signature_of m) ≡ s)
listed_slot [] t s e = cc
listed_slot (n ∷ ms) t s e = by (is_shown n) (is_virtual n) (n.token == t) refl refl e (listed_slot ms t s)
  where
    by : (b v a : Bool) → is_shown n ≡ b → (n.token == t) ≡ a
        → slice_get (if b then put n.token (signature_of n) (listed_slots ms) else if v
        then reserve n.token (listed_slots ms) else listed_slots ms) t ≡ Some (Some s)
        → (slice_get (listed_slots ms) t ≡ Some (Some s) → (m : Member) × In m ms × (is_shown m ≡ true) × (m.token ≡ t)
        × ((signature_of m) ≡ s)) → (m : Member) × In m (n ∷ ms) × (is_shown m ≡ true) × (m.token ≡ t)
        × ((signature_of m) ≡ s)
    by true v true f g e rest =
        let at = eqb-true n.token t g in
        let there = put-same_at n.token t (signature_of n) (listed_slots ms) at in
        let is : (signature_of n) ≡ s = cc in
        (n, first_of, f, at, is)
    by true v false f g e rest = let r = rest (put-other n.token t (signature_of n) s (listed_slots ms)
        (eqb-false n.token t g) e) in (r.0, later r.1, r.2, r.3, r.4)
    by false true a f g e rest = let r = rest (reserve-other n.token t s (listed_slots ms) e)
        in (r.0, later r.1, r.2, r.3, r.4)
    by false false a f g e rest = let r = rest e in (r.0, later r.1, r.2, r.3, r.4)

-- the slot of a listed method's token is that of a public or protected method with the token
pub In-slot : (ms : List Member) (m : Member) → In m ms → is_shown m ≡ true → (n : Member) × In n ms
    × (is_shown n ≡ true) × (n.token ≡ m.token) × (slice_get (listed_slots ms) m.token ≡ Some (Some (signature_of n)))
In-slot [] m i e = elim i [ ]
In-slot (n ∷ ms) m first_of e = (
  n,
  first_of,
  e,
  refl,
  ap (λ b. slice_get (if b then put n.token (signature_of n) (listed_slots ms)
      else if is_virtual n then reserve n.token (listed_slots ms) else listed_slots ms) n.token) e
      ∙ put-same n.token (signature_of n) (listed_slots ms),
)
In-slot (n ∷ ms) m (later i) e = by (is_shown n) (is_virtual n) (n.token == m.token) refl refl (In-slot ms m i e)
  where
    by : (b v a : Bool) → is_shown n ≡ b → (n.token == m.token) ≡ a → ((k : Member) × In k ms × (is_shown k ≡ true)
        × (k.token ≡ m.token) × (slice_get (listed_slots ms) m.token ≡ Some (Some (signature_of k)))) → (k : Member)
        × In k (n ∷ ms) × (is_shown k ≡ true) × (k.token ≡ m.token)
        × (slice_get (if b then put n.token (signature_of n) (listed_slots ms) else if v
        then reserve n.token (listed_slots ms) else listed_slots ms) m.token ≡ Some (Some (signature_of k)))
    by true v true f g r = (
      n,
      first_of,
      f,
      eqb-true n.token m.token g,
      put-same_at n.token m.token (signature_of n)
          (listed_slots ms) (eqb-true n.token m.token g),
    )
    by true v false f g r = (
      r.0,
      later r.1,
      r.2,
      r.3,
      put-still n.token m.token (signature_of n) (listed_slots ms)
          (Some (signature_of r.0)) (eqb-false n.token m.token g) r.4,
    )
    by false true a f g r = (
      r.0,
      later r.1,
      r.2,
      r.3,
      reserve-still n.token m.token (Some (signature_of r.0))
          (listed_slots ms) r.4,
    )
    by false false a f g r = (r.0, later r.1, r.2, r.3, r.4)

pub shown-virtual : (m : Member) → is_shown m ≡ true → is_virtual m ≡ true
shown-virtual m e = by (is_exposed m.flags) (is_virtual m) e
  where
    by : (a b : Bool) → (a && b) ≡ true → b ≡ true
    by true b e = e
    by false b e = cc
