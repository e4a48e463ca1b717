-- The first place of a sentence is its first break.
use Rattle.std.proofs.Common.{◌≡◌, ℕ, ◌+◌, ◌*◌, ◌^◌, ◌/◌, ◌<◌, ◌≤◌, ◌==◌, Bool, true, false, List, [], ◌∷◌, ◌++◌, map}
use Rattle.std.proofs.Common.{refl, sym, ap, subst, ◌∙◌, arith, inl, inr, Option, Some, None}
use Rattle.std.specs.Prelude.{if◌then◌else◌, ◌&&◌, ◌⊎◌, nat_lt, nat_le, is_some, not}
use Rattle.std.proofs.lemmas.Bool.Decides.{nat_tests}
use Rattle.std.proofs.lemmas.Bool.{or_parts}
use Rattle.cjc_capread.specs.Bytes.Breaks.{Break, IsFirst, IsFirstOf}
use Rattle.cjc_capread.specs.Bytes.Order.{AreUpTo, NotAfter, numbers}
use Rattle.cjc_capread.proofs.BytesFirsts.{first_left, first_of_one, first_right}
use Rattle.cjc_check_rules.specs.Consistent.{break_at, breaks_of, is_true, sentence}
use Rattle.cjc_check_rules.specs.declared.spot.ComponentPlace.{ComponentPlace}
use Rattle.cjc_check_rules.specs.Spots.{earlier, first, is_up_to}
use Rattle.cjc_check_rules.proofs.Firsts.{first_empty}
use Rattle.cjc_check.specs.Order.{as_break}
use Rattle.cjc_capread.proofs.BytesBools.{bool_either, split_or}

-- by component, then by offset
by_parts : (number : ℕ) (a b : ComponentPlace) → (a.component < b.component) ⊎ ((a.component ≡ b.component)
    × (a.offset ≤ b.offset)) → NotAfter (break_at number a).rank (break_at number b).rank
by_parts number a b (inl lt) = inr (refl, inl (omega (arith, lt)))
by_parts number a b (inr (e, le)) =
    let offsets : (a.offset < b.offset) ⊎ ((a.offset ≡ b.offset) × AreUpTo (number ∷ []) (number ∷ [])) =
    bool_either (nat_lt a.offset b.offset)
    (λ t. let lt : a.offset < b.offset = grind (arith, nat_tests, t) in inl lt)
    (λ t. let ge : b.offset ≤ a.offset = grind (arith, nat_tests, t) in inr (omega (arith, le, ge), inr (refl, tt))) in
    inr (refl, inr (ap (λ (c : ℕ). 2 ^ 64 + c) e, inr (refl, inr (refl, offsets))))

pub in_order : (number : ℕ) (a b : ComponentPlace) → is_up_to a b ≡ true
    → NotAfter (break_at number a).rank (break_at number b).rank
in_order number a b t =
    by_parts number a b (split_or (nat_lt a.component b.component) ((a.component == b.component)
    && nat_le a.offset b.offset) t
    (λ lt. inl (grind (arith, nat_tests)))
    (λ h. inr (grind (arith, nat_tests), grind (arith, nat_tests))))

pub out_of_order : (number : ℕ) (a b : ComponentPlace) → is_up_to a b ≡ false
    → NotAfter (break_at number b).rank (break_at number a).rank
out_of_order number a b t =
    let h = or_parts (nat_lt a.component b.component) ((a.component == b.component) && nat_le a.offset b.offset) t in
    let ge : b.component ≤ a.component = let f = h.0 in grind (arith, nat_tests, f) in
    by_parts number b a
    (bool_either (nat_lt b.component a.component)
    (λ lt. inl (grind (arith, nat_tests)))
    (λ le. let low : a.component ≤ b.component = grind (arith, nat_tests, le) in
    let same : a.component ≡ b.component = omega (arith, ge, low) in
    let rest = h.1 in
    inr (sym same, grind (arith, nat_tests, rest, same))))

first_with : (number : ℕ) (s : ComponentPlace) (spots : List ComponentPlace) (o : Option ComponentPlace)
    → first spots ≡ o → IsFirstOf (map (break_at number) spots) (as_break number true o)
    → IsFirstOf (map (break_at number) (s ∷ spots)) (as_break number true (earlier (Some s) o))
first_with number s spots None e h =
    subst (λ (xs : List ComponentPlace). IsFirst (break_at number s) (map (break_at number) (s ∷ xs)))
    (sym (first_empty spots e)) (first_of_one (break_at number s))
first_with number s spots (Some t) e h =
    let one = break_at number s in
    let other = break_at number t in
    bool_either (is_up_to s t)
    (λ up. subst (λ (b : Bool). IsFirstOf (map (break_at number) (s ∷ spots)) (as_break number true (if b then Some s
    else Some t))) (sym up)
    (first_left one other (one ∷ []) (map (break_at number) spots) (first_of_one one) h (in_order number s t up)))
    (λ down. subst (λ (b : Bool). IsFirstOf (map (break_at number) (s ∷ spots)) (as_break number true (if b then Some s
    else Some t))) (sym down)
    (first_right one other (one ∷ []) (map (break_at number) spots) (first_of_one one) h (out_of_order number s t
    down)))

pub first_place : (number : ℕ) (spots : List ComponentPlace)
    → IsFirstOf (map (break_at number) spots) (as_break number true (first spots))
unfolding first
first_place number [] = refl
first_place number (s ∷ spots) = first_with number s spots (first spots) refl (first_place number spots)

not_needed : (number : ℕ) (o : Option ComponentPlace) → as_break number false o ≡ None
not_needed number None = refl
not_needed number (Some s) = refl

-- the first break of a sentence
pub first_break : (number : ℕ) (needed need : Bool) (spots : List ComponentPlace) (spot : Option ComponentPlace)
    → needed ≡ need → spot ≡ first spots → IsFirstOf (breaks_of (sentence number need spots)) (as_break number needed
    spot)
first_break number needed need spots spot n e =
    subst (λ (b : Bool). IsFirstOf (breaks_of (sentence number need spots)) (as_break number b spot)) (sym n)
    (subst (λ (o : Option ComponentPlace). IsFirstOf (breaks_of (sentence number need spots)) (as_break number need o))
    (sym e) (by_need need))
  where
    by_need : (b : Bool) → IsFirstOf (breaks_of (sentence number b spots)) (as_break number b (first spots))
    by_need true = first_place number spots
    by_need false = subst (λ (o : Option Break). IsFirstOf [] o) (sym (not_needed number (first spots))) refl

some_first : (s : ComponentPlace) → first [] ≡ Some s → ⊥
unfolding first
some_first s e = cc

none_is : (spots : List ComponentPlace) → first spots ≡ None → true ≡ is_true spots
none_is [] e = refl
none_is (s ∷ spots) e = absurd (let f = first_empty (s ∷ spots) e in cc)

some_is : (spots : List ComponentPlace) (t : ComponentPlace) → first spots ≡ Some t → false ≡ is_true spots
some_is [] t e = absurd (some_first t e)
some_is (s ∷ spots) t e = refl

-- a sentence is true where it has no first place
pub true_where_none : (spots : List ComponentPlace) (spot : Option ComponentPlace) (is_none : Bool)
    → is_some spot ≡ not is_none → spot ≡ first spots → is_none ≡ is_true spots
true_where_none spots None true h e = none_is spots (sym e)
true_where_none spots None false h e = absurd cc
true_where_none spots (Some t) true h e = absurd cc
true_where_none spots (Some t) false h e = some_is spots t (sym e)
