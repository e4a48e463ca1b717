-- Lists of places without repeats: what is looked for in them is found as in the lists with repeats.
use Rattle.std.proofs.Common.{◌≡◌, ℕ, suc, ◌<◌, ◌≤◌, ◌+◌, length, get_or, drop, add-one, refl, sym, ap, ◌∙◌, arith}
use Rattle.std.proofs.Common.{Bool, true, false, List, [], ◌∷◌, ◌++◌}
use Rattle.std.specs.Prelude.{◌||◌, ◌==◌, if◌then◌else◌, Option, Some, None}
use Rattle.std.specs.List.{list_any}
use Rattle.std.proofs.Math.Seq.{drop-cons}
use Rattle.std.proofs.lemmas.Grind.{common_steps}
use Rattle.std.proofs.lemmas.List.Folds.{list_any-append}
use Rattle.std.proofs.lemmas.Bool.{or_left, or_right}
use Rattle.cjc_world.specs.declared.found.Found.{Found}
use Rattle.cjc_world.specs.Working.Places.{is_in, joined, first_place}
use Rattle.cjc_world.specs.Lookup.{or_else}
use Rattle.cjc_world.proofs.Rising.{or_else-assoc, or_else-none}
use Rattle.cjc_bytes.proofs.Bools.{or_assoc}
use Rattle.cjc_bytes.proofs.Numbers.{number_same}

pub or-false : (b : Bool) → (b || false) ≡ b
or-false true = refl
or-false false = refl

pub in-append : (q : ℕ) (ps rs : List ℕ) → is_in q (ps ++ rs) ≡ (is_in q ps || is_in q rs)
in-append q ps rs = list_any-append (λ p. p == q) ps rs

pub in-joined : (q : ℕ) (ps rs : List ℕ) → is_in q (joined ps rs) ≡ (is_in q ps || is_in q rs)
unfolding joined
in-joined q ps [] = sym (or-false (is_in q ps))
in-joined q ps (r ∷ rs) = by (is_in r ps) refl (in-joined q ps rs) (in-joined q (ps ++ r ∷ []) rs)
  where
    by : (b : Bool) → is_in r ps ≡ b → is_in q (joined ps rs) ≡ (is_in q ps || is_in q rs)
        → is_in q (joined (ps ++ r ∷ []) rs) ≡ (is_in q (ps ++ r ∷ []) || is_in q rs)
        → is_in q (if b then joined ps rs else joined (ps ++ r ∷ []) rs) ≡ (is_in q ps || ((r == q) || is_in q rs))
    by true e h k = same (r == q) refl
      where
        same : (t : Bool) → (r == q) ≡ t → is_in q (joined ps rs) ≡ (is_in q ps || (t || is_in q rs))
        same true f = let i : is_in q ps ≡ true = ap (λ v. is_in v ps) (sym (number_same r q f)) ∙ e in
            h ∙ or_left (is_in q ps) (is_in q rs) i ∙ sym (or_left (is_in q ps) true i)
        same false f = h
    by false e h k = k ∙ ap (λ b. b || is_in q rs) (in-append q ps (r ∷ [])
        ∙ ap (λ b. is_in q ps || b) (or-false (r == q))) ∙ or_assoc (is_in q ps) (r == q) (is_in q rs)

pub joined-append : (ps qs rs : List ℕ) → joined ps (qs ++ rs) ≡ joined (joined ps qs) rs
unfolding joined
joined-append ps [] rs = refl
joined-append ps (q ∷ qs) rs = by (is_in q ps) (joined-append ps qs rs) (joined-append (ps ++ q ∷ []) qs rs)
  where
    by : (b : Bool) → joined ps (qs ++ rs) ≡ joined (joined ps qs) rs → joined (ps ++ q ∷ []) (qs ++ rs)
        ≡ joined (joined (ps ++ q ∷ []) qs) rs
        → (if b then joined ps (qs ++ rs) else joined (ps ++ q ∷ []) (qs ++ rs)) ≡ joined (if b then joined ps qs
        else joined (ps ++ q ∷ []) qs) rs
    by true h k = h
    by false h k = k

joined-one-in : (ps : List ℕ) (q : ℕ) (rs : List ℕ) → is_in q ps ≡ true → joined ps (q ∷ rs) ≡ joined ps rs
unfolding joined
joined-one-in ps q rs e = ap (λ b. if b then joined ps rs else joined (ps ++ q ∷ []) rs) e

joined-one-new : (ps : List ℕ) (q : ℕ) (rs : List ℕ) → is_in q ps ≡ false → joined ps (q ∷ rs) ≡ joined (ps
    ++ q ∷ []) rs
unfolding joined
joined-one-new ps q rs e = ap (λ b. if b then joined ps rs else joined (ps ++ q ∷ []) rs) e

pub joined-new : (ps : List ℕ) (q : ℕ) → is_in q ps ≡ false → joined ps (q ∷ []) ≡ ps ++ q ∷ []
unfolding joined
joined-new ps q e = joined-one-new ps q [] e

pub joined-old : (ps : List ℕ) (q : ℕ) → is_in q ps ≡ true → joined ps (q ∷ []) ≡ ps
unfolding joined
joined-old ps q e = joined-one-in ps q [] e

pub joined-nil : (ps : List ℕ) → joined ps [] ≡ ps
unfolding joined
joined-nil ps = refl

pub joined_first : (p : ℕ) → joined [] (p ∷ []) ≡ p ∷ []
unfolding joined
joined_first p = refl

pub join-step : (ps now next xs : List ℕ) (i d q : ℕ) → i < length xs → q ≡ get_or xs i d → next ≡ joined now (q ∷ [])
    → joined now (drop i xs) ≡ joined ps xs → joined next (drop (i + 1) xs) ≡ joined ps xs
join-step ps now next xs i d q l is e kept =
    ap (λ v. joined v (drop (i + 1) xs)) (e ∙ ap (λ q. joined now (q ∷ [])) is)
    ∙ ap (λ n. joined (joined now (get_or xs i d ∷ [])) (drop n xs)) (add-one i)
    ∙ sym (joined-append now (get_or xs i d ∷ []) (drop (suc i) xs))
    ∙ ap (joined now) (sym (drop-cons xs i d l)) ∙ kept

pub join-end : (ps now xs : List ℕ) (i : ℕ) → length xs ≤ i → joined now (drop i xs) ≡ joined ps xs → now ≡ joined ps xs
join-end ps now xs i l kept = let e : drop i xs ≡ [] = grind (arith, common_steps) in sym (joined-nil now)
    ∙ ap (joined now) (sym e) ∙ kept

-- what was joined already can be joined again
pub joined-joined : (ps qs rs : List ℕ) → joined ps (joined qs rs) ≡ joined (joined ps qs) rs
unfolding joined
joined-joined ps qs [] = refl
joined-joined ps qs (r ∷ rs) = by (is_in r qs) refl (joined-joined ps qs rs) (joined-joined ps (qs ++ r ∷ []) rs)
  where
    by : (b : Bool) → is_in r qs ≡ b → joined ps (joined qs rs) ≡ joined (joined ps qs) rs
        → joined ps (joined (qs ++ r ∷ []) rs) ≡ joined (joined ps (qs ++ r ∷ [])) rs
        → joined ps (if b then joined qs rs else joined (qs ++ r ∷ []) rs) ≡ joined (joined ps qs) (r ∷ rs)
    by true e h k = h ∙ sym (joined-one-in (joined ps qs) r rs (in-joined r ps qs
        ∙ or_right (is_in r ps) (is_in r qs) e))
    by false e h k = k ∙ ap (λ v. joined v rs) (joined-append ps qs (r ∷ []))
        ∙ sym (joined-append (joined ps qs) (r ∷ []) rs)

pub joined-once : (ps rs : List ℕ) → joined ps (joined [] rs) ≡ joined ps rs
unfolding joined
joined-once ps rs = joined-joined ps [] rs

-- ---- the first answer

first-place-append : (own : ℕ → Option Found) (ps qs : List ℕ) → first_place own (ps ++ qs)
    ≡ or_else (first_place own ps) (first_place own qs)
unfolding first_place
first-place-append own [] qs = refl
first-place-append own (p ∷ ps) qs = ap (or_else (own p)) (first-place-append own ps qs)
    ∙ sym (or_else-assoc (own p) (first_place own ps) (first_place own qs))

-- a place that was tried answers nothing new
tried : (own : ℕ → Option Found) (q : ℕ) (ps : List ℕ) → is_in q ps ≡ true → or_else (first_place own ps) (own q)
    ≡ first_place own ps
unfolding first_place
tried own q [] e = cc
tried own q (p ∷ ps) e = by (p == q) refl e (tried own q ps)
  where
    again : (a r : Option Found) → or_else (or_else a r) a ≡ or_else a r
    again None None = refl
    again None (Some r) = refl
    again (Some a) r = refl

    by : (b : Bool) → (p == q) ≡ b → (b || is_in q ps) ≡ true
        → (is_in q ps ≡ true → or_else (first_place own ps) (own q) ≡ first_place own ps)
        → or_else (or_else (own p) (first_place own ps)) (own q) ≡ or_else (own p) (first_place own ps)
    by true f e rest = ap (λ v. or_else (or_else (own p) (first_place own ps)) (own v)) (sym (number_same p q f))
        ∙ again (own p) (first_place own ps)
    by false f e rest = or_else-assoc (own p) (first_place own ps) (own q) ∙ ap (or_else (own p)) (rest e)

pub first-joined : (own : ℕ → Option Found) (ps qs : List ℕ) → first_place own (joined ps qs)
    ≡ or_else (first_place own ps) (first_place own qs)
unfolding joined first_place
first-joined own ps [] = sym (or_else-none (first_place own ps))
first-joined own ps (q ∷ qs) = by (is_in q ps) refl (first-joined own ps qs) (first-joined own (ps ++ q ∷ []) qs)
  where
    by : (b : Bool) → is_in q ps ≡ b → first_place own (joined ps qs) ≡ or_else (first_place own ps)
        (first_place own qs)
        → first_place own (joined (ps ++ q ∷ []) qs) ≡ or_else (first_place own (ps ++ q ∷ [])) (first_place own qs)
        → first_place own (if b then joined ps qs else joined (ps ++ q ∷ []) qs) ≡ or_else (first_place own ps)
        (or_else (own q) (first_place own qs))
    by true e h k = h ∙ ap (λ f. or_else f (first_place own qs)) (sym (tried own q ps e))
        ∙ or_else-assoc (first_place own ps) (own q) (first_place own qs)
    by false e h k = k ∙ ap (λ f. or_else f (first_place own qs)) (first-place-append own ps (q ∷ [])
        ∙ ap (or_else (first_place own ps)) (or_else-none (own q))) ∙ or_else-assoc (first_place own ps) (own q)
        (first_place own qs)

-- ---- whether any is

pub any-joined : (test : ℕ → Bool) (ps qs : List ℕ) → list_any test (joined ps qs) ≡ (list_any test ps
    || list_any test qs)
unfolding joined
any-joined test ps [] = sym (or-false (list_any test ps))
any-joined test ps (q ∷ qs) = by (is_in q ps) refl (any-joined test ps qs) (any-joined test (ps ++ q ∷ []) qs)
  where
    had : (ps : List ℕ) → is_in q ps ≡ true → (list_any test ps || test q) ≡ list_any test ps
    had [] e = cc
    had (p ∷ ps) e = here (p == q) refl e (had ps)
      where
        again : (a r : Bool) → ((a || r) || a) ≡ (a || r)
        again true r = refl
        again false true = refl
        again false false = refl

        here : (b : Bool) → (p == q) ≡ b → (b || is_in q ps) ≡ true → (is_in q ps ≡ true → (list_any test ps || test q)
            ≡ list_any test ps) → ((test p || list_any test ps) || test q) ≡ (test p || list_any test ps)
        here true f e rest = ap (λ v. (test p || list_any test ps) || test v) (sym (number_same p q f))
            ∙ again (test p) (list_any test ps)
        here false f e rest = or_assoc (test p) (list_any test ps) (test q) ∙ ap (λ b. test p || b) (rest e)

    by : (b : Bool) → is_in q ps ≡ b → list_any test (joined ps qs) ≡ (list_any test ps || list_any test qs)
        → list_any test (joined (ps ++ q ∷ []) qs) ≡ (list_any test (ps ++ q ∷ []) || list_any test qs)
        → list_any test (if b then joined ps qs else joined (ps ++ q ∷ []) qs) ≡ (list_any test ps
        || (test q || list_any test qs))
    by true e h k = h ∙ ap (λ b. b || list_any test qs) (sym (had ps e)) ∙ or_assoc (list_any test ps) (test q)
        (list_any test qs)
    by false e h k = k ∙ ap (λ b. b || list_any test qs) (list_any-append test ps (q ∷ []) ∙ ap (λ b. list_any test ps
        || b) (or-false (test q))) ∙ or_assoc (list_any test ps) (test q) (list_any test qs)
