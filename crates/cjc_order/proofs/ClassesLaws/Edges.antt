-- Classes put among those that list others, one by one.
use Rattle.std.proofs.Common.{◌≡◌, ℕ, zero, suc, ◌+◌, ◌<◌, ◌≤◌, ◌==◌, Bool, true, false, List, [], ◌∷◌, ◌++◌, length}
use Rattle.std.proofs.Common.{get_or, map, refl, sym, ap, ◌∙◌, arith, inl, inr}
use Rattle.std.specs.Prelude.{◌&&◌, cond}
use Rattle.std.specs.List.{fold}
use Rattle.std.proofs.lemmas.Bool.{cases_lt}
use Rattle.std.proofs.lemmas.Bool.Decides.{nat_tests}
use Rattle.std.proofs.lemmas.Grind.{get_or-set_at}
use Rattle.std.proofs.lemmas.List.{get_or-set_other, get_or_default, get_or_past, length-set, length-map}
use Rattle.std.proofs.lemmas.List.Sums.{sum_by-append, sum_by-cons}
use Rattle.cjc_order.specs.Classes.Queue.{AreSubs, times, with_sub}
use Rattle.cjc_world.proofs.BytesNumbers.{number_apart}

either : {P : Type 0} (b : Bool) → (b ≡ true → P) → (b ≡ false → P) → P
either true t f = t refl
either false t f = f refl

-- one where both numbers are the same
abbrev one : Bool → ℕ
one b = cond b 1 0

pub times-cons : (k x : ℕ) (xs : List ℕ) → times k (x ∷ xs) ≡ cond (x == k) 1 0 + times k xs
times-cons k x xs = sum_by-cons (λ y. cond (y == k) 1 0) x xs

times-append : (k : ℕ) (xs ys : List ℕ) → times k (xs ++ ys) ≡ times k xs + times k ys
times-append k xs ys = sum_by-append (λ y. cond (y == k) 1 0) xs ys

-- ---- one sub, and several

length-with_sub : (s : ℕ) (rows : List (List ℕ)) (n : ℕ) → length (with_sub s rows n) ≡ length rows
length-with_sub s rows n = length-set rows n (get_or rows n [] ++ s ∷ [])

one_sub : (s : ℕ) (rows : List (List ℕ)) (n k j : ℕ) → j < length rows → times k (get_or (with_sub s rows n) j [])
    ≡ times k (get_or rows j []) + one ((s == k) && (n == j))
one_sub s rows n k j lt =
    let row = get_or rows n [] ++ s ∷ [] in
    either (n == j)
    (λ t.
    let same : j ≡ n = grind (arith, nat_tests, t) in
    let e : get_or (with_sub s rows n) j [] ≡ row = get_or-set_at rows n j row [] same (omega (arith, same, lt)) in
    ap (λ (xs : List ℕ). times k xs) e ∙ times-append k (get_or rows n []) (s ∷ [])
    ∙ ap (λ (m : ℕ). times k (get_or rows m []) + times k (s ∷ [])) (sym same)
    ∙ ap (λ x. times k (get_or rows j []) + x) (alone (s == k) (times-cons k s []))
    ∙ ap (λ x. times k (get_or rows j []) + one ((s == k) && x)) (sym t))
    (λ t.
    let e : get_or (with_sub s rows n) j [] ≡ get_or rows j [] = get_or-set_other rows n j row []
    (number_apart n j t) in
    ap (λ (xs : List ℕ). times k xs) e
    ∙ (let z : times k (get_or rows j []) ≡ times k (get_or rows j []) + 0 = omega arith in z)
    ∙ ap (λ x. times k (get_or rows j []) + x) (none (s == k))
    ∙ ap (λ x. times k (get_or rows j []) + one ((s == k) && x)) (sym t))
  where
    alone : (b : Bool) → times k (s ∷ []) ≡ cond b 1 0 + times k [] → times k (s ∷ []) ≡ one (b && true)
    alone true e = e
    alone false e = e

    none : (b : Bool) → 0 ≡ one (b && false)
    none true = refl
    none false = refl

pub length-subs : (s : ℕ) (listed : List ℕ) (rows : List (List ℕ)) → length (fold (with_sub s) rows listed)
    ≡ length rows
length-subs s [] rows = refl
length-subs s (n ∷ listed) rows = length-subs s listed (with_sub s rows n) ∙ length-with_sub s rows n

subs : (s : ℕ) (listed : List ℕ) (rows : List (List ℕ)) (k j : ℕ) → j < length rows
    → times k (get_or (fold (with_sub s) rows listed) j []) ≡ times k (get_or rows j []) + cond (s == k)
    (times j listed) 0
subs s [] rows k j lt = by (s == k)
  where
    by : (b : Bool) → times k (get_or rows j []) ≡ times k (get_or rows j []) + cond b (times j []) 0
    by true = omega arith
    by false = omega arith
subs s (n ∷ listed) rows k j lt =
    let l = length-with_sub s rows n in
    subs s listed (with_sub s rows n) k j (omega (arith, l, lt))
    ∙ ap (λ x. x + cond (s == k) (times j listed) 0) (one_sub s rows n k j lt)
    ∙ by (s == k) (n == j) (times-cons j n listed)
  where
    by : (a b : Bool) → times j (n ∷ listed) ≡ cond b 1 0 + times j listed
        → times k (get_or rows j []) + one (a && b) + cond a (times j listed) 0 ≡ times k (get_or rows j []) + cond a
        (times j (n ∷ listed)) 0
    by true true e = omega arith
    by true false e = omega arith
    by false b e = omega arith

-- ---- the loop over all classes: those before a place are put among those that list what they list

pub record ArePut (i : ℕ) (listed rows : List (List ℕ)) : Type 0 where
  pub size : length rows ≡ length listed
  pub before : (k j : ℕ) → k < i → j < length listed → times k (get_or rows j []) ≡ times j (get_or listed k [])
  pub after : (k j : ℕ) → i ≤ k → j < length listed → times k (get_or rows j []) ≡ 0

abbrev none : List ℕ → List ℕ
none row = []

empty_at : (xs : List (List ℕ)) (j : ℕ) → get_or (map none xs) j [] ≡ []
empty_at [] j = refl
empty_at (x ∷ xs) zero = refl
empty_at (x ∷ xs) (suc j) = empty_at xs j

pub put_none : (listed rows : List (List ℕ)) → rows ≡ map (λ row. []) listed → ArePut 0 listed rows
put_none listed rows e = record {
  size = ap (λ (rs : List (List ℕ)). length rs) e ∙ length-map listed none;
  before = λ k j lt less. absurd (omega (arith, lt));
  after = λ k j le less. ap (λ (rs : List (List ℕ)). times k (get_or rs j [])) e
      ∙ ap (λ (xs : List ℕ). times k xs) (empty_at listed j);
}

pub put_more : (i : ℕ) (x : List ℕ) (listed rows next : List (List ℕ)) → i < length listed → x ≡ get_or listed i x
    → next ≡ fold (with_sub i) rows x → ArePut i listed rows → ArePut (i + 1) listed next
put_more i x listed rows next lt is n h = record {
  size = ap (λ (rs : List (List ℕ)). length rs) n ∙ length-subs i x rows ∙ h.size;
  before = λ k j under less.
      elim (cases_lt k i) [
        | inl small ↦ (
            let off : (i == k) ≡ false = grind (arith, nat_tests, small) in
            step k j less ∙ ap (λ b. times k (get_or rows j []) + cond b (times j x) 0) off
            ∙ plus_none (times k (get_or rows j [])) ∙ h.before k j small less)
        | inr big ↦ (
            let same : k ≡ i = omega (arith, under, big) in
            let on : (i == k) ≡ true = grind (arith, nat_tests, same) in
            step k j less ∙ ap (λ b. times k (get_or rows j []) + cond b (times j x) 0) on
            ∙ ap (λ b. b + times j x) (h.after k j big less)
            ∙ none_plus (times j x)
            ∙ ap (λ (ys : List ℕ). times j ys) row ∙ ap (λ (m : ℕ). times j (get_or listed m [])) (sym same))
      ];
  after = λ k j le less.
      let off : (i == k) ≡ false = grind (arith, nat_tests, le) in
      let far : i ≤ k = omega (arith, le) in
      step k j less ∙ ap (λ b. times k (get_or rows j []) + cond b (times j x) 0) off
      ∙ plus_none (times k (get_or rows j [])) ∙ h.after k j far less;
}
  where
    plus_none : (n : ℕ) → n + 0 ≡ n
    plus_none n = omega arith

    none_plus : (n : ℕ) → 0 + n ≡ n
    none_plus n = omega arith

    step : (k j : ℕ) → j < length listed → times k (get_or next j []) ≡ times k (get_or rows j []) + cond (i == k)
        (times j x) 0
    step k j less = let s = h.size in ap (λ (rs : List (List ℕ)). times k (get_or rs j [])) n
        ∙ subs i x rows k j (omega (arith, s, less))

    row : x ≡ get_or listed i []
    row = is ∙ get_or_default listed i x [] lt

pub put_all : (i : ℕ) (listed rows : List (List ℕ)) → length listed ≤ i → ArePut i listed rows → AreSubs listed rows
put_all i listed rows le h = record {
  size = h.size;
  each = λ k j less.
      elim (cases_lt k i) [
        | inl small ↦ h.before k j small less
        | inr big ↦ h.after k j big less
            ∙ sym (ap (λ (xs : List ℕ). times j xs) (get_or_past listed k [] (omega (arith, le, big))))
      ];
}
