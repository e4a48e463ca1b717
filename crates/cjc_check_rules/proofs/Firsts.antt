-- The first of several places: of two lists, and of items that stand one behind the other.
use Rattle.std.proofs.Common.{◌≡◌, ℕ, ◌+◌, ◌<◌, ◌≤◌, Bool, true, false, List, [], ◌∷◌, ◌++◌, length, get_or, drop, refl}
use Rattle.std.proofs.Common.{sym, ap, ◌∙◌, arith, Option, Some, None}
use Rattle.std.proofs.lemmas.List.{drop_more, drop_all}
use Rattle.std.proofs.lemmas.List.Sums.{sum_by-drop_more}
use Rattle.std.proofs.lemmas.Bool.Decides.{nat_tests}
use Rattle.std.specs.Prelude.{if◌then◌else◌}
use Rattle.std.specs.Prelude.{sum_by}
use Rattle.cjc_check_rules.specs.Spots.{ComponentPlace, along, is_up_to, earlier, first}
use Rattle.cjc_export.proofs.BytesBools.{bool_either}

-- ---- two places

up_to_trans : (a b c : ComponentPlace) → is_up_to a b ≡ true → is_up_to b c ≡ true → is_up_to a c ≡ true
up_to_trans a b c p q = grind (arith, nat_tests)

not_up_to_trans : (a b c : ComponentPlace) → is_up_to a b ≡ false → is_up_to b c ≡ false → is_up_to a c ≡ false
not_up_to_trans a b c p q = grind (arith, nat_tests)

three : (a b c : ComponentPlace) → earlier (earlier (Some a) (Some b)) (Some c)
    ≡ earlier (Some a) (earlier (Some b) (Some c))
three a b c =
    bool_either (is_up_to a b)
    (λ ab. bool_either (is_up_to b c)
    (λ bc. let ac = up_to_trans a b c ab bc in rw (ab, bc, ac) (rw ab refl))
    (λ bc. rw (ab, bc) refl))
    (λ ab. bool_either (is_up_to b c)
    (λ bc. rw (ab, bc) (rw ab refl))
    (λ bc. let ac = not_up_to_trans a b c ab bc in rw (ab, bc, ac) refl))

pub earlier_none : (a : Option ComponentPlace) → earlier a None ≡ a
earlier_none None = refl
earlier_none (Some a) = refl

pub earlier_assoc : (a b c : Option ComponentPlace) → earlier (earlier a b) c ≡ earlier a (earlier b c)
earlier_assoc None b c = refl
earlier_assoc (Some a) None c = refl
earlier_assoc (Some a) (Some b) None = earlier_none (earlier (Some a) (Some b))
earlier_assoc (Some a) (Some b) (Some c) = three a b c

-- ---- two lists

pub first_append : (xs ys : List ComponentPlace) → first (xs ++ ys) ≡ earlier (first xs) (first ys)
unfolding first
first_append [] ys = refl
first_append (x ∷ xs) ys = ap (earlier (Some x)) (first_append xs ys)
    ∙ sym (earlier_assoc (Some x) (first xs) (first ys))

pub first_nothing : first [] ≡ None
unfolding first
first_nothing = refl

pub first_empty : (xs : List ComponentPlace) → first xs ≡ None → xs ≡ []
unfolding first
first_empty [] e = refl
first_empty (x ∷ xs) e = absurd (never (first xs) e)
  where
    never : (rest : Option ComponentPlace) → earlier (Some x) rest ≡ None → ⊥
    never None e = cc
    never (Some y) e = bool_either (is_up_to x y) (λ t. let f : Some x ≡ None = ap (λ (b : Bool). if b then Some x
        else Some y) (sym t) ∙ e in cc) (λ t. let f : Some y ≡ None = ap (λ (b : Bool). if b then Some x
        else Some y) (sym t) ∙ e in cc)

pub joined : (a b : Option ComponentPlace) (xs ys : List ComponentPlace) → a ≡ first xs → b ≡ first ys
    → earlier a b ≡ first (xs ++ ys)
joined a b xs ys e f = rw (e, f) (sym (first_append xs ys))

-- ---- items one behind the other

pub sum_step : {A : Type 0} (size : A → ℕ) (i : ℕ) (x : A) (xs : List A) → i < length xs → x ≡ get_or xs i x
    → sum_by size (drop i xs) ≡ size x + sum_by size (drop (i + 1) xs)
sum_step size i x xs lt is = sum_by-drop_more size xs i x lt ∙ ap (λ n. n + sum_by size (drop (i + 1) xs))
    (ap size (sym is))

pub along_step : {A : Type 0} (size : A → ℕ) (broken : ℕ → A → List ComponentPlace) (at i : ℕ) (x : A) (xs : List A)
    → i < length xs → x ≡ get_or xs i x
    → first (along size broken at (drop i xs)) ≡ earlier (first (broken at x))
    (first (along size broken (at + size x) (drop (i + 1) xs)))
unfolding along
along_step {A = A} size broken at i x xs lt is =
    let d : drop i xs ≡ x ∷ drop (i + 1) xs = drop_more xs i x lt ∙ ap (λ (y : A). y ∷ drop (i + 1) xs) (sym is) in
    ap (λ (ys : List A). first (along size broken at ys)) d
    ∙ first_append (broken at x) (along size broken (at + size x) (drop (i + 1) xs))

pub along_more : {A : Type 0} (size : A → ℕ) (broken : ℕ → A → List ComponentPlace) (at next i : ℕ) (x : A)
    (xs : List A) (best found total : Option ComponentPlace)
    → i < length xs → x ≡ get_or xs i x → next ≡ at + size x → found ≡ first (broken at x)
    → earlier best (first (along size broken at (drop i xs))) ≡ total
    → earlier (earlier best found) (first (along size broken next (drop (i + 1) xs))) ≡ total
along_more size broken at next i x xs best found total lt is n f so_far =
    rw (n, f)
    (earlier_assoc best (first (broken at x)) (first (along size broken (at + size x) (drop (i + 1) xs)))
    ∙ ap (earlier best) (sym (along_step size broken at i x xs lt is)) ∙ so_far)

pub along_all : {A : Type 0} (size : A → ℕ) (broken : ℕ → A → List ComponentPlace) (at i : ℕ) (xs : List A)
    (best total : Option ComponentPlace)
    → length xs ≤ i → earlier best (first (along size broken at (drop i xs))) ≡ total → best ≡ total
unfolding along first
along_all {A = A} size broken at i xs best total le so_far =
    let d = drop_all i xs le in
    sym (earlier_none best) ∙ ap (λ (ys : List A). earlier best (first (along size broken at ys))) (sym d) ∙ so_far
