-- What stands at a place of a list.
use Rattle.cjc_bytes.proofs.Lists.{none_left, none_right}
use Rattle.cjc_bytes.proofs.Quantified.{any_front, any_right}
use Rattle.std.proofs.Common.{Bool, List, [], add-one, ap, append-nil, arith, drop, drop-cons, false, get_or, inl, inr}
use Rattle.std.proofs.Common.{length, refl, slice_set, subst, suc, sym, take, true, zero, zero-add, ℕ, ◌++◌, ◌+◌, ◌-◌}
use Rattle.std.proofs.Common.{◌<◌, ◌||◌, ◌∙◌, ◌∷◌, ◌≡◌, ◌≤◌}
use Rattle.std.proofs.Math.ListN.{set}
use Rattle.std.proofs.lemmas.Bool.Decides.{nat_tests}
use Rattle.std.proofs.lemmas.Grind.{common_steps}
use Rattle.std.proofs.lemmas.List.{drop_all, drop_more, length-append, map-append, take_at, take_more}
use Rattle.std.proofs.lemmas.List.Concat.{flat_map-cons}
use Rattle.std.proofs.lemmas.List.Elements.{All-head, All-tail}
use Rattle.std.proofs.lemmas.List.Sums.{passes_at_first}
use Rattle.std.proofs.lemmas.Option.{get_or_from_slice_get, same_Some, slice_get-get_or, slice_get-map, slice_get_cases}
use Rattle.std.proofs.lemmas.Option.{slice_get_read, slice_get_within}
use Rattle.std.specs.List.{AllByRecursion, Contains, flat_map, list_any, position, position_or_len}
use Rattle.std.specs.Prelude.{All, None, Some, cond, find, map, nat_lt, option_map, slice_get, ◌⊎◌}

pub all_but_last : (name : List ℕ) → take (length (name ++ 59 ∷ []) - 1) (name ++ 59 ∷ []) ≡ name
all_but_last name = let n : length name ≡ length (name ++ 59 ∷ []) - 1 = omega (arith, length-append name (59 ∷ []))
    in take_at name (59 ∷ []) _ n

pub all_at : {A : Type 0} (P : A → Type 0) (xs : List A) (k : ℕ) (x : A) → AllByRecursion P xs → slice_get xs k ≡ Some x
    → P x
all_at P [] k x all e = cc
all_at P (y ∷ xs) zero x all e = let is : y ≡ x = cc in subst P is all.0
all_at P (y ∷ xs) (suc k) x all e = all_at P xs k x all.1 e

pub drop_next : {X : Type 0} (xs : List X) (k : ℕ) (x : X) → k < length xs → x ≡ get_or xs k x → drop k xs
    ≡ x ∷ drop (k + 1) xs
drop_next xs k x lt is = drop_more xs k x lt ∙ ap (λ y. y ∷ drop (k + 1) xs) (sym is)

pub slice_get_set_same : {A : Type 0} (xs : List A) (i : ℕ) (v : A) → i < length xs → slice_get (set xs i v) i ≡ Some v
slice_get_set_same [] i v l = absurd (omega arith)
slice_get_set_same (x ∷ xs) zero v l = refl
slice_get_set_same (x ∷ xs) (suc i) v l = slice_get_set_same xs i v (omega arith)

pub get_step : {A : Type 0} {B : Type 0} (f : A → List B) (list : List A) (i : ℕ) (d : A) → i < length list
    → flat_map f (drop i list) ≡ f (get_or list i d) ++ flat_map f (drop (i + 1) list)
get_step f list i d lt = rw add-one (ap (flat_map f) (drop-cons list i d lt)
    ∙ flat_map-cons f (get_or list i d) (drop (suc i) list))

pub find_got : {A : Type 0} (test : A → Bool) (xs : List A) (x : A) → find test xs ≡ Some x → (k : ℕ)
    × (slice_get xs k ≡ Some x) × (test x ≡ true)
find_got test [] x e = absurd (cc)
find_got {A = A} test (y ∷ xs) x e = by (test y) refl e (find_got test xs x)
  where
    by : (t : Bool) → test y ≡ t → cond t (Some y) (find test xs) ≡ Some x → (find test xs ≡ Some x → (k : ℕ)
        × (slice_get xs k ≡ Some x) × (test x ≡ true)) → (k : ℕ) × (slice_get (y ∷ xs) k ≡ Some x) × (test x ≡ true)
    by true is h rest = let same : y ≡ x = cc in (0, ap Some same, sym (ap test same) ∙ is)
    by false is h rest = let r = rest h in (suc r.0, r.1, r.2)

pub any_at : {A : Type 0} (p : A → Bool) (xs : List A) → list_any p xs ≡ true → (k : ℕ) × (x : A)
    × (slice_get xs k ≡ Some x) × (p x ≡ true)
any_at p [] e = cc
any_at p (x ∷ xs) e = by (p x) refl e (any_at p xs)
  where
    by : (b : Bool) → p x ≡ b → (b || list_any p xs) ≡ true → (list_any p xs ≡ true → (k : ℕ) × (y : _)
        × (slice_get xs k ≡ Some y) × (p y ≡ true)) → (k : ℕ) × (y : _) × (slice_get (x ∷ xs) k ≡ Some y) × (p y ≡ true)
    by true is e rest = (0, x, refl, is)
    by false is e rest = let r = rest e in (suc r.0, r.1, r.2, r.3)

pub get_set_other : {A : Type 0} (xs : List A) (k j : ℕ) (y : A) → (j ≡ k → ⊥)
    → slice_get (slice_set xs k y) j ≡ slice_get xs j
get_set_other [] k j y h = refl
get_set_other (z ∷ xs) zero zero y h = absurd (h refl)
get_set_other (z ∷ xs) zero (suc j) y h = refl
get_set_other (z ∷ xs) (suc k) zero y h = refl
get_set_other (z ∷ xs) (suc k) (suc j) y h = get_set_other xs k j y (λ e. h (ap suc e))

pub set_length : {A : Type 0} (xs : List A) (i : ℕ) (v : A) → length (set xs i v) ≡ length xs
set_length [] i v = refl
set_length (x ∷ xs) zero v = refl
set_length (x ∷ xs) (suc i) v = ap suc (set_length xs i v)

pub get_mapped : {A B : Type 0} (f : A → B) (xs : List A) (k : ℕ) → slice_get (map f xs) k ≡ option_map f
    (slice_get xs k)
get_mapped f [] k = refl
get_mapped f (x ∷ xs) zero = refl
get_mapped f (x ∷ xs) (suc k) = get_mapped f xs k

pub drop_past : {A : Type 0} (xs : List A) (k : ℕ) → length xs ≤ k → drop k xs ≡ []
drop_past xs k long = grind (arith, common_steps)

pub get_past : {A : Type 0} (xs : List A) (k : ℕ) → slice_get xs k ≡ None → (drop k xs ≡ []) × (drop (k + 1) xs ≡ [])
get_past {A = A} xs k e = by (slice_get_cases xs k).1
  where
    by : ((x : A) × (k < length xs) × (slice_get xs k ≡ Some x) × (get_or xs k x ≡ x))
        ⊎ ((length xs ≤ k) × (slice_get xs k ≡ None)) → (drop k xs ≡ []) × (drop (k + 1) xs ≡ [])
    by (inl s) = let no = s.2 in cc
    by (inr n) = let long = n.0 in (drop_past xs k long, drop_past xs (k + 1) (omega arith))

pub drop_at : {X : Type 0} (xs : List X) (k : ℕ) (x : X) → slice_get xs k ≡ Some x → drop k xs ≡ x ∷ drop (k + 1) xs
drop_at xs k x is = drop_more xs k x (slice_get_within xs k x is)
    ∙ ap (λ y. y ∷ drop (k + 1) xs) (get_or_from_slice_get xs k x x is)

pub any_off : {A : Type 0} (p : A → Bool) (xs : List A) (i : ℕ) (x : A) → list_any p xs ≡ false → slice_get xs i
    ≡ Some x
    → p x ≡ false
any_off p [] i x e g = absurd cc
any_off p (y ∷ xs) zero x e g = let same : y ≡ x = cc in ap p (sym same) ∙ by (p y) (list_any p xs) e
  where
    by : (a b : Bool) → (a || b) ≡ false → a ≡ false
    by true b e = absurd cc
    by false b e = refl
any_off p (y ∷ xs) (suc i) x e g = any_off p xs i x (by (p y) (list_any p xs) e) g
  where
    by : (a b : Bool) → (a || b) ≡ false → b ≡ false
    by true b e = absurd cc
    by false b e = e

pub get_front : {A : Type 0} (xs ys : List A) (n : ℕ) → n < length xs → slice_get (xs ++ ys) n ≡ slice_get xs n
get_front [] ys n l = absurd (omega arith)
get_front (x ∷ xs) ys zero l = refl
get_front (x ∷ xs) ys (suc n) l = get_front xs ys n (omega arith)

pub get_back : {A : Type 0} (xs ys : List A) (k : ℕ) → length xs ≤ k → slice_get (xs ++ ys) k ≡ slice_get ys
    (k - length xs)
get_back [] ys k le = let z : k ≡ k - 0 = omega arith in ap (slice_get ys) z
get_back (x ∷ xs) ys zero le = absurd (omega arith)
get_back (x ∷ xs) ys (suc k) le = let z : k - length xs ≡ suc k - suc (length xs) = omega arith
    in get_back xs ys k (omega arith) ∙ ap (slice_get ys) z

pub in_front : {A : Type 0} (xs ys : List A) (i : ℕ) (x : A) → slice_get xs i ≡ Some x → slice_get (xs ++ ys) i ≡ Some x
in_front [] ys i x e = cc
in_front (y ∷ xs) ys zero x e = e
in_front (y ∷ xs) ys (suc i) x e = in_front xs ys i x e

pub take_past : {A : Type 0} (xs : List A) (i : ℕ) → length xs ≤ i → take i xs ≡ xs
take_past xs i le = grind (arith, common_steps)

pub slice_get_at : {A : Type 0} (xs : List A) (k : ℕ) (x : A) → k < length xs → x ≡ get_or xs k x → slice_get xs k
    ≡ Some x
slice_get_at xs k x h e = slice_get_read xs (length xs) k x refl h e

pub position_there : {X : Type 0} (p : X → Bool) (xs : List X) (k : ℕ) → position p xs ≡ Some k → (x : X)
    × (slice_get xs k ≡ Some x) × (p x ≡ true)
position_there {X} p [] k e = absurd (cc)
position_there {X} p (y ∷ ys) k e = by (nat_lt (position_or_len p (y ∷ ys)) (length (y ∷ ys))) refl e
  where
    by : (b : Bool) → nat_lt (position_or_len p (y ∷ ys)) (length (y ∷ ys)) ≡ b
        → cond b (Some (position_or_len p (y ∷ ys))) None ≡ Some k → (x : X) × (slice_get (y ∷ ys) k ≡ Some x)
        × (p x ≡ true)
    by true t h =
        let is : position_or_len p (y ∷ ys) ≡ k = cc in
        let lt : position_or_len p (y ∷ ys) < length (y ∷ ys) = grind (arith, nat_tests) in
        subst (λ n. (x : X) × (slice_get (y ∷ ys) n ≡ Some x) × (p x ≡ true)) is (
          get_or (y ∷ ys) (position_or_len p (y ∷ ys)) y,
          slice_get-get_or (y ∷ ys) (position_or_len p (y ∷ ys)) y lt,
          passes_at_first p (y ∷ ys) y lt,
        )
    by false t h = absurd (cc)

pub get_behind : {A : Type 0} (xs ys : List A) (k : ℕ) → slice_get (xs ++ ys) (length xs + k) ≡ slice_get ys k
get_behind [] ys k = ap (slice_get ys) (omega arith)
get_behind (x ∷ xs) ys k = let z : length (x ∷ xs) + k ≡ suc (length xs + k) = omega arith
    in ap (slice_get (x ∷ (xs ++ ys))) z ∙ get_behind xs ys k

pub written_back : {A : Type 0} (new old : List A) (len : ℕ) → length new ≡ length old → len ≡ length old
    → take len (new ++ drop (length new) old) ≡ new
written_back {A} new old len a b =
    let rest : drop (length new) old ≡ [] = drop_all (length new) old (omega arith) in
    let all : length new ≤ len = omega arith in
    let whole : take len new ≡ new = grind (arith, common_steps) in
    ap (λ (q : List A). take len (new ++ q)) rest ∙ ap (take len) (append-nil new) ∙ whole

pub same_item : {A : Type 0} (xs : List A) (i : ℕ) (d : A) → i < length xs → get_or xs i d ≡ get_or xs i (get_or xs i d)
same_item xs i d lt = same_Some _ _ (sym (slice_get-get_or xs i d lt) ∙ slice_get-get_or xs i (get_or xs i d) lt)

pub at_item : {A : Type 0} (i : ℕ) (x : A) (xs : List A) → i < length xs → x ≡ get_or xs i x
    → drop i xs ≡ x ∷ drop (i + 1) xs
at_item {A} i x xs lt is = drop_more xs i x lt ∙ ap (λ (y : A). y ∷ drop (i + 1) xs) (sym is)

pub same_by_get : {X : Type 0} (xs ys : List X) → ((k : ℕ) → slice_get xs k ≡ slice_get ys k) → xs ≡ ys
same_by_get [] [] h = refl
same_by_get [] (y ∷ ys) h = let e = h 0 in absurd cc
same_by_get (x ∷ xs) [] h = let e = h 0 in absurd cc
same_by_get (x ∷ xs) (y ∷ ys) h =
    let first : x ≡ y = let e = h 0 in cc in
    let rest : xs ≡ ys = same_by_get xs ys (λ k. h (suc k)) in
    cc

pub not_past : {X : Type 0} (xs ys : List X) (k : ℕ) (x : X) → length xs ≡ length ys → slice_get xs k ≡ Some x
    → slice_get ys k ≡ None → ⊥
not_past xs ys k x sized has none =
    let lt = slice_get_within xs k x has in
    let found = slice_get-get_or ys k x (omega (arith, lt, sized)) in
    cc

pub contains_at : {X : Type 0} (xs : List X) (x : X) → Contains xs x → (k : ℕ) × (slice_get xs k ≡ Some x)
contains_at xs x (k, lt, e) = (k, slice_get-get_or xs k x lt ∙ ap Some e)

pub contained : {A : Type 0} (xs : List A) (k : ℕ) (x : A) → slice_get xs k ≡ Some x → Contains xs x
contained xs k x e = (k, slice_get_within xs k x e, get_or_from_slice_get xs k x x e)

pub get_below : {A : Type 0} (xs : List A) (n : ℕ) (x : A) → slice_get xs n ≡ Some x → n < length xs
get_below [] n x e = cc
get_below (y ∷ xs) zero x e = omega arith
get_below (y ∷ xs) (suc n) x e = let h = get_below xs n x e in omega arith

pub get_inside : {A : Type 0} (xs : List A) (i : ℕ) → i < length xs → (x : A) × (slice_get xs i ≡ Some x)
get_inside [] i lt = absurd (omega (arith, lt))
get_inside (y ∷ xs) zero lt = (y, refl)
get_inside (y ∷ xs) (suc i) lt = get_inside xs i (omega (arith, lt))

pub map_set : {A B : Type 0} (f : A → B) (xs : List A) (k : ℕ) (x : A) → slice_set (map f xs) k (f x)
    ≡ map f (slice_set xs k x)
map_set f [] k x = refl
map_set f (y ∷ xs) zero x = refl
map_set f (y ∷ xs) (suc k) x = ap (λ q. f y ∷ q) (map_set f xs k x)

pub get_drop_past : (front back : List ℕ) (m : ℕ) → drop (length front + m) (front ++ back) ≡ drop m back
get_drop_past [] back m = rw zero-add refl
get_drop_past (x ∷ front) back m = let e : suc (length front) + m ≡ suc (length front + m) = omega arith
    in ap (λ n. drop n (x ∷ (front ++ back))) e ∙ get_drop_past front back m

pub behind_2 : {A : Type 0} (n : ℕ) (s : List A) → drop n (take n s) ≡ []
behind_2 zero s = refl
behind_2 (suc n) [] = refl
behind_2 (suc n) (x ∷ s) = behind_2 n s

pub get_in_front : {A : Type 0} (n left : ℕ) (s : List A) (w : A) → left < n → slice_get s left ≡ Some w → drop left
    (take n s)
    ≡ w ∷ drop (suc left) (take n s)
get_in_front zero left s w lt e = absurd (omega arith)
get_in_front (suc n) left [] w lt e = absurd cc
get_in_front (suc n) zero (x ∷ s) w lt e = ap (λ y. y ∷ take n s) (inner x w e)
  where
    inner : {A : Type 0} (x w : A) → Some x ≡ Some w → x ≡ w
    inner x w e = cc
get_in_front (suc n) (suc left) (x ∷ s) w lt e = get_in_front n left s w (omega arith) e

pub one_taken : {A : Type 0} (xs : List A) (k : ℕ) (x : A) → Some x ≡ slice_get xs k → take (k + 1) xs ≡ take k xs
    ++ x ∷ []
one_taken [] k x e = absurd (cc e)
one_taken (y ∷ xs) zero x e = let same : x ≡ y = cc e in ap (λ z. z ∷ []) (sym same)
one_taken (y ∷ xs) (suc k) x e =
    let next : suc k + 1 ≡ suc (k + 1) = omega arith in
    ap (λ n. take n (y ∷ xs)) next ∙ ap (λ zs. y ∷ zs) (one_taken xs k x e)

pub item_has : {A : Type 0} (P : A → Type 0) (xs : List A) (k : ℕ) (x : A) → All P xs → slice_get xs k ≡ Some x → P x
item_has P [] k x all e = cc
item_has P (y ∷ xs) zero x all e = let is : y ≡ x = cc in subst P is (All-head P y xs all)
item_has P (y ∷ xs) (suc k) x all e = item_has P xs k x (All-tail P y xs all) e

pub taken_length : {A : Type 0} (n : ℕ) (xs : List A) → n ≤ length xs → length (take n xs) ≡ n
taken_length zero xs h = refl
taken_length (suc n) [] h = absurd (omega arith)
taken_length (suc n) (x ∷ xs) h = ap suc (taken_length n xs (omega arith))

pub at_end : {A : Type 0} (xs : List A) (x : A) → slice_get (xs ++ x ∷ []) (length xs) ≡ Some x
at_end [] x = refl
at_end (y ∷ xs) x = at_end xs x

pub set_same : {A : Type 0} (xs : List A) (k : ℕ) (x y : A) → slice_get xs k ≡ Some y → slice_get (slice_set xs k x) k
    ≡ Some x
set_same [] k x y e = absurd (cc)
set_same (z ∷ xs) zero x y e = refl
set_same (z ∷ xs) (suc k) x y e = set_same xs k x y e

pub set_other : {A : Type 0} (xs : List A) (k j : ℕ) (x : A) → (k ≡ j → ⊥) → slice_get (slice_set xs k x) j
    ≡ slice_get xs j
set_other [] k j x differs = refl
set_other (z ∷ xs) zero zero x differs = absurd (differs refl)
set_other (z ∷ xs) zero (suc j) x differs = refl
set_other (z ∷ xs) (suc k) zero x differs = refl
set_other (z ∷ xs) (suc k) (suc j) x differs = set_other xs k j x (λ e. differs (ap suc e))

pub from_index : {A : Type 0} (xs : List A) (i : ℕ) (d : A) → i < length xs → drop i xs ≡ get_or xs i d
    ∷ drop (i + 1) xs
from_index xs i d lt = rw (add-one, drop-cons xs i d) refl

pub drop_suc : {A : Type 0} (xs : List A) (k : ℕ) (x : A) → slice_get xs k ≡ Some x → drop k xs ≡ x ∷ drop (suc k) xs
drop_suc [] k x e = cc
drop_suc (y ∷ ys) zero x e = let same : y ≡ x = cc in ap (λ z. z ∷ ys) same
drop_suc (y ∷ ys) (suc k) x e = drop_suc ys k x e

pub drop_behind : {A : Type 0} (xs : List A) (k : ℕ) → slice_get xs k ≡ None → drop k xs ≡ []
drop_behind [] zero e = refl
drop_behind [] (suc k) e = refl
drop_behind (y ∷ ys) zero e = cc
drop_behind (y ∷ ys) (suc k) e = drop_behind ys k e

pub rows_next : {A B : Type 0} (f : A → B) (row : List B) (xs : List A) (i : ℕ) (x : A) (y : B) → i < length xs
    → x ≡ get_or xs i x → y ≡ f x → row ≡ map f (take i xs) → row ++ y ∷ [] ≡ map f (take (i + 1) xs)
rows_next f row xs i x y lt is e so_far =
    ap (λ r. r ++ y ∷ []) so_far
    ∙ ap (λ z. map f (take i xs) ++ z ∷ []) (e ∙ ap f is)
    ∙ sym (map-append f (take i xs) (get_or xs i x ∷ []))
    ∙ ap (map f) (sym (take_more xs i x lt))

pub any_flat : {A B : Type 0} (p : B → Bool) (f : A → List B) (xs : List A) (k : ℕ) (x : A) → slice_get xs k ≡ Some x
    → list_any p (f x) ≡ true → list_any p (flat_map f xs) ≡ true
any_flat p f [] k x e h = cc
any_flat p f (y ∷ xs) zero x e h = let same : y ≡ x = cc in any_front p (f y) (flat_map f xs) (ap (λ z. list_any p
    (f z))
    same ∙ h)
any_flat p f (y ∷ xs) (suc k) x e h = any_right p (f y) (flat_map f xs) (any_flat p f xs k x e h)

pub any_default : {A : Type 0} (xs : List A) (k : ℕ) (d x : A) → k < length xs → get_or xs k d ≡ get_or xs k x
any_default xs k d x lt = sym (get_or_from_slice_get xs k (get_or xs k d) x (slice_get-get_or xs k d lt))

pub item_there : {A B : Type 0} (f : A → B) (xs : List A) (j : ℕ) (x : A) → slice_get xs j ≡ Some x → slice_get
    (map f xs) j
    ≡ Some (f x)
item_there f xs j x is = slice_get-map f xs j ∙ ap (option_map f) is

pub at_is : {A : Type 0} (xs ys : List A) (i : ℕ) (x y : A) → xs ≡ ys → slice_get ys i ≡ Some y → x ≡ get_or xs i x
    → x ≡ y
at_is xs ys i x y same at is =
    let there : slice_get xs i ≡ Some y = ap (λ zs. slice_get zs i) same ∙ at in
    is ∙ get_or_from_slice_get xs i y x there

pub head_at : {A : Type 0} (xs : List A) (k : ℕ) (x : A) (rest : List A) → drop k xs ≡ x ∷ rest → (slice_get xs k
    ≡ Some x)
    × (drop (k + 1) xs ≡ rest)
head_at [] zero x rest e = absurd cc
head_at [] (suc k) x rest e = absurd cc
head_at (y ∷ ys) zero x rest e = (ap Some (let f : y ≡ x = cc in f), (let f : ys ≡ rest = cc in f))
head_at (y ∷ ys) (suc k) x rest e =
    let more = head_at ys k x rest e in
    (more.0, ap (λ n. drop n (y ∷ ys)) (let e : suc k + 1 ≡ suc (k + 1) = omega arith in e) ∙ more.1)

pub mapped_at : {A B : Type 0} (f : A → B) (xs : List A) (k : ℕ) (y : B) → slice_get (map f xs) k ≡ Some y → (x : A)
    × (slice_get xs k ≡ Some x) × (f x ≡ y)
mapped_at f [] k y e = cc
mapped_at f (x ∷ xs) zero y e = (x, refl, cc)
mapped_at f (x ∷ xs) (suc k) y e = mapped_at f xs k y e

pub none_each : {A B : Type 0} (f : A → List B) (xs : List A) (k : ℕ) (x : A) → flat_map f xs ≡ [] → slice_get xs k
    ≡ Some x
    → f x ≡ []
none_each f [] k x e g = cc
none_each f (y ∷ xs) zero x e g = let is : y ≡ x = cc in ap f (sym is) ∙ none_left (f y) (flat_map f xs) e
none_each f (y ∷ xs) (suc k) x e g = none_each f xs k x (none_right (f y) (flat_map f xs) e) g
