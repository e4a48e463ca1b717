-- The flow of names is lawful, and stays among its places.
use Rattle.std.proofs.Common.{◌≡◌, ◌==◌, ◌||◌, ◌<◌, ◌≤◌, ◌⊎◌, ℕ, nat_lt, Bool, true, false, cond, IsTrue, List, [], ◌∷◌}
use Rattle.std.proofs.Common.{Option, Some, None, slice_get, length, filter, Contains, refl, sym, ◌∙◌, ap, subst, inl}
use Rattle.std.proofs.Common.{inr, arith}
use Rattle.std.proofs.Math.Dec.{eqb_refl, T}
use Rattle.std.proofs.lemmas.Bool.{eqb-true, ltb-true}
use Rattle.std.proofs.lemmas.List.Elements.{All-map, All-contains, filter_passes}
use Rattle.cjc_types.specs.Fixpoint.declared.flow.Edge.{Edge}
use Rattle.cjc_types.specs.Fixpoint.Dataflow.{IsLawful, IsJoin, StaysWithin, AreBelow}
use Rattle.cjc_tests_rules.specs.Flows.Names.{has, IsSet, IsIncluded, union, edge, place_edges, name_flow}
use Rattle.cjc_types.specs.Fixpoint.Working.Edges.{AreBelow-map}

or_cases : (a b : Bool) → IsTrue (a || b) → IsTrue a ⊎ IsTrue b
or_cases true b h = inl refl
or_cases false b h = inr h

or_left : (a b : Bool) → IsTrue a → IsTrue (a || b)
or_left true b h = refl
or_left false b h = cc

or_right : (a b : Bool) → IsTrue b → IsTrue (a || b)
or_right true b h = refl
or_right false b h = h

bool_same : (a b : Bool) → (IsTrue a → IsTrue b) → (IsTrue b → IsTrue a) → a ≡ b
bool_same true b h k = sym (h refl)
bool_same false true h k = k refl
bool_same false false h k = refl

same_name : (n : ℕ) → IsTrue (n == n)
same_name n = true_of (n == n) (eqb_refl n)
  where
    true_of : (b : Bool) → T b → IsTrue b
    true_of true h = refl
    true_of false h = absurd h

-- what a filter keeps is among the names and passes
has_kept : (p : ℕ → Bool) (names : List ℕ) (n : ℕ) → IsTrue (has (filter p names) n) → IsTrue (has names n)
    × IsTrue (p n)
has_kept p [] n h = absurd cc
has_kept p (x ∷ xs) n h = go (has_kept p xs n) (p x) refl h
  where
    go : (IsTrue (has (filter p xs) n) → IsTrue (has xs n) × IsTrue (p n)) → (b : Bool) → p x ≡ b
        → IsTrue (has (cond b (x ∷ filter p xs) (filter p xs)) n) → IsTrue ((x == n) || has xs n) × IsTrue (p n)
    go rest false e h = let m = rest h in (or_right (x == n) (has xs n) m.0, m.1)
    go rest true e h = elim (or_cases (x == n) (has (filter p xs) n) h) [
      | inl is ↦ (or_left (x == n) (has xs n) is, subst (λ (m : ℕ). IsTrue (p m)) (eqb-true x n is) e)
      | inr later ↦ let m = rest later in (or_right (x == n) (has xs n) m.0, m.1)
    ]

-- a name that passes is kept
has_passed : (p : ℕ → Bool) (names : List ℕ) (n : ℕ) → IsTrue (has names n) → IsTrue (p n)
    → IsTrue (has (filter p names) n)
has_passed p [] n h k = h
has_passed p (x ∷ xs) n h k = go (has_passed p xs n) (p x) refl (or_cases (x == n) (has xs n) h)
  where
    go : (IsTrue (has xs n) → IsTrue (p n) → IsTrue (has (filter p xs) n)) → (b : Bool) → p x ≡ b → IsTrue (x == n)
        ⊎ IsTrue (has xs n) → IsTrue (has (cond b (x ∷ filter p xs) (filter p xs)) n)
    go rest true e (inl is) = or_left (x == n) (has (filter p xs) n) is
    go rest true e (inr later) = or_right (x == n) (has (filter p xs) n) (rest later k)
    go rest false e (inl is) = let same = ap p (eqb-true x n is) in absurd cc
    go rest false e (inr later) = rest later k

-- tests that agree on the names keep the same
filter_same : (p q : ℕ → Bool) (names : List ℕ) → ((n : ℕ) → IsTrue (has names n) → p n ≡ q n)
    → filter p names ≡ filter q names
filter_same p q [] h = refl
filter_same p q (x ∷ xs) h =
    let first = h x (or_left (x == x) (has xs x) (same_name x)) in
    let rest = filter_same p q xs (λ n m. h n (or_right (x == n) (has xs n) m)) in
    cc

set_filter : (names : List ℕ) (p : ℕ → Bool) → IsSet names (filter p names)
set_filter names p =
    filter_same p (has (filter p names)) names (λ n m. bool_same (p n) (has (filter p names) n) (has_passed p names n m)
    (λ k. (has_kept p names n k).1))

set_nil : (names : List ℕ) → IsSet names []
set_nil [] = refl
set_nil (x ∷ xs) = set_nil xs

-- the names of a set are among all names
among : (names set : List ℕ) (n : ℕ) → IsSet names set → IsTrue (has set n) → IsTrue (has names n)
among names set n own h = (has_kept (has set) names n (subst (λ (zs : List ℕ). IsTrue (has zs n)) own h)).0

join_is : (names : List ℕ) (code : List (ℕ × ℕ × ℕ)) (xs ys : List ℕ) → IsSet names xs → IsSet names ys
    → IsJoin (name_flow names code) xs ys (union names xs ys)
join_is names code xs ys own_xs own_ys = record {
  own = set_filter names either;
  above_left = λ n h. has_passed either names n (among names xs n own_xs h) (or_left (has xs n) (has ys n) h);
  above_right = λ n h. has_passed either names n (among names ys n own_ys h) (or_right (has xs n) (has ys n) h);
  least = λ zs own_zs left right n h. elim (or_cases (has xs n) (has ys n) (has_kept either names n h).1) [
    | inl is ↦ left n is
    | inr is ↦ right n is
  ];
}
  where
    either : ℕ → Bool
    either n = has xs n || has ys n

union_up : (names zs xs ys : List ℕ) → IsIncluded xs ys → IsIncluded (union names zs xs) (union names zs ys)
union_up names zs xs ys h n k =
    let m = has_kept (λ n. has zs n || has xs n) names n k in
    has_passed (λ n. has zs n || has ys n) names n m.0 (elim (or_cases (has zs n) (has xs n) m.1) [
      | inl is ↦ or_left (has zs n) (has ys n) is
      | inr is ↦ or_right (has zs n) (has ys n) (h n is)
    ])

-- ---- edges

no_edge : (e : Edge (List ℕ)) → Contains [] e → ⊥
no_edge e (k, lt, is) = omega arith

place_own : (names : List ℕ) (places : ℕ) (place : Option (ℕ × ℕ × ℕ)) (set : List ℕ) (e : Edge (List ℕ))
    → Contains (place_edges names places place set) e → IsSet names e.state
place_own names places None set e is = absurd (no_edge e is)
place_own names places (Some (name, left, right)) set e is =
    All-contains (λ e. IsSet names e.state) _ e
    (All-map (λ e. IsSet names e.state) (edge (union names (name ∷ []) set)) (filter (λ to. nat_lt to places) (left
    ∷ right ∷ [])) (λ k d lt. set_filter names (λ n. has (name ∷ []) n || has set n))) is

place_up : (names : List ℕ) (code : List (ℕ × ℕ × ℕ)) (place : Option (ℕ × ℕ × ℕ)) (xs ys : List ℕ) → IsIncluded xs ys
    → AreBelow (name_flow names code) (place_edges names (length code) place xs) (place_edges names (length code) place
    ys)
place_up names code None xs ys h = λ e is. absurd (no_edge e is)
place_up names code (Some (name, left, right)) xs ys h =
    AreBelow-map (name_flow names code) (edge (union names (name ∷ []) xs)) (edge (union names (name ∷ []) ys))
    (filter (λ to. nat_lt to (length code)) (left ∷ right ∷ [])) (λ to. refl) (λ to. union_up names (name ∷ []) xs
    ys h)

place_inside : (names : List ℕ) (places : ℕ) (place : Option (ℕ × ℕ × ℕ)) (set : List ℕ) (e : Edge (List ℕ))
    → Contains (place_edges names places place set) e → e.to < places
place_inside names places None set e is = absurd (no_edge e is)
place_inside names places (Some (name, left, right)) set e is =
    ltb-true e.to places (All-contains (λ e. nat_lt e.to places ≡ true) _ e
    (All-map (λ e. nat_lt e.to places ≡ true) (edge (union names (name ∷ []) set)) (filter (λ to. nat_lt to places)
    (left ∷ right ∷ [])) (filter_passes (λ to. nat_lt to places) (left ∷ right ∷ []))) is)

-- ---- ranks

length_up : (p q : ℕ → Bool) (names : List ℕ) → ((n : ℕ) → IsTrue (p n) → IsTrue (q n))
    → length (filter p names) ≤ length (filter q names)
length_up p q [] h = omega arith
length_up p q (x ∷ xs) h = go (p x) (q x) (h x) (length_up p q xs h)
  where
    go : (a b : Bool) → (IsTrue a → IsTrue b) → length (filter p xs) ≤ length (filter q xs)
        → length (cond a (x ∷ filter p xs) (filter p xs)) ≤ length (cond b (x ∷ filter q xs) (filter q xs))
    go true true f up = omega (arith, up)
    go true false f up = let no = f refl in absurd cc
    go false true f up = omega (arith, up)
    go false false f up = up

-- a set that includes another and has no more names is the same
filter_full : (p q : ℕ → Bool) (names : List ℕ) → ((n : ℕ) → IsTrue (p n) → IsTrue (q n))
    → length (filter q names) ≤ length (filter p names) → filter q names ≡ filter p names
filter_full p q [] h k = refl
filter_full p q (x ∷ xs) h k = go (p x) (q x) (h x) (filter_full p q xs h) (length_up p q xs h) k
  where
    go : (a b : Bool) → (IsTrue a → IsTrue b) → (length (filter q xs) ≤ length (filter p xs)
        → filter q xs ≡ filter p xs) → length (filter p xs) ≤ length (filter q xs)
        → length (cond b (x ∷ filter q xs) (filter q xs)) ≤ length (cond a (x ∷ filter p xs) (filter p xs))
        → cond b (x ∷ filter q xs) (filter q xs) ≡ cond a (x ∷ filter p xs) (filter p xs)
    go true true f rest up k = ap (λ (zs : List ℕ). x ∷ zs) (rest (omega (arith, k)))
    go true false f rest up k = let no = f refl in absurd cc
    go false true f rest up k = absurd (omega (arith, up, k))
    go false false f rest up k = rest k

set_full : (names xs ys : List ℕ) → IsSet names xs → IsSet names ys → IsIncluded xs ys → length ys ≤ length xs
    → IsIncluded ys xs
set_full names xs ys own_xs own_ys h k n is =
    let lengths : length (filter (has ys) names) ≤ length (filter (has xs) names) = omega (
      arith,
      ap length own_xs,
      ap length own_ys,
      k,
    ) in
    subst (λ (zs : List ℕ). IsTrue (has zs n)) (own_ys ∙ filter_full (has xs) (has ys) names h lengths ∙ sym own_xs) is

length_small : (p : ℕ → Bool) (names : List ℕ) → length (filter p names) ≤ length names
length_small p [] = omega arith
length_small p (x ∷ xs) = go (p x) (length_small p xs)
  where
    go : (a : Bool) → length (filter p xs) ≤ length xs → length (cond a (x ∷ filter p xs) (filter p xs)) ≤ length (x
        ∷ xs)
    go true h = omega (arith, h)
    go false h = omega (arith, h)

-- the flow of names is lawful
pub name_laws : (names : List ℕ) (code : List (ℕ × ℕ × ℕ)) → IsLawful (name_flow names code)
name_laws names code = record {
  reflexive = λ x own n h. h;
  transitive = λ x y z own_x own_y own_z h k n is. k n (h n is);
  own_entry = set_nil names;
  own_edges = λ at x own e is. place_own names (length code) (slice_get code at) x e is;
  is_join = λ x y own_x own_y. join_is names code x y own_x own_y;
  monotone = λ at x y own_x own_y h. place_up names code (slice_get code at) x y h;
  rises = λ x y own_x own_y h k. set_full names x y own_x own_y h k;
  bounded = λ x own. let m = length_small (has x) names in omega (arith, ap length own, m);
}

-- no edge of the flow of names leads out of the code
pub names_stay : (names : List ℕ) (code : List (ℕ × ℕ × ℕ)) → StaysWithin (name_flow names code) (length code)
names_stay names code at x lt own e is = place_inside names (length code) (slice_get code at) x e is
