-- The tokens of the instance fields of a class: each below the number of its cells, each field's its own, and those of
-- references in one span.
use Rattle.std.proofs.Common.{◌≡◌, ℕ, zero, suc, ◌+◌, ◌<◌, ◌≤◌, refl, sym, ap, ◌∙◌, arith, Bool, true, false, List, []}
use Rattle.std.proofs.Common.{◌∷◌, take, inl, inr}
use Rattle.std.specs.Prelude.{codes, ◌&&◌, ◌==◌, ◌⊎◌, nat_le, nat_lt, cond, Some, slice_get, if◌then◌else◌}
use Rattle.std.specs.Str.{bytes_eq}
use Rattle.std.proofs.lemmas.Bool.{eqb-true}
use Rattle.std.proofs.lemmas.Bool.Decides.{nat_tests}
use Rattle.std.proofs.lemmas.List.Sums.{sum_by-cons}
use Rattle.cjc_world.specs.ClassFile.declared.tree.FieldTree.{FieldTree}
use Rattle.cjc_tokens.specs.Fields.{cells, cells_of, group, instance_cells, instance_token, is_instance, is_reference}
use Rattle.cjc_tokens.specs.Members.{is_exposed}
use Rattle.cjc_components.specs.Class.{first_reference_token, is_reference_field, reference_count}
use Rattle.cjc_bytes.proofs.Bools.{and_true}
use Rattle.cjc_bytes.proofs.Lists.{bytes_true}

-- ---- cells that pass a test

abbrev if_so : Bool → ℕ → ℕ
if_so b n = if b then n else 0

cells-cons : (p : FieldTree → Bool) (f : FieldTree) (fs : List FieldTree)
    → cells_of p (f ∷ fs) ≡ if_so (p f) (cells f) + cells_of p fs
cells-cons p f fs = sum_by-cons (λ g. if p g then cells g else 0) f fs

-- two that exclude each other have no more than one that both have
both_within : (p q r : FieldTree → Bool) → ((f : FieldTree) → p f ≡ true → (r f ≡ true) × (q f ≡ false))
    → ((f : FieldTree) → q f ≡ true → r f ≡ true) → (fs : List FieldTree)
    → cells_of p fs + cells_of q fs ≤ cells_of r fs
both_within p q r h g [] = omega arith
both_within p q r h g (f ∷ fs) =
    let a = cells-cons p f fs in
    let b = cells-cons q f fs in
    let c = cells-cons r f fs in
    let rest = both_within p q r h g fs in
    let here = by (p f) (q f) (h f) (g f) (r f) refl in
    omega (arith, a, b, c, rest, here)
  where
    by : (x y : Bool) → (x ≡ true → (r f ≡ true) × (y ≡ false)) → (y ≡ true → r f ≡ true) → (z : Bool) → r f ≡ z
        → if_so x (cells f) + if_so y (cells f) ≤ if_so z (cells f)
    by true true u v z e = let no = (u refl).1 in cc
    by true false u v true e = omega arith
    by true false u v false e = let yes_it = (u refl).0 in cc
    by false true u v true e = omega arith
    by false true u v false e = let yes_it = v refl in cc
    by false false u v true e = omega arith
    by false false u v false e = omega arith

one_within : (p r : FieldTree → Bool) → ((f : FieldTree) → p f ≡ true → r f ≡ true) → (fs : List FieldTree)
    → cells_of p fs ≤ cells_of r fs
one_within p r h fs = let e = both_within p (λ f. false) r (λ f e. (h f e, refl)) (λ f e. cc) fs in omega (arith, e)

-- a field that passes has its cells behind those before it
with_own : (p : FieldTree → Bool) (fs : List FieldTree) (i : ℕ) (f : FieldTree) → slice_get fs i ≡ Some f → p f ≡ true
    → cells_of p (take i fs) + cells f ≤ cells_of p fs
with_own p [] i f e t = cc
with_own p (g ∷ fs) zero f e t =
    let is : g ≡ f = cc in
    let a = cells-cons p g fs in
    let here : if_so (p g) (cells g) ≡ cells f = ap (λ (v : FieldTree). if_so (p v) (cells v)) is
    ∙ ap (λ b. if_so b (cells f)) t in
    omega (arith, a, here)
with_own p (g ∷ fs) (suc i) f e t =
    let a = cells-cons p g fs in
    let b = cells-cons p g (take i fs) in
    let r = with_own p fs i f e t in
    omega (arith, a, b, r)

with_later : (p : FieldTree → Bool) (fs : List FieldTree) (i j : ℕ) (f : FieldTree) → slice_get fs i ≡ Some f
    → p f ≡ true → i < j → cells_of p (take i fs) + cells f ≤ cells_of p (take j fs)
with_later p [] i j f e t lt = cc
with_later p (g ∷ fs) i zero f e t lt = absurd (omega (arith, lt))
with_later p (g ∷ fs) zero (suc j) f e t lt =
    let is : g ≡ f = cc in
    let a = cells-cons p g (take j fs) in
    let here : if_so (p g) (cells g) ≡ cells f = ap (λ (v : FieldTree). if_so (p v) (cells v)) is
    ∙ ap (λ b. if_so b (cells f)) t in
    omega (arith, a, here)
with_later p (g ∷ fs) (suc i) (suc j) f e t lt =
    let a = cells-cons p g (take i fs) in
    let b = cells-cons p g (take j fs) in
    let r = with_later p fs i j f e t (omega (arith, lt)) in
    omega (arith, a, b, r)

some_cell : (f : FieldTree) → 0 < cells f
some_cell f = by (bytes_eq f.desc (codes "I"))
  where
    by : (b : Bool) → 0 < (if b then 2 else 1)
    by true = omega arith
    by false = omega arith

-- ---- groups

abbrev before : ℕ → FieldTree → Bool
before k f = is_instance f && nat_lt (group f) k

abbrev within : ℕ → FieldTree → Bool
within k f = is_instance f && (group f == k)

in_within : (k : ℕ) (f : FieldTree) → is_instance f ≡ true → group f ≡ k → within k f ≡ true
in_within k f e g = ap (λ b. b && (group f == k)) e ∙ ap (λ n. n == k) g
    ∙ (let s : (k == k) ≡ true = grind (arith, nat_tests) in s)

-- those before a later group, and those before and within an earlier one
groups_rise : (k m : ℕ) → k < m → (fs : List FieldTree) → cells_of (before k) fs + cells_of (within k) fs ≤ cells_of
    (before m) fs
groups_rise k m lt fs =
    both_within (before k) (within k) (before m)
    (λ f e. (let r = and_true (is_instance f) (nat_lt (group f) k) e in (
      ap (λ b. b && nat_lt (group f) m) r.0
          ∙ (let t = r.1 in less f t),
      ap (λ b. b && (group f == k)) r.0 ∙ (let t = r.1 in other f t),
    )))
    (λ f e. (let r = and_true (is_instance f) (group f == k) e in ap (λ b. b && nat_lt (group f) m) r.0
    ∙ (let t = eqb-true (group f) k r.1 in at f t))) fs
  where
    less : (f : FieldTree) → nat_lt (group f) k ≡ true → nat_lt (group f) m ≡ true
    less f t = grind (arith, nat_tests, t, lt)

    other : (f : FieldTree) → nat_lt (group f) k ≡ true → (group f == k) ≡ false
    other f t = grind (arith, nat_tests, t)

    at : (f : FieldTree) → group f ≡ k → nat_lt (group f) m ≡ true
    at f t = grind (arith, nat_tests, t, lt)

all_within : (k : ℕ) (fs : List FieldTree) → cells_of (before k) fs + cells_of (within k) fs ≤ instance_cells fs
all_within k fs =
    both_within (before k) (within k) is_instance
    (λ f e. (let r = and_true (is_instance f) (nat_lt (group f) k) e in (
      r.0,
      ap (λ b. b && (group f == k)) r.0
          ∙ (let t = r.1 in other f t),
    )))
    (λ f e. (and_true (is_instance f) (group f == k) e).0) fs
  where
    other : (f : FieldTree) → nat_lt (group f) k ≡ true → (group f == k) ≡ false
    other f t = grind (arith, nat_tests, t)

-- ---- tokens

module _ (fs : List FieldTree) where
  -- each is below the number of cells
  pub token_below : (i : ℕ) (f : FieldTree) → slice_get fs i ≡ Some f → is_instance f ≡ true
      → instance_token fs i f < instance_cells fs
  unfolding instance_token
  token_below i f e t =
      let a = with_own (within (group f)) fs i f e (in_within (group f) f t refl) in
      let b = all_within (group f) fs in
      let c = some_cell f in
      omega (arith, a, b, c)

  -- an earlier field of the same group, or one of an earlier group, has a lower token
  token_rises : (i j : ℕ) (f g : FieldTree) → slice_get fs i ≡ Some f → is_instance f ≡ true → (group f < group g)
      ⊎ ((group f ≡ group g) × (i < j)) → instance_token fs i f < instance_token fs j g
  unfolding instance_token
  token_rises i j f g e t (inl lt) =
      let a = with_own (within (group f)) fs i f e (in_within (group f) f t refl) in
      let b = groups_rise (group f) (group g) lt fs in
      let c = some_cell f in
      omega (arith, a, b, c)
  token_rises i j f g e t (inr r) =
      let same = r.0 in
      let a = with_later (within (group f)) fs i j f e (in_within (group f) f t refl) r.1 in
      let b : cells_of (within (group f)) (take j fs) ≡ cells_of (within (group g)) (take j fs) =
      ap (λ k. cells_of (within k) (take j fs)) same in
      let d : cells_of (before (group f)) fs ≡ cells_of (before (group g)) fs = ap (λ k. cells_of (before k) fs) same in
      let c = some_cell f in
      omega (arith, a, b, c, d)

  -- one token is one field's
  pub token_once : (i j : ℕ) (f g : FieldTree) → slice_get fs i ≡ Some f → slice_get fs j ≡ Some g
      → is_instance f ≡ true → is_instance g ≡ true → instance_token fs i f ≡ instance_token fs j g → i ≡ j
  token_once i j f g e h t u same = by (nat_lt (group f) (group g)) (nat_lt (group g) (group f)) (nat_lt i j)
      (nat_lt j i) refl refl refl refl
    where
      by : (a b c d : Bool) → nat_lt (group f) (group g) ≡ a → nat_lt (group g) (group f) ≡ b → nat_lt i j ≡ c
          → nat_lt j i ≡ d → i ≡ j
      by true b c d k l m n = let r = token_rises i j f g e t (inl (grind (arith, nat_tests, k)))
          in absurd (omega (arith, r, same))
      by false true c d k l m n = let r = token_rises j i g f h u (inl (grind (arith, nat_tests, l)))
          in absurd (omega (arith, r, same))
      by false false true d k l m n = let r = token_rises i j f g e t (inr (
        grind (arith, nat_tests, k, l),
        grind (arith, nat_tests, m),
      )) in absurd (omega (arith, r, same))
      by false false false true k l m n = let r = token_rises j i g f h u (inr (
        grind (arith, nat_tests, k, l),
        grind (arith, nat_tests, n),
      )) in absurd (omega (arith, r, same))
      by false false false false k l m n = grind (arith, nat_tests, m, n)

  -- without instance fields there is no cell
  pub no_cells : ((i : ℕ) (f : FieldTree) → slice_get fs i ≡ Some f → is_instance f ≡ false) → instance_cells fs ≡ 0
  no_cells h = by fs h
    where
      by : (gs : List FieldTree) → ((i : ℕ) (f : FieldTree) → slice_get gs i ≡ Some f → is_instance f ≡ false)
          → cells_of is_instance gs ≡ 0
      by [] k = refl
      by (g ∷ gs) k = cells-cons is_instance g gs ∙ ap (λ b. if_so b (cells g) + cells_of is_instance gs) (k 0 g refl)
          ∙ ap (λ n. 0 + n) (by gs (λ i f e. k (suc i) f e))

-- ---- the span of references

abbrev group_of : (exposed reference : Bool) → ℕ
group_of exposed reference = if exposed then (if reference then 1 else 0) else (if reference then 2 else 3)

group_is : (f : FieldTree) → group f ≡ group_of (is_exposed f.flags) (is_reference f.desc)
group_is f = refl

reference_group : (f : FieldTree) → is_reference f.desc ≡ true → (group f ≡ 1) ⊎ (group f ≡ 2)
reference_group f e = by (is_exposed f.flags) (ap (group_of (is_exposed f.flags)) e)
  where
    by : (b : Bool) → group f ≡ group_of b true → (group f ≡ 1) ⊎ (group f ≡ 2)
    by true g = inl g
    by false g = inr g

number_group : (f : FieldTree) → is_reference f.desc ≡ false → (group f ≡ 0) ⊎ (group f ≡ 3)
number_group f e = by (is_exposed f.flags) (ap (group_of (is_exposed f.flags)) e)
  where
    by : (b : Bool) → group f ≡ group_of b false → (group f ≡ 0) ⊎ (group f ≡ 3)
    by true g = inl g
    by false g = inr g

-- a reference has one cell
one_cell : (f : FieldTree) → is_reference f.desc ≡ true → cells f ≡ 1
one_cell f e = by (bytes_eq f.desc (codes "I")) refl
  where
    two_or_one : Bool → ℕ
    two_or_one b = if b then 2 else 1

    by : (b : Bool) → bytes_eq f.desc (codes "I") ≡ b → two_or_one b ≡ 1
    by false g = refl
    by true g = let clash : is_reference (codes "I") ≡ true = ap is_reference (sym (bytes_true f.desc (codes "I") g))
        ∙ e in cc

references_counted : (fs : List FieldTree) → cells_of is_reference_field fs ≡ reference_count fs
references_counted [] = refl
references_counted (f ∷ fs) =
    cells-cons is_reference_field f fs ∙ ap (λ n. if_so (is_reference_field f) (cells f) + n) (references_counted fs)
    ∙ ap (λ n. n + reference_count fs) (by (is_reference_field f) refl)
    ∙ sym (sum_by-cons (λ (g : FieldTree). cond (is_reference_field g) 1 0) f fs)
  where
    by : (b : Bool) → is_reference_field f ≡ b → if_so b (cells f) ≡ cond b 1 0
    by true g = one_cell f (and_true (is_instance f) (is_reference f.desc) g).1
    by false g = refl

zero_group : (fs : List FieldTree) → cells_of (before 1) fs ≤ cells_of (within 0) fs
zero_group fs = one_within (before 1) (within 0) (λ f e. (let r = and_true (is_instance f) (nat_lt (group f) 1) e
    in in_within 0 f r.0 (let t = r.1 in at f t))) fs
  where
    at : (f : FieldTree) → nat_lt (group f) 1 ≡ true → group f ≡ 0
    at f t = grind (arith, nat_tests, t)

none_less : (n : ℕ) → nat_lt n 0 ≡ false
none_less n = grind (arith, nat_tests)

-- references stand in their span: behind public and protected numbers, and before other numbers
module _ (fs : List FieldTree) (i : ℕ) (f : FieldTree) (e : slice_get fs i ≡ Some f) (t : is_instance f ≡ true) where
  abbrev start : ℕ
  start = cells_of (λ g. is_instance g && group g == 0) fs

  spanned : (k : ℕ) → (group f ≡ k) → (k ≡ 1) ⊎ (k ≡ 2) → is_reference f.desc ≡ true → (start ≤ instance_token fs i f)
      × (instance_token fs i f < start + reference_count fs)
  unfolding instance_token
  spanned k g one_or_two r =
      let low = both_within (within 0) (λ v. false) (before k) (λ v h. (let q = and_true (is_instance v)
      (group v == 0) h
      in (ap (λ b. b && nat_lt (group v) k) q.0 ∙ early v (eqb-true (group v) 0 q.1), refl))) (λ v h. cc) fs in
      let a = with_own (within k) fs i f e (in_within k f t g) in
      let c = some_cell f in
      let high = three fs in
      let count = references_counted fs in
      let token : instance_token fs i f ≡ cells_of (before k) fs + cells_of (within k) (take i fs) =
      ap (λ m. cells_of (before m) fs + cells_of (within m) (take i fs)) g in
      (omega (arith, low, token), omega (arith, a, c, high, count, token))
    where
      early : (v : FieldTree) → group v ≡ 0 → nat_lt (group v) k ≡ true
      early v h = by one_or_two
        where
          by : (k ≡ 1) ⊎ (k ≡ 2) → nat_lt (group v) k ≡ true
          by (inl q) = grind (arith, nat_tests, h, q)
          by (inr q) = grind (arith, nat_tests, h, q)

      -- a field of a group up to this one is a number of the first group, or a reference
      each : (v : FieldTree) → is_instance v ≡ true → group v ≤ k → (within 0 v ≡ true) ⊎ (is_reference_field v ≡ true)
      each v h le = by (is_reference v.desc) refl
        where
          not_three : group v ≡ 3 → ⊥
          not_three q = go one_or_two
            where
              go : (k ≡ 1) ⊎ (k ≡ 2) → ⊥
              go (inl m) = omega (arith, q, m, le)
              go (inr m) = omega (arith, q, m, le)

          at : (group v ≡ 0) ⊎ (group v ≡ 3) → (within 0 v ≡ true) ⊎ (is_reference_field v ≡ true)
          at (inl q) = inl (in_within 0 v h q)
          at (inr q) = absurd (not_three q)

          by : (b : Bool) → is_reference v.desc ≡ b → (within 0 v ≡ true) ⊎ (is_reference_field v ≡ true)
          by true q = inr (ap (λ b. b && is_reference v.desc) h ∙ q)
          by false q = at (number_group v q)

      three : (gs : List FieldTree) → cells_of (before k) gs + cells_of (within k) gs ≤ cells_of (within 0) gs +
          cells_of is_reference_field gs
      three [] = omega arith
      three (v ∷ gs) =
          let x = cells-cons (before k) v gs in
          let y = cells-cons (within k) v gs in
          let z = cells-cons (within 0) v gs in
          let u = cells-cons is_reference_field v gs in
          let rest = three gs in
          let here = by (is_instance v) refl (nat_lt (group v) k) (group v == k) refl refl in
          omega (arith, x, y, z, u, rest, here)
        where
          step : (is_instance v ≡ true) → group v ≤ k → cells v ≤ if_so (within 0 v) (cells v) + if_so
              (is_reference_field v) (cells v)
          step h le = go (each v h le)
            where
              go : (within 0 v ≡ true) ⊎ (is_reference_field v ≡ true) → cells v ≤ if_so (within 0 v) (cells v) + if_so
                  (is_reference_field v) (cells v)
              go (inl q) = let s : if_so (within 0 v) (cells v) ≡ cells v = ap (λ b. if_so b (cells v)) q
                  in omega (arith, s)
              go (inr q) = let s : if_so (is_reference_field v) (cells v) ≡ cells v = ap (λ b. if_so b (cells v)) q
                  in omega (arith, s)

          by : (b : Bool) → is_instance v ≡ b → (l q : Bool) → nat_lt (group v) k ≡ l → (group v == k) ≡ q
              → if_so (b && l) (cells v) + if_so (b && q) (cells v) ≤ if_so (within 0 v) (cells v) + if_so
              (is_reference_field v) (cells v)
          by false h l q m n = omega arith
          by true h true true m n = let clash : (group v == k) ≡ false = grind (arith, nat_tests, m) in cc
          by true h true false m n = let s = step h (grind (arith, nat_tests, m)) in omega (arith, s)
          by true h false true m n = let s = step h (let j = eqb-true (group v) k n in omega (arith, j))
              in omega (arith, s)
          by true h false false m n = omega arith

  unspanned : (k : ℕ) → group f ≡ k → (k ≡ 0) ⊎ (k ≡ 3) → (instance_token fs i f < start)
      ⊎ (start + reference_count fs ≤ instance_token fs i f)
  unfolding instance_token
  unspanned k g (inl z) =
      let a = with_own (within 0) fs i f e (in_within 0 f t (g ∙ z)) in
      let c = some_cell f in
      let none : cells_of (before 0) fs ≤ cells_of (λ v. false) fs = one_within (before 0) (λ v. false)
      (λ v h. (let q = and_true (is_instance v) (nat_lt (group v) 0) h in let no = none_less (group v) in cc)) fs in
      let empty = nothing_of fs in
      let token : instance_token fs i f ≡ cells_of (before 0) fs + cells_of (within 0) (take i fs) =
      ap (λ m. cells_of (before m) fs + cells_of (within m) (take i fs)) (g ∙ z) in
      inl (omega (arith, a, c, none, empty, token))
    where
      nothing_of : (gs : List FieldTree) → cells_of (λ v. false) gs ≡ 0
      nothing_of [] = refl
      nothing_of (v ∷ gs) = cells-cons (λ u. false) v gs ∙ ap (λ n. 0 + n) (nothing_of gs)
  unspanned k g (inr z) =
      let low = both_within (within 0) is_reference_field (before 3)
      (λ v h. (let q = and_true (is_instance v) (group v == 0) h in (
        ap (λ b. b && nat_lt (group v) 3) q.0
            ∙ early v (eqb-true (group v) 0 q.1),
        ap (λ b. b && is_reference v.desc) q.0
            ∙ plain v (eqb-true (group v) 0 q.1),
      )))
      (λ v h. (let q = and_true (is_instance v) (is_reference v.desc) h in ap (λ b. b && nat_lt (group v) 3) q.0
      ∙ middle v (reference_group v q.1))) fs in
      let count = references_counted fs in
      let token : instance_token fs i f ≡ cells_of (before 3) fs + cells_of (within 3) (take i fs) =
      ap (λ m. cells_of (before m) fs + cells_of (within m) (take i fs)) (g ∙ z) in
      inr (omega (arith, low, count, token))
    where
      early : (v : FieldTree) → group v ≡ 0 → nat_lt (group v) 3 ≡ true
      early v h = grind (arith, nat_tests, h)

      middle : (v : FieldTree) → (group v ≡ 1) ⊎ (group v ≡ 2) → nat_lt (group v) 3 ≡ true
      middle v (inl h) = grind (arith, nat_tests, h)
      middle v (inr h) = grind (arith, nat_tests, h)

      plain : (v : FieldTree) → group v ≡ 0 → is_reference v.desc ≡ false
      plain v h = by (is_reference v.desc) refl
        where
          go : (group v ≡ 1) ⊎ (group v ≡ 2) → ⊥
          go (inl q) = omega (arith, q, h)
          go (inr q) = omega (arith, q, h)

          by : (b : Bool) → is_reference v.desc ≡ b → b ≡ false
          by true q = absurd (go (reference_group v q))
          by false q = refl

  -- a token is in the span of references exactly where its field is one
  pub span_is : (nat_le (first_reference_token fs) (instance_token fs i f)
      && nat_lt (instance_token fs i f) (first_reference_token fs + reference_count fs)) ≡ is_reference f.desc
  span_is = by (reference_count fs == 0) refl (is_reference f.desc) refl
    where
      token : ℕ
      token = instance_token fs i f

      test : ℕ → Bool
      test first = nat_le first token && nat_lt token (first + reference_count fs)

      counted : is_reference f.desc ≡ true → 0 < reference_count fs
      counted r =
          let a = with_own is_reference_field fs i f e (ap (λ b. b && is_reference f.desc) t ∙ r) in
          let c = some_cell f in
          let count = references_counted fs in
          omega (arith, a, c, count)

      inside : (first : ℕ) → (first ≤ token) × (token < first + reference_count fs) → test first ≡ true
      inside first r = let a = r.0 in let b = r.1 in grind (arith, nat_tests, a, b)

      outside : (first : ℕ) → (token < first) ⊎ (first + reference_count fs ≤ token) → test first ≡ false
      outside first (inl a) = grind (arith, nat_tests, a)
      outside first (inr a) = grind (arith, nat_tests, a)

      empty : (first : ℕ) → reference_count fs ≡ 0 → test first ≡ false
      empty first z = by' (nat_le first token) (nat_lt token (first + reference_count fs)) refl refl
        where
          by' : (a b : Bool) → nat_le first token ≡ a → nat_lt token (first + reference_count fs) ≡ b → (a && b) ≡ false
          by' true true g h = let le : first ≤ token = grind (arith, nat_tests, g)
              in let lt : token < first + reference_count fs = grind (arith, nat_tests, h)
              in absurd (omega (arith, le, lt, z))
          by' true false g h = refl
          by' false b g h = refl

      in_span : is_reference f.desc ≡ true → (group f ≡ 1) ⊎ (group f ≡ 2) → (start ≤ token)
          × (token < start + reference_count fs)
      in_span r (inl g) = spanned 1 g (inl refl) r
      in_span r (inr g) = spanned 2 g (inr refl) r

      out_of_span : (group f ≡ 0) ⊎ (group f ≡ 3) → (token < start) ⊎ (start + reference_count fs ≤ token)
      out_of_span (inl g) = unspanned 0 g (inl refl)
      out_of_span (inr g) = unspanned 3 g (inr refl)

      by : (none : Bool) → (reference_count fs == 0) ≡ none → (r : Bool) → is_reference f.desc ≡ r
          → test (if none then 0xFF else start) ≡ r
      by true n true r = let z = eqb-true (reference_count fs) 0 n in let some = counted r
          in absurd (omega (arith, z, some))
      by true n false r = empty 0xFF (eqb-true (reference_count fs) 0 n)
      by false n true r = inside start (in_span r (reference_group f r))
      by false n false r = outside start (out_of_span (number_group f r))
