-- The first of several lists of breaks.
use Rattle.std.proofs.Common.{◌≡◌, ℕ, zero, suc, ◌<◌, ◌≤◌, ◌+◌, refl, sym, ap, subst, ◌∙◌, arith, Bool, true, false}
use Rattle.std.proofs.Common.{List, [], ◌∷◌, ◌++◌, length, get_or, take, append_assoc, add-one, inl, inr, ⊎_elim}
use Rattle.std.proofs.lemmas.Nat.{le-div, div_below}
use Rattle.std.specs.Prelude.{◌⊎◌, ◌*◌, ◌/◌, ◌==◌, ◌&&◌, ◌||◌, nat_lt, Option, Some, None}
use Rattle.std.proofs.lemmas.Grind.{common_steps}
use Rattle.std.proofs.lemmas.Bool.Decides.{nat_tests}
use Rattle.cjc_bytes.specs.Order.{numbers, AreUpTo}
use Rattle.cjc_bytes.specs.Breaks.{Break, RulePlace, Among, foremost, after, IsFirst, IsFirstOf, broken_at, at}
use Rattle.cjc_bytes.specs.Breaks.{each_from}
use Rattle.cjc_bytes.specs.Working.Ranks.{is_up_to}
use Rattle.cjc_bytes.proofs.BrokenRules.{among_left, among_right}

-- ---- the order of two ranks

pub upto_refl : (xs : List ℕ) → AreUpTo xs xs
upto_refl [] = tt
upto_refl (x ∷ xs) = inr (refl, upto_refl xs)

pub upto_trans : (xs ys zs : List ℕ) → AreUpTo xs ys → AreUpTo ys zs → AreUpTo xs zs
upto_trans [] ys zs p q = tt
upto_trans (x ∷ xs) [] zs p q = absurd p
upto_trans (x ∷ xs) (y ∷ ys) [] p q = absurd q
upto_trans (x ∷ xs) (y ∷ ys) (z ∷ zs) p q =
    ⊎_elim
    (λ l. ⊎_elim (λ m. inl (omega (arith, l, m))) (λ m. inl (let e = m.0 in omega (arith, l, e))) q)
    (λ l. ⊎_elim (λ m. inl (let e = l.0 in omega (arith, m, e))) (λ m. inr (l.0 ∙ m.0, upto_trans xs ys zs l.1 m.1)) q)
    p

lt_or : (x y : ℕ) (b : Bool) → (nat_lt x y || b) ≡ true → (x < y) ⊎ (b ≡ true)
lt_or x y b e = grind (arith, nat_tests)

eq_and : (x y : ℕ) (b : Bool) → ((x == y) && b) ≡ true → (x ≡ y) × (b ≡ true)
eq_and x y b e = (grind (arith, nat_tests), grind (arith, nat_tests))

lt_nor : (x y : ℕ) (b : Bool) → (nat_lt x y || ((x == y) && b)) ≡ false → (y < x) ⊎ ((y ≡ x) × (b ≡ false))
lt_nor x y b e = by (nat_lt y x) (λ h. grind (arith, nat_tests)) (λ h. (
  grind (arith, nat_tests),
  grind (arith, nat_tests),
))
  where
    by : (t : Bool) → (t ≡ true → y < x) → (t ≡ false → (y ≡ x) × (b ≡ false)) → (y < x) ⊎ ((y ≡ x) × (b ≡ false))
    by true p q = inl (p refl)
    by false p q = inr (q refl)

pub up_to : (xs ys : List ℕ) → is_up_to xs ys ≡ true → AreUpTo xs ys
up_to [] ys e = tt
up_to (x ∷ xs) [] e = absurd (cc)
up_to (x ∷ xs) (y ∷ ys) e = ⊎_elim (λ l. inl l) (λ h. let p = eq_and x y (is_up_to xs ys) h
    in inr (p.0, up_to xs ys p.1)) (lt_or x y ((x == y) && is_up_to xs ys) e)

pub not_up_to : (xs ys : List ℕ) → is_up_to xs ys ≡ false → AreUpTo ys xs
not_up_to [] ys e = absurd (cc)
not_up_to (x ∷ xs) [] e = tt
not_up_to (x ∷ xs) (y ∷ ys) e = ⊎_elim (λ l. inl l) (λ h. inr (h.0, not_up_to xs ys h.1)) (lt_nor x y (is_up_to xs ys)
    e)

-- the hundreds digit of a rule
pub hundred : (h r : ℕ) → h * 100 ≤ r → r < h * 100 + 100 → r / 100 ≡ h
hundred h r l u =
    let low = le-div h r 100 (omega arith) l in
    let high = div_below r 100 (h + 1) (omega arith) (omega (arith, u)) in
    omega (arith, low, high)

-- ---- one break

pub among_one : (a b : Break) → Among a (b ∷ []) → a ≡ b
among_one a b foremost = refl
among_one a b (after i) = elim i [ ]

pub first_of_one : (b : Break) → IsFirst b (b ∷ [])
first_of_one b = record {
  among = foremost;
  least = λ a i. subst (λ (v : Break). AreUpTo (numbers b.rank) (numbers v.rank)) (sym (among_one a b i))
      (upto_refl (numbers b.rank));
}

pub at_true : (b : Bool) (s : RulePlace) (rule : ℕ) → b ≡ true → IsFirstOf (at b s rule) (Some (broken_at s rule))
at_true b s rule e = subst (λ (v : Bool). IsFirst (broken_at s rule) (at v s rule)) (sym e)
    (first_of_one (broken_at s rule))

-- the same test at the same place
pub at_same : {b b' : Bool} {s s' : RulePlace} (rule : ℕ) (o : Option Break) → b ≡ b' → s ≡ s'
    → IsFirstOf (at b s rule) o → IsFirstOf (at b' s' rule) o
at_same {b} {b'} {s} {s'} rule o e f h =
    subst (λ (v : RulePlace). IsFirstOf (at b' v rule) o) f (subst (λ (v : Bool). IsFirstOf (at v s rule) o) e h)

-- ---- two lists

pub among_either : (b : Break) (xs ys : List Break) → Among b (xs ++ ys) → Among b xs ⊎ Among b ys
among_either b [] ys i = inr i
among_either b (x ∷ xs) ys foremost = inl foremost
among_either b (x ∷ xs) ys (after i) = ⊎_elim (λ h. inl (after h)) (λ h. inr h) (among_either b xs ys i)

pub first_left : (a b : Break) (xs ys : List Break) → IsFirst a xs → IsFirst b ys
    → AreUpTo (numbers a.rank) (numbers b.rank) → IsFirst a (xs ++ ys)
first_left a b xs ys f g l = record {
  among = among_left a xs ys f.among;
  least = λ o i. ⊎_elim (λ h. f.least o h) (λ h. upto_trans (numbers a.rank) (numbers b.rank) (numbers o.rank) l
      (g.least o h)) (among_either o xs ys i);
}

pub first_right : (a b : Break) (xs ys : List Break) → IsFirst a xs → IsFirst b ys
    → AreUpTo (numbers b.rank) (numbers a.rank) → IsFirst b (xs ++ ys)
first_right a b xs ys f g l = record {
  among = among_right b xs ys g.among;
  least = λ o i. ⊎_elim (λ h. upto_trans (numbers b.rank) (numbers a.rank) (numbers o.rank) l (f.least o h))
      (λ h. g.least o h) (among_either o xs ys i);
}

pub left_first : (a b : Break) → is_up_to (numbers a.rank) (numbers b.rank) ≡ true → {o p : Option Break} → o ≡ Some a
    → p ≡ Some b → (xs ys : List Break) → IsFirstOf xs o → IsFirstOf ys p → IsFirstOf (xs ++ ys) o
left_first a b e {o} {p} is is' xs ys f g =
    subst (λ (v : Option Break). IsFirstOf (xs ++ ys) v) (sym is)
    (first_left a b xs ys (subst (λ (v : Option Break). IsFirstOf xs v) is f)
    (subst (λ (v : Option Break). IsFirstOf ys v) is' g) (up_to (numbers a.rank) (numbers b.rank) e))

pub right_first : (a b : Break) → is_up_to (numbers a.rank) (numbers b.rank) ≡ false → {o p : Option Break} → o ≡ Some a
    → p ≡ Some b → (xs ys : List Break) → IsFirstOf xs o → IsFirstOf ys p → IsFirstOf (xs ++ ys) p
right_first a b e {o} {p} is is' xs ys f g =
    subst (λ (v : Option Break). IsFirstOf (xs ++ ys) v) (sym is')
    (first_right a b xs ys (subst (λ (v : Option Break). IsFirstOf xs v) is f)
    (subst (λ (v : Option Break). IsFirstOf ys v) is' g) (not_up_to (numbers a.rank) (numbers b.rank) e))

pub left_empty : (xs ys : List Break) (o : Option Break) → IsFirstOf xs None → IsFirstOf ys o → IsFirstOf (xs ++ ys) o
left_empty xs ys o e g = subst (λ (v : List Break). IsFirstOf (v ++ ys) o) (sym e) g

append_empty : (xs : List Break) → xs ++ [] ≡ xs
append_empty [] = refl
append_empty (x ∷ xs) = ap (λ (v : List Break). x ∷ v) (append_empty xs)

pub right_empty : (xs ys : List Break) (o : Option Break) → IsFirstOf xs o → IsFirstOf ys None → IsFirstOf (xs ++ ys) o
right_empty xs ys o f e = subst (λ (v : List Break). IsFirstOf (xs ++ v) o) (sym e)
    (subst (λ (v : List Break). IsFirstOf v o) (sym (append_empty xs)) f)

-- ---- one after the other

module _ {A : Type 0} (f : ℕ → A → List Break) where
  front : (n i : ℕ) (xs : List A) (x : A) → i < length xs → get_or xs i x ≡ x → each_from f n (take (suc i) xs)
      ≡ each_from f n (take i xs) ++ f (n + i) x
  unfolding each_from
  front n i [] x l e = absurd (omega arith)
  front n zero (y ∷ xs) x l e = append_empty (f n y) ∙ ap (f n) e
      ∙ ap (λ (m : ℕ). f m x) (let s : n ≡ n + 0 = omega arith in s)
  front n (suc i) (y ∷ xs) x l e =
      ap (λ (v : List Break). f n y ++ v) (front (n + 1) i xs x (omega arith) e)
      ∙ sym (append_assoc (f n y) (each_from f (n + 1) (take i xs)) (f (n + 1 + i) x))
      ∙ ap (λ (m : ℕ). f n y ++ each_from f (n + 1) (take i xs) ++ f m x) (let s : n + 1 + i ≡ n + suc i = omega arith
      in s)

  -- the first so many and one more
  pub each_more : (i : ℕ) (xs : List A) (x : A) (o : Option Break) → i < length xs → x ≡ get_or xs i x
      → IsFirstOf (each_from f 0 (take i xs) ++ f i x) o → IsFirstOf (each_from f 0 (take (i + 1) xs)) o
  each_more i xs x o l e h =
      let next = front 0 i xs x l (sym e) ∙ ap (λ (m : ℕ). each_from f 0 (take i xs) ++ f m x) (let s : 0 + i
      ≡ i = omega arith in s) in
      subst (λ (m : ℕ). IsFirstOf (each_from f 0 (take m xs)) o) (sym (add-one i))
      (subst (λ (v : List Break). IsFirstOf v o) (sym next) h)

  pub each_none : (xs : List A) → IsFirstOf (each_from f 0 (take 0 xs)) None
  unfolding each_from
  each_none xs = refl

  pub each_all : (i : ℕ) (xs : List A) (o : Option Break) → length xs ≤ i → IsFirstOf (each_from f 0 (take i xs)) o
      → IsFirstOf (each_from f 0 xs) o
  each_all i xs o l h = let e : take i xs ≡ xs = grind (arith, common_steps)
      in subst (λ (v : List A). IsFirstOf (each_from f 0 v) o) e h
