-- A superclass of the package stands before its subclasses.
use Rattle.std.proofs.Common.{◌≡◌, ℕ, zero, suc, ◌<◌, ◌==◌, refl, sym, ap, subst, ◌∙◌, arith, Bool, true, false, List}
use Rattle.std.proofs.Common.{[], ◌∷◌, ◌++◌, length, inl, inr, ⊎_elim}
use Rattle.std.specs.Prelude.{not, ◌&&◌, ◌||◌, ◌⊎◌, Option, Some, None, slice_get, if◌then◌else◌}
use Rattle.std.specs.List.{list_any}
use Rattle.std.proofs.lemmas.Bool.{eqb-true}
use Rattle.cjc_world.specs.Classes.{Class, class_named}
use Rattle.cjc_world.specs.Supertypes.{Lists, foremost, after}
use Rattle.cjc_world.specs.Order.{is_in, is_of_kind, waits, names_waiting, may_stand, next, and_then, lined_up}
use Rattle.cjc_world.specs.Order.{in_order}

-- ---- what stands next waits for none of its supers

pub next_stands : (w : List Class) (i : Bool) (placed : List ℕ) (cs : List Class) (c : Class) → next w i placed cs
    ≡ Some c
    → may_stand w i placed c ≡ true
unfolding next
next_stands w i placed [] c e = absurd (cc)
next_stands w i placed (d ∷ cs) c e = by (may_stand w i placed d) refl e (next_stands w i placed cs c)
  where
    by : (b : Bool) → may_stand w i placed d ≡ b → (if b then Some d else next w i placed cs) ≡ Some c
        → (next w i placed cs ≡ Some c → may_stand w i placed c ≡ true) → may_stand w i placed c ≡ true
    by true f g rest = let is : d ≡ c = cc in subst (λ (q : Class). may_stand w i placed q ≡ true) is f
    by false f g rest = rest g

none_of : (test : List ℕ → Bool) (xs : List (List ℕ)) (y : List ℕ) → list_any test xs ≡ false → Lists y xs
    → test y ≡ false
none_of test [] y e l = elim l [ ]
none_of test (x ∷ xs) y e foremost = by (test y) e
  where
    by : (b : Bool) → (b || list_any test xs) ≡ false → b ≡ false
    by true f = absurd (cc)
    by false f = refl
none_of test (x ∷ xs) y e (after l) = none_of test xs y (by (test x) e) l
  where
    by : (b : Bool) → (b || list_any test xs) ≡ false → list_any test xs ≡ false
    by true f = absurd (cc)
    by false f = f

super_placed : (w : List Class) (i : Bool) (placed : List ℕ) (c d : Class) (y : List ℕ) → may_stand w i placed c ≡ true
    → Lists y c.supers → class_named w y ≡ Some d → d.is_imported ≡ false → is_of_kind i d ≡ true
    → is_in placed d.number ≡ true
unfolding may_stand
super_placed w i placed c d y stands l named own kind =
    let quiet = free (waits i placed c) (list_any (λ x. names_waiting i placed (class_named w x)) c.supers)
    (list_any (λ x. names_waiting i placed (class_named w x)) c.interfaces) stands in
    let off : names_waiting i placed (class_named w y) ≡ false = none_of (λ x. names_waiting i placed (class_named w x))
    c.supers y quiet l in
    let here : waits i placed d ≡ false = ap (names_waiting i placed) (sym named) ∙ off in
    placed_by d.is_imported (is_of_kind i d) (is_in placed d.number) own kind here
  where
    free : (a b e : Bool) → (a && not (b || e)) ≡ true → b ≡ false
    free true false e f = refl
    free true true e f = absurd (cc)
    free false b e f = absurd (cc)

    placed_by : (a b e : Bool) → a ≡ false → b ≡ true → (not a && b && not e) ≡ false → e ≡ true
    placed_by false true true f g h = refl
    placed_by false true false f g h = absurd (cc)
    placed_by true b e f g h = absurd (cc)
    placed_by false false e f g h = absurd (cc)

-- ---- in the line

in_more : (placed : List ℕ) (k n : ℕ) → is_in (placed ++ k ∷ []) n ≡ true → (is_in placed n ≡ true) ⊎ ((k == n) ≡ true)
in_more [] k n e = by (k == n) e
  where
    by : (b : Bool) → (b || false) ≡ true → (false ≡ true) ⊎ (b ≡ true)
    by true f = inr refl
    by false f = absurd (cc)
in_more (j ∷ placed) k n e = by (j == n) e (in_more placed k n)
  where
    by : (b : Bool) → (b || is_in (placed ++ k ∷ []) n) ≡ true → (is_in (placed ++ k ∷ []) n ≡ true
        → (is_in placed n ≡ true) ⊎ ((k == n) ≡ true)) → ((b || is_in placed n) ≡ true) ⊎ ((k == n) ≡ true)
    by true f rest = inl refl
    by false f rest = rest f

module _ (w : List Class) (i : Bool) (d : Class) (y : List ℕ) (named : class_named w y ≡ Some d) (own : d.is_imported
    ≡ false) (kind : is_of_kind i d ≡ true) where
  -- one of this number stands before the place
  IsBefore : List Class → ℕ → Type 0
  IsBefore cs k = (j : ℕ) × (e : Class) × (j < k) × (slice_get cs j ≡ Some e) × (e.number ≡ d.number)

  later : (c : Class) (cs : List Class) (k : ℕ) → IsBefore cs k → IsBefore (c ∷ cs) (suc k)
  unfolding IsBefore
  later c cs k r = let lt = r.2 in (suc r.0, r.1, omega (arith, lt), r.3, r.4)

  lined_before : (n : ℕ) (placed : List ℕ) (k : ℕ) (c : Class) → slice_get (lined_up w i n placed) k ≡ Some c
      → Lists y c.supers → (is_in placed d.number ≡ true) ⊎ IsBefore (lined_up w i n placed) k
  unfolding lined_up IsBefore
  lined_before zero placed k c e l = absurd (cc)
  lined_before (suc n) placed k c e l = by (next w i placed w) refl k e (λ q j f. lined_before n q j c f l)
    where
      Rest : Type 0
      Rest = (q : List ℕ) (j : ℕ) → slice_get (lined_up w i n q) j ≡ Some c → (is_in q d.number ≡ true)
          ⊎ IsBefore (lined_up w i n q) j

      by : (o : Option Class) → next w i placed w ≡ o → (k : ℕ)
          → slice_get (and_then o (λ b. lined_up w i n (placed ++ b.number ∷ []))) k ≡ Some c → Rest
          → (is_in placed d.number ≡ true) ⊎ IsBefore (and_then o (λ b. lined_up w i n (placed ++ b.number ∷ []))) k
      by None f k g rest = absurd (cc)
      by (Some b) f zero g rest =
          let is : b ≡ c = cc in
          inl (super_placed w i placed c d y (subst (λ (q : Class). may_stand w i placed q ≡ true) is
          (next_stands w i placed w b f)) l named own kind)
      by (Some b) f (suc k) g rest = ⊎_elim
          (λ h. ⊎_elim (λ p. inl p) (λ p. inr (0, b, omega arith, refl, eqb-true b.number d.number p))
          (in_more placed b.number d.number h))
          (λ h. inr (later b (lined_up w i n (placed ++ b.number ∷ [])) k h))
          (rest (placed ++ b.number ∷ []) k g)

  -- the class of the number of a super stands earlier
  pub super_before : (k : ℕ) (c : Class) → slice_get (in_order w i) k ≡ Some c → Lists y c.supers → (j : ℕ)
      × (e : Class) × (j < k) × (slice_get (in_order w i) j ≡ Some e) × (e.number ≡ d.number)
  unfolding in_order IsBefore
  super_before k c e l = ⊎_elim (λ h. absurd (cc)) (λ r. r) (lined_before (length w) [] k c e l)
