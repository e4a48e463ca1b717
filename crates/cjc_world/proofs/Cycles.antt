-- One class stands above another exactly where its name stands in the tree, in any world.
use Rattle.std.proofs.Common.{◌≡◌, ℕ, zero, suc, ◌≤◌, refl, sym, ap, subst, ◌∙◌, arith, Bool, true, false, List, []}
use Rattle.std.proofs.Common.{◌∷◌, ◌++◌, length, inl, inr, ⊎_elim}
use Rattle.std.specs.Prelude.{◌||◌, ◌⊎◌, Option, Some, None, if◌then◌else◌}
use Rattle.std.specs.Str.{bytes_eq}
use Rattle.std.proofs.lemmas.Bool.{or_left, or_right}
use Rattle.cjc_world.specs.Classes.{Class, class_named}
use Rattle.cjc_world.specs.Supertypes.{Supertypes, known_as, in_a_row, supertypes_within, supertypes, Lists, foremost}
use Rattle.cjc_world.specs.Supertypes.{after, Above, directly, onwards, stands, above_of, stands_above}
use Rattle.cjc_world.specs.Supertypes.{StandsWhereAbove}
use Rattle.cjc_world.proofs.Settled.{is_left, without, without-less, without-left, none_left}
use Rattle.cjc_world.proofs.Settled.{lists-front, lists-behind, names, names-length, named-left}
use Rattle.cjc_bytes.proofs.Lists.{name_is, bytes_true}
use Rattle.cjc_bytes.proofs.Bools.{or_cases}

pub class_named-name : (w : List Class) (x : List ℕ) (c : Class) → class_named w x ≡ Some c → c.name ≡ x
unfolding class_named supertypes_within supertypes stands_above
class_named-name [] x c e = cc
class_named-name (d ∷ w) x c e = by (bytes_eq d.name x) refl e (class_named-name w x c)
  where
    by : (b : Bool) → bytes_eq d.name x ≡ b → (if b then Some d else class_named w x) ≡ Some c
        → (class_named w x ≡ Some c → c.name ≡ x) → c.name ≡ x
    by true f e rest = let is : d ≡ c = cc in ap (λ q. q.name) (sym is) ∙ bytes_true d.name x f
    by false f e rest = rest e

module _ (w : List Class) where
  -- ---- what stands in the tree stands above

  unfoldable pub From : List ℕ → List (List ℕ) → Type 0
  From y xs = (z : List ℕ) × Lists z xs × ((z ≡ y) ⊎ Above w z y)

  pub tree-above : (n : ℕ) (y : List ℕ) (xs : List (List ℕ)) → stands y (supertypes_within w n xs) ≡ true → From y xs
  unfolding From class_named supertypes_within supertypes stands_above
  tree-above zero y xs e = cc
  tree-above (suc n) y xs e = row xs e (tree-above n y)
    where
      node : (x : List ℕ) (xs : List (List ℕ)) (next : Supertypes) (o : Option Class) → class_named w x ≡ o
          → stands y (known_as (supertypes_within w n) x o next) ≡ true
          → ((ys : List (List ℕ)) → stands y (supertypes_within w n ys) ≡ true → (z : List ℕ) × Lists z ys
          × ((z ≡ y) ⊎ Above w z y)) → ((x ≡ y) ⊎ Above w x y) ⊎ (stands y next ≡ true)
      node x xs next None f e rec = ⊎_elim (λ h. inl (inl (bytes_true x y h))) (λ h. inr h) (or_cases (bytes_eq x y)
          (stands y next) e)
      node x xs next (Some c) f e rec = ⊎_elim
          (λ h. inl (inl (sym (class_named-name w x c f) ∙ bytes_true c.name y h)))
          (λ h. ⊎_elim
          (λ g. inl (inr (up (rec c.supers g).0 (lists-front (rec c.supers g).0 c.supers c.interfaces
          (rec c.supers g).1) (rec c.supers g).2)))
          (λ g. ⊎_elim
          (λ k. inl (inr (up (rec c.interfaces k).0 (lists-behind (rec c.interfaces k).0 c.supers c.interfaces
          (rec c.interfaces k).1) (rec c.interfaces k).2)))
          (λ k. inr k)
          (or_cases (stands y (supertypes_within w n c.interfaces)) (stands y next) g))
          (or_cases (stands y (supertypes_within w n c.supers)) (stands y (supertypes_within w n c.interfaces)
          || stands y next) h))
          (or_cases (bytes_eq c.name y) (stands y (supertypes_within w n c.supers)
          || (stands y (supertypes_within w n c.interfaces) || stands y next)) (regroup (bytes_eq c.name y)
          (stands y (supertypes_within w n c.supers)) (stands y (supertypes_within w n c.interfaces))
          (stands y next) e))
        where
          up : (z : List ℕ) → Lists z (c.supers ++ c.interfaces) → (z ≡ y) ⊎ Above w z y → Above w x y
          up z i way = ⊎_elim (λ is. directly c f (subst (λ q. Lists q (c.supers ++ c.interfaces)) is i))
              (λ far. onwards c f i far) way

          regroup : (a b c d : Bool) → (((a || b) || c) || d) ≡ true → (a || (b || (c || d))) ≡ true
          regroup true b c d e = refl
          regroup false true c d e = refl
          regroup false false c d e = e

      row : (xs : List (List ℕ)) → stands y (in_a_row w (supertypes_within w n) xs) ≡ true → ((ys : List (List ℕ))
          → stands y (supertypes_within w n ys) ≡ true → (z : List ℕ) × Lists z ys × ((z ≡ y) ⊎ Above w z y))
          → (z : List ℕ) × Lists z xs × ((z ≡ y) ⊎ Above w z y)
      row [] e rec = cc
      row (x ∷ xs) e rec = ⊎_elim
          (λ h. (x, foremost, h))
          (λ h. let r = row xs h rec in (r.0, after r.1, r.2))
          (node x xs (in_a_row w (supertypes_within w n) xs) (class_named w x) refl e rec)

  -- ---- what stands above stands in the tree: a way that comes back to a class can be cut short

  pub data Through (left : List (List ℕ)) : List ℕ → List ℕ → Type 0 where
    step : {x y : List ℕ} (c : Class) → class_named w x ≡ Some c → is_left left x ≡ true
        → Lists y (c.supers ++ c.interfaces) → Through left x y
    steps : {x y z : List ℕ} (c : Class) → class_named w x ≡ Some c → is_left left x ≡ true
        → Lists z (c.supers ++ c.interfaces) → Through left z y → Through left x y

  pub above-through : {x y : List ℕ} → Above w x y → Through (names w) x y
  unfolding class_named supertypes_within supertypes stands_above
  above-through {x} {y} (directly c e i) = step c e (named-left w x c e) i
  above-through {x} {y} (onwards c e i rest) = steps c e (named-left w x c e) i (above-through rest)

  -- from x the way goes on without x
  Leaves : List (List ℕ) → List ℕ → List ℕ → Type 0
  Leaves left x y = (c : Class) × (class_named w x ≡ Some c) × (is_left left x ≡ true)
      × ((z : List ℕ) × Lists z (c.supers ++ c.interfaces) × ((z ≡ y) ⊎ Through (without x left) z y))

  avoid : (left : List (List ℕ)) (x z y : List ℕ) → Through left z y → Through (without x left) z y ⊎ Leaves left x y
  unfolding Leaves class_named supertypes_within supertypes stands_above
  avoid left x z y (step c e l i) = by (bytes_eq x z) refl
    where
      by : (b : Bool) → bytes_eq x z ≡ b → Through (without x left) z y ⊎ Leaves left x y
      by true f = let is = bytes_true x z f in inr (
        c,
        ap (class_named w) is ∙ e,
        ap (is_left left) is
            ∙ l,
        (y, i, inl refl),
      )
      by false f = inl (step c e (without-left x z left f l) i)
  avoid left x z y (steps {z = v} c e l i rest) = by (bytes_eq x z) refl (avoid left x v y rest)
    where
      by : (b : Bool) → bytes_eq x z ≡ b → Through (without x left) v y ⊎ Leaves left x y → Through (without x left) z y
          ⊎ Leaves left x y
      by b f (inr r) = inr r
      by true f (inl r) = let is = bytes_true x z f in inr (
        c,
        ap (class_named w) is ∙ e,
        ap (is_left left) is
            ∙ l,
        (v, i, inr r),
      )
      by false f (inl r) = inl (steps c e (without-left x z left f l) i r)

  gone : (x : List ℕ) (left : List (List ℕ)) → is_left (without x left) x ≡ true → ⊥
  unfolding is_left without class_named supertypes_within supertypes stands_above
  gone x [] e = cc
  gone x (y ∷ left) e = by (bytes_eq y x) refl e (gone x left)
    where
      by : (b : Bool) → bytes_eq y x ≡ b → is_left (if b then without x left else y ∷ without x left) x ≡ true
          → (is_left (without x left) x ≡ true → ⊥) → ⊥
      by true f e rest = rest e
      by false f e rest = rest (ap (λ q. q || is_left (without x left) x) (sym f) ∙ e)

  through-class : (left : List (List ℕ)) (x y : List ℕ) → Through left x y → (c : Class) × (class_named w x ≡ Some c)
      × (is_left left x ≡ true)
  unfolding class_named supertypes_within supertypes stands_above
  through-class left x y (step c e l i) = (c, e, l)
  through-class left x y (steps c e l i rest) = (c, e, l)

  -- a node of a row
  stands-row : (n : ℕ) (y z : List ℕ) (xs : List (List ℕ)) → Lists z xs → ((next : Supertypes)
      → stands y (known_as (supertypes_within w n) z (class_named w z) next) ≡ true)
      → stands y (in_a_row w (supertypes_within w n) xs) ≡ true
  unfolding class_named supertypes_within supertypes stands_above
  stands-row n y z [] i node = elim i [ ]
  stands-row n y z (x ∷ xs) foremost node = node (in_a_row w (supertypes_within w n) xs)
  stands-row n y z (x ∷ xs) (after i) node = by (class_named w x) (stands-row n y z xs i node)
    where
      by : (o : Option Class) → stands y (in_a_row w (supertypes_within w n) xs) ≡ true
          → stands y (known_as (supertypes_within w n) x o (in_a_row w (supertypes_within w n) xs)) ≡ true
      by None h = or_right (bytes_eq x y) (stands y (in_a_row w (supertypes_within w n) xs)) h
      by (Some c) h = or_right (bytes_eq c.name y || stands y (supertypes_within w n c.supers)
          || stands y (supertypes_within w n c.interfaces)) (stands y (in_a_row w (supertypes_within w n) xs)) h

  pub stands-itself : (n : ℕ) (y : List ℕ) (next : Supertypes)
      → stands y (known_as (supertypes_within w n) y (class_named w y) next) ≡ true
  unfolding class_named supertypes_within supertypes stands_above
  stands-itself n y next = by (class_named w y) refl
    where
      by : (o : Option Class) → class_named w y ≡ o → stands y (known_as (supertypes_within w n) y o next) ≡ true
      by None e = or_left (bytes_eq y y) (stands y next) (name_is y)
      by (Some c) e =
          let same_name : bytes_eq c.name y ≡ true = ap (λ q. bytes_eq q y) (class_named-name w y c e) ∙ name_is y in
          or_left (bytes_eq c.name y || stands y (supertypes_within w n c.supers)
          || stands y (supertypes_within w n c.interfaces)) (stands y next)
          (or_left (bytes_eq c.name y || stands y (supertypes_within w n c.supers))
          (stands y (supertypes_within w n c.interfaces)) (or_left (bytes_eq c.name y)
          (stands y (supertypes_within w n c.supers)) same_name))

  pub stands-append : (n : ℕ) (y : List ℕ) (a b : List (List ℕ)) → stands y (supertypes_within w n (a ++ b)) ≡ true
      → (stands y (supertypes_within w n a) ≡ true) ⊎ (stands y (supertypes_within w n b) ≡ true)
  unfolding class_named supertypes_within supertypes stands_above
  stands-append zero y a b e = cc
  stands-append (suc n) y [] b e = inr e
  stands-append (suc n) y (x ∷ a) b e = by (class_named w x) e (stands-append (suc n) y a b)
    where
      R : List (List ℕ) → Supertypes
      R xs = in_a_row w (supertypes_within w n) xs

      by : (o : Option Class) → stands y (known_as (supertypes_within w n) x o (in_a_row w (supertypes_within w n) (a
          ++ b))) ≡ true
          → (stands y (in_a_row w (supertypes_within w n) (a ++ b)) ≡ true
          → (stands y (in_a_row w (supertypes_within w n) a) ≡ true)
          ⊎ (stands y (in_a_row w (supertypes_within w n) b) ≡ true))
          → (stands y (known_as (supertypes_within w n) x o (in_a_row w (supertypes_within w n) a)) ≡ true)
          ⊎ (stands y (in_a_row w (supertypes_within w n) b) ≡ true)
      by None e rest = ⊎_elim (λ h. inl (or_left (bytes_eq x y) (stands y (in_a_row w (supertypes_within w n) a)) h))
          (λ h. ⊎_elim (λ g. inl (or_right (bytes_eq x y) (stands y (in_a_row w (supertypes_within w n) a)) g))
          (λ g. inr g) (rest h))
          (or_cases (bytes_eq x y) (stands y (in_a_row w (supertypes_within w n) (a ++ b))) e)
      by (Some c) e rest =
          let front = bytes_eq c.name y || stands y (supertypes_within w n c.supers)
          || stands y (supertypes_within w n c.interfaces) in
          ⊎_elim (λ h. inl (or_left front (stands y (in_a_row w (supertypes_within w n) a)) h))
          (λ h. ⊎_elim (λ g. inl (or_right front (stands y (in_a_row w (supertypes_within w n) a)) g)) (λ g. inr g)
          (rest h))
          (or_cases front (stands y (in_a_row w (supertypes_within w n) (a ++ b))) e)

  pub through-tree : (n : ℕ) (left : List (List ℕ)) (x y : List ℕ) (c : Class) → length left ≤ n
      → class_named w x ≡ Some c → Through left x y → stands y (supertypes_within w n (c.supers ++ c.interfaces)) ≡ true
  unfolding Leaves class_named supertypes_within supertypes stands_above
  through-tree zero left x y c le e way = absurd (none_left left x le (through-class left x y way).2)
  through-tree (suc n) left x y c le e way = by (avoid left x x y way) (through-tree n (without x left))
    where
      by : Through (without x left) x y ⊎ Leaves left x y → ((z y : List ℕ) (d : Class) → length (without x left) ≤ n
          → class_named w z ≡ Some d → Through (without x left) z y
          → stands y (supertypes_within w n (d.supers ++ d.interfaces)) ≡ true)
          → stands y (in_a_row w (supertypes_within w n) (c.supers ++ c.interfaces)) ≡ true
      by (inl back) rec = absurd (gone x left (through-class (without x left) x y back).2)
      by (inr r) rec =
          let is : r.0 ≡ c = cc (r.1) in
          let i = subst (λ (v : Class). Lists r.3.0 (v.supers ++ v.interfaces)) is r.3.1 in
          stands-row n y r.3.0 (c.supers ++ c.interfaces) i (λ next. ⊎_elim
          (λ same_name. subst (λ q. stands y (known_as (supertypes_within w n) q (class_named w q) next) ≡ true)
          (sym same_name) (stands-itself n y next))
          (λ far.
          let d = through-class (without x left) r.3.0 y far in
          let less = without-less x left r.2 in
          let h = rec r.3.0 y d.0 (omega arith) d.1 far in
          let back = class_named-name w r.3.0 d.0 d.1 in
          ap (λ o. stands y (known_as (supertypes_within w n) r.3.0 o next)) d.1
          ∙ or_left (bytes_eq d.0.name y || stands y (supertypes_within w n d.0.supers)
          || stands y (supertypes_within w n d.0.interfaces)) (stands y next)
          (⊎_elim
          (λ g. or_left (bytes_eq d.0.name y || stands y (supertypes_within w n d.0.supers))
          (stands y (supertypes_within w n d.0.interfaces)) (or_right (bytes_eq d.0.name y)
          (stands y (supertypes_within w n d.0.supers)) g))
          (λ g. or_right (bytes_eq d.0.name y || stands y (supertypes_within w n d.0.supers))
          (stands y (supertypes_within w n d.0.interfaces)) g)
          (stands-append n y d.0.supers d.0.interfaces h)))
          r.3.2)

  pub above-class : (x y : List ℕ) → Above w x y → (c : Class) × (class_named w x ≡ Some c)
  unfolding class_named supertypes_within supertypes stands_above
  above-class x y (directly c e i) = (c, e)
  above-class x y (onwards c e i rest) = (c, e)

  pub stands_where_above : StandsWhereAbove w
  unfolding From class_named supertypes_within supertypes stands_above
  stands_where_above x y = (
    by (class_named w x) refl,
    λ far. let c = above-class x y far in
        let n = names-length w in
        ap (λ o. stands y (above_of w o)) c.1 ∙ through-tree (suc (length w)) (names w) x y c.0 (omega arith) c.1
        (above-through far),
  )
    where
      by : (o : Option Class) → class_named w x ≡ o → stands y (above_of w o) ≡ true → Above w x y
      by None e h = cc
      by (Some c) e h =
          let r = tree-above (suc (length w)) y (c.supers ++ c.interfaces) h in
          ⊎_elim (λ is. directly c e (subst (λ q. Lists q (c.supers ++ c.interfaces)) is r.1)) (λ far. onwards c e r.1
          far) r.2
