-- Without cycles, as many steps as there are classes reach all that stands above a class.
use Rattle.std.proofs.Common.{◌≡◌, ℕ, zero, suc, ◌<◌, ◌≤◌, refl, sym, ap, subst, ◌∙◌, arith, Bool, true, false, List}
use Rattle.std.proofs.Common.{[], ◌∷◌, ◌++◌, length, inl, inr, ⊎_elim}
use Rattle.std.specs.Prelude.{◌||◌, ◌⊎◌, Option, Some, None, if◌then◌else◌}
use Rattle.std.specs.Str.{bytes_eq}
use Rattle.cjc_world.specs.Classes.{Class, class_named}
use Rattle.cjc_world.specs.Working.Tables.{IsClear}
use Rattle.cjc_world.specs.Supertypes.{Supertypes, End, Unknown, Known, known_as, in_a_row, supertypes_within}
use Rattle.cjc_world.specs.Supertypes.{supertypes, AreSupertypes, ends, unknown_here, known_here, Lists, foremost}
use Rattle.cjc_world.specs.Supertypes.{after, Above, directly, onwards, IsAcyclic}
use Rattle.cjc_bytes.proofs.Lists.{bytes_true}

-- every way upwards from the name ends within so many steps
pub data Settles (w : List Class) : ℕ → List ℕ → Type 0 where
  nothing : {n : ℕ} {x : List ℕ} → class_named w x ≡ None → Settles w (suc n) x
  something : {n : ℕ} {x : List ℕ} (c : Class) → class_named w x ≡ Some c
      → ((y : List ℕ) → Lists y (c.supers ++ c.interfaces) → Settles w n y) → Settles w (suc n) x

-- ---- names that are left

unfoldable pub is_left : List (List ℕ) → List ℕ → Bool
is_left [] x = false
is_left (y ∷ ys) x = bytes_eq y x || is_left ys x

unfoldable pub without : List ℕ → List (List ℕ) → List (List ℕ)
without x [] = []
without x (y ∷ ys) = if bytes_eq y x then without x ys else y ∷ without x ys

without-length : (x : List ℕ) (ys : List (List ℕ)) → length (without x ys) ≤ length ys
unfolding without class_named supertypes_within supertypes
without-length x [] = omega arith
without-length x (y ∷ ys) = by (bytes_eq y x) (without-length x ys)
  where
    by : (b : Bool) → length (without x ys) ≤ length ys → length (if b then without x ys else y ∷ without x ys) ≤ length
        (y ∷ ys)
    by true h = omega arith
    by false h = omega arith

pub without-less : (x : List ℕ) (ys : List (List ℕ)) → is_left ys x ≡ true → length (without x ys) < length ys
unfolding without is_left class_named supertypes_within supertypes
without-less x [] e = cc
without-less x (y ∷ ys) e = by (bytes_eq y x) e (without-length x ys) (without-less x ys)
  where
    by : (b : Bool) → (b || is_left ys x) ≡ true → length (without x ys) ≤ length ys → (is_left ys x ≡ true
        → length (without x ys) < length ys) → length (if b then without x ys else y ∷ without x ys) < length (y ∷ ys)
    by true e h rest = omega arith
    by false e h rest = let r = rest e in omega arith

pub without-left : (x z : List ℕ) (ys : List (List ℕ)) → bytes_eq x z ≡ false → is_left ys z ≡ true
    → is_left (without x ys) z ≡ true
unfolding without is_left class_named supertypes_within supertypes
without-left x z [] n e = cc
without-left x z (y ∷ ys) n e = by (bytes_eq y x) (bytes_eq y z) refl refl e (without-left x z ys n)
  where
    by : (b a : Bool) → bytes_eq y x ≡ b → bytes_eq y z ≡ a → (a || is_left ys z) ≡ true → (is_left ys z ≡ true
        → is_left (without x ys) z ≡ true) → is_left (if b then without x ys else y ∷ without x ys) z ≡ true
    by true true f g e rest = let p = bytes_true y x f in let q : bytes_eq x z ≡ true = ap (λ r. bytes_eq r z) (sym p)
        ∙ g in cc
    by true false f g e rest = rest e
    by false true f g e rest = ap (λ q. q || is_left (without x ys) z) g
    by false false f g e rest = ap (λ q. q || is_left (without x ys) z) g ∙ rest e

pub none_left : (left : List (List ℕ)) (x : List ℕ) → length left ≤ 0 → is_left left x ≡ true → ⊥
unfolding is_left class_named supertypes_within supertypes
none_left [] x le e = cc
none_left (y ∷ left) x le e = absurd (omega arith)

pub lists-front : (y : List ℕ) (a b : List (List ℕ)) → Lists y a → Lists y (a ++ b)
unfolding class_named supertypes_within supertypes
lists-front y [] b i = elim i [ ]
lists-front y (x ∷ a) b foremost = foremost
lists-front y (x ∷ a) b (after i) = after (lists-front y a b i)

pub lists-behind : (y : List ℕ) (a b : List (List ℕ)) → Lists y b → Lists y (a ++ b)
unfolding class_named supertypes_within supertypes
lists-behind y [] b i = i
lists-behind y (x ∷ a) b i = after (lists-behind y a b i)

-- ---- every name with no cycle at it or above it settles within as many steps as there are classes
module _ (w : List Class) where
  -- every class from x on upwards is left
  AllLeft : List (List ℕ) → List ℕ → Type 0
  AllLeft left x = (z : List ℕ) (c : Class) → (x ≡ z) ⊎ Above w x z → class_named w z ≡ Some c → is_left left z ≡ true

  reach : (x y z : List ℕ) (c : Class) → class_named w x ≡ Some c → Lists y (c.supers ++ c.interfaces) → (y ≡ z)
      ⊎ Above w y z → Above w x z
  unfolding class_named supertypes_within supertypes
  reach x y z c e i way = ⊎_elim (λ is. directly c e (subst (λ q. Lists q (c.supers ++ c.interfaces)) is i))
      (λ far. onwards c e i far) way

  pub clear-up : (x y : List ℕ) (c : Class) → class_named w x ≡ Some c → Lists y (c.supers ++ c.interfaces)
      → IsClear w x → IsClear w y
  clear-up x y c e i clear = λ z way. clear z (inr (reach x y z c e i way))

  settles : (n : ℕ) (left : List (List ℕ)) (x : List ℕ) → IsClear w x → length left ≤ n → AllLeft left x
      → Settles w (suc n) x
  unfolding AllLeft class_named supertypes_within supertypes
  settles zero left x clear le all = by (class_named w x) refl
    where
      by : (o : Option Class) → class_named w x ≡ o → Settles w (suc zero) x
      by None e = nothing e
      by (Some c) e = absurd (none_left left x le (all x c (inl refl) e))
  settles (suc n) left x clear le all = by (class_named w x) refl (settles n (without x left))
    where
      by : (o : Option Class) → class_named w x ≡ o → ((y : List ℕ) → IsClear w y → length (without x left) ≤ n
          → AllLeft (without x left) y → Settles w (suc n) y) → Settles w (suc (suc n)) x
      by None e rest = nothing e
      by (Some c) e rest =
          let less = without-less x left (all x c (inl refl) e) in
          something c e (λ y i. rest y (clear-up x y c e i clear) (omega arith) (λ z d way f. without-left x z left
          (other z (reach x y z c e i way) (bytes_eq x z) refl) (all z d (inr (reach x y z c e i way)) f)))
        where
          other : (z : List ℕ) → Above w x z → (b : Bool) → bytes_eq x z ≡ b → bytes_eq x z ≡ false
          other z far true g = absurd (clear x (inl refl) (subst (λ q. Above w x q) (sym (bytes_true x z g)) far))
          other z far false g = g

unfoldable pub names : List Class → List (List ℕ)
names [] = []
names (c ∷ cs) = c.name ∷ names cs

pub names-length : (w : List Class) → length (names w) ≡ length w
unfolding names class_named supertypes_within supertypes
names-length [] = refl
names-length (c ∷ w) = ap suc (names-length w)

pub named-left : (w : List Class) (x : List ℕ) (c : Class) → class_named w x ≡ Some c → is_left (names w) x ≡ true
unfolding names is_left class_named supertypes_within supertypes
named-left [] x c e = cc
named-left (d ∷ w) x c e = by (bytes_eq d.name x) e (named-left w x c)
  where
    by : (b : Bool) → (if b then Some d else class_named w x) ≡ Some c → (class_named w x ≡ Some c
        → is_left (names w) x ≡ true) → (b || is_left (names w) x) ≡ true
    by true e rest = refl
    by false e rest = rest e

pub clear_settles : (w : List Class) (x : List ℕ) → IsClear w x → Settles w (suc (length w)) x
unfolding AllLeft class_named supertypes_within supertypes
clear_settles w x clear = let n = names-length w in settles w (length w) (names w) x clear (omega arith)
    (λ z c way e. named-left w z c e)

-- ---- the steps reach the whole tree where all settles

supertypes_within-AreSupertypes : (w : List Class) (n : ℕ) (xs : List (List ℕ)) → ((y : List ℕ) → Lists y xs
    → Settles w n y) → AreSupertypes w xs (supertypes_within w n xs)
unfolding class_named supertypes_within supertypes
supertypes_within-AreSupertypes w zero [] all = ends
supertypes_within-AreSupertypes w zero (x ∷ xs) all = elim (all x foremost) [ ]
supertypes_within-AreSupertypes w (suc n) xs all = row (supertypes_within-AreSupertypes w n) xs all
  where
    node : ((ys : List (List ℕ)) → ((y : List ℕ) → Lists y ys → Settles w n y)
        → AreSupertypes w ys (supertypes_within w n ys)) → (x : List ℕ) (xs : List (List ℕ)) (next : Supertypes)
        → AreSupertypes w xs next → Settles w (suc n) x
        → AreSupertypes w (x ∷ xs) (known_as (supertypes_within w n) x (class_named w x) next)
    node rec x xs next k (nothing e) = subst (λ o. AreSupertypes w (x ∷ xs) (known_as (supertypes_within w n) x o next))
        (sym e) (unknown_here e k)
    node rec x xs next k (something c e all) =
        subst (λ o. AreSupertypes w (x ∷ xs) (known_as (supertypes_within w n) x o next)) (sym e)
        (known_here e (rec c.supers (λ y i. all y (lists-front y c.supers c.interfaces i)))
        (rec c.interfaces (λ y i. all y (lists-behind y c.supers c.interfaces i))) k)

    row : ((ys : List (List ℕ)) → ((y : List ℕ) → Lists y ys → Settles w n y)
        → AreSupertypes w ys (supertypes_within w n ys)) → (xs : List (List ℕ)) → ((y : List ℕ) → Lists y xs
        → Settles w (suc n) y) → AreSupertypes w xs (in_a_row w (supertypes_within w n) xs)
    row rec [] all = ends
    row rec (x ∷ xs) all = node rec x xs (in_a_row w (supertypes_within w n) xs) (row rec xs (λ y i. all y (after i)))
        (all x foremost)

-- ---- The laws of names with no cycle at them or above them: the tree is there, and there is one.
pub clear-AreSupertypes : (w : List Class) (xs : List (List ℕ)) → ((y : List ℕ) → Lists y xs → IsClear w y)
    → AreSupertypes w xs (supertypes w xs)
unfolding class_named supertypes_within supertypes
clear-AreSupertypes w xs clear = supertypes_within-AreSupertypes w (suc (length w)) xs (λ y i. clear_settles w y
    (clear y i))

pub supertypes-AreSupertypes : (w : List Class) → IsAcyclic w → (xs : List (List ℕ))
    → AreSupertypes w xs (supertypes w xs)
supertypes-AreSupertypes w acyclic xs = clear-AreSupertypes w xs (λ y i z way far. acyclic z far)

pub AreSupertypes-one : (w : List Class) (xs : List (List ℕ)) (j k : Supertypes) → AreSupertypes w xs j
    → AreSupertypes w xs k → j ≡ k
unfolding class_named supertypes_within supertypes
AreSupertypes-one w xs j k ends ends = refl
AreSupertypes-one w (x ∷ xs) j k (unknown_here {next = p} e a) (unknown_here {next = q} f b) =
    ap (λ r. Unknown x r) (AreSupertypes-one w xs p q a b)
AreSupertypes-one w xs j k (unknown_here e a) (known_here f s i b) = cc
AreSupertypes-one w xs j k (known_here e s i a) (unknown_here f b) = cc
AreSupertypes-one w (x ∷ xs) j k (known_here {c = c} {supers = p} {interfaces = q} {next = r} e s i a)
    (known_here {c = d} {supers = p'} {interfaces = q'} {next = r'} f s' i' b) =
    let is : c ≡ d = cc in
    let ps = AreSupertypes-one w c.supers p p' s (subst (λ (k : Class). AreSupertypes w k.supers p') (sym is) s') in
    let qs = AreSupertypes-one w c.interfaces q q' i (subst (λ (k : Class). AreSupertypes w k.interfaces q') (sym is)
    i') in
    let rs = AreSupertypes-one w xs r r' a b in
    cc

pub clear-known : (w : List Class) (x : List ℕ) (c : Class) → IsClear w x → class_named w x ≡ Some c
    → supertypes w (x ∷ []) ≡ Known c (supertypes w c.supers) (supertypes w c.interfaces) End
clear-known w x c clear e =
    AreSupertypes-one w (x ∷ []) (supertypes w (x ∷ [])) (Known c (supertypes w c.supers) (supertypes w c.interfaces)
    End) (clear-AreSupertypes w (x ∷ []) (λ y i. alone y i))
    (known_here e
    (clear-AreSupertypes w c.supers (λ y i. clear-up w x y c e (lists-front y c.supers c.interfaces i) clear))
    (clear-AreSupertypes w c.interfaces (λ y i. clear-up w x y c e (lists-behind y c.supers c.interfaces i) clear))
    ends)
  where
    alone : (y : List ℕ) → Lists y (x ∷ []) → IsClear w y
    alone y foremost = clear
    alone y (after i) = elim i [ ]

pub supertypes-known : (w : List Class) → IsAcyclic w → (x : List ℕ) (c : Class) → class_named w x ≡ Some c
    → supertypes w (x ∷ []) ≡ Known c (supertypes w c.supers) (supertypes w c.interfaces) End
supertypes-known w acyclic x c e = clear-known w x c (λ z way far. acyclic z far) e
