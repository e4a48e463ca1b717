-- Subtypes: what the test says, and that it is reflexive and transitive in every world.
use Rattle.std.proofs.Common.{◌≡◌, ℕ, suc, refl, sym, ap, subst, ◌∙◌, arith, Bool, true, false, List, [], ◌∷◌, length}
use Rattle.std.proofs.Common.{⊎_elim}
use Rattle.std.specs.Prelude.{not, ◌==◌, ◌&&◌, ◌||◌, ◌⊎◌, if◌then◌else◌}
use Rattle.std.specs.Str.{bytes_eq}
use Rattle.std.proofs.lemmas.Bool.{or_left}
use Rattle.cjc_world.specs.Classes.{Class}
use Rattle.cjc_world.specs.Supertypes.{End, known_as, supertypes_within, supertypes, Lists, foremost, after, Above}
use Rattle.cjc_world.specs.Supertypes.{directly, onwards, stands}
use Rattle.cjc_world.specs.Lookup.{object}
use Rattle.cjc_world.proofs.Settled.{names, names-length}
use Rattle.cjc_world.proofs.Cycles.{From, tree-above, stands-itself, stands-append, through-tree, above-class}
use Rattle.cjc_world.proofs.Cycles.{above-through}
use Rattle.cjc_world.specs.Subtype.{is_subclass, starts, inner, element, is_element, is_subtype}
use Rattle.cjc_world.specs.Laws.{IsReflexive, IsTransitive}
use Rattle.cjc_world.proofs.Joined.{or-false}
use Rattle.cjc_bytes.proofs.Lists.{name_is, bytes_true}

pub element_cases : (w : List Class) (sub sup : List ℕ) → is_element w sub sup ≡
    (bytes_eq sub sup
    || (if starts 91 sub then (if starts 91 sup then is_element w (element sub) (element sup) else starts 76 sup
    && is_subclass w object (inner sup))
    else starts 76 sub && starts 76 sup && is_subclass w (inner sub) (inner sup)))
unfolding is_element
element_cases w [] sup = sym (or-false (bytes_eq [] sup))
element_cases w (b ∷ bs) sup = refl

picked : (a b c d x y z : Bool) → a ≡ false → b ≡ true → c ≡ false → d ≡ true
    → y ≡ (a || (if b then (if c then x else d && y) else z))
picked true b c d x y z e f g h = cc
picked false false c d x y z e f g h = cc
picked false true true d x y z e f g h = cc
picked false true false false x y z e f g h = cc
picked false true false true x y z e f g h = refl

pub element_object : (w : List Class) (sub sup : List ℕ) → bytes_eq sub sup ≡ false → starts 91 sub ≡ true
    → starts 91 sup ≡ false → starts 76 sup ≡ true → is_subclass w object (inner sup) ≡ is_element w sub sup
element_object w sub sup e f g h =
    picked (bytes_eq sub sup) (starts 91 sub) (starts 91 sup) (starts 76 sup) (is_element w (element sub) (element sup))
    (is_subclass w object (inner sup)) (starts 76 sub && starts 76 sup && is_subclass w (inner sub) (inner sup)) e f
    g h
    ∙ sym (element_cases w sub sup)

-- ---- classes

above_trans : (w : List Class) (x y z : List ℕ) → Above w x y → Above w y z → Above w x z
above_trans w x y z (directly c e i) far = onwards c e i far
above_trans w x y z (onwards {y = m} c e i rest) far = onwards c e i (above_trans w m y z rest far)

-- one is the other, or it stands above it
subclass_above : (w : List Class) (x y : List ℕ) → is_subclass w x y ≡ true → (x ≡ y) ⊎ Above w x y
unfolding is_subclass supertypes From
subclass_above w x y e = by (tree-above w (suc (length w)) y (x ∷ []) e)
  where
    by : (z : List ℕ) × Lists z (x ∷ []) × ((z ≡ y) ⊎ Above w z y) → (x ≡ y) ⊎ Above w x y
    by (z, foremost, way) = way
    by (z, after i, way) = elim i [ ]

subclass_itself : (w : List Class) (x : List ℕ) → is_subclass w x x ≡ true
unfolding is_subclass supertypes supertypes_within
subclass_itself w x = stands-itself w (length w) x End

subclass_of_above : (w : List Class) (x y : List ℕ) → Above w x y → is_subclass w x y ≡ true
unfolding is_subclass supertypes supertypes_within
subclass_of_above w x y far =
    let c = above-class w x y far in
    let n = names-length w in
    let high = through-tree w (length w) (names w) x y c.0 (omega (arith, n)) c.1 (above-through w far) in
    ap (λ o. stands y (known_as (supertypes_within w (length w)) x o End)) c.1
    ∙ or_left (bytes_eq c.0.name y || stands y (supertypes_within w (length w) c.0.supers)
    || stands y (supertypes_within w (length w) c.0.interfaces)) false
    (⊎_elim
    (λ h. or_left (bytes_eq c.0.name y || stands y (supertypes_within w (length w) c.0.supers))
    (stands y (supertypes_within w (length w) c.0.interfaces)) (or_second (bytes_eq c.0.name y)
    (stands y (supertypes_within w (length w) c.0.supers)) h))
    (λ h. or_second (bytes_eq c.0.name y || stands y (supertypes_within w (length w) c.0.supers))
    (stands y (supertypes_within w (length w) c.0.interfaces)) h)
    (stands-append w (length w) y c.0.supers c.0.interfaces high))
  where
    or_second : (a b : Bool) → b ≡ true → (a || b) ≡ true
    or_second true b e = refl
    or_second false b e = e

-- a name, and what stands above it, stand in its tree
pub reaches : (w : List Class) (x y : List ℕ) → (x ≡ y) ⊎ Above w x y → stands y (supertypes w (x ∷ [])) ≡ true
unfolding is_subclass
reaches w x y way = ⊎_elim (λ same. subst (λ v. stands v (supertypes w (x ∷ [])) ≡ true) same (subclass_itself w x))
    (λ far. subclass_of_above w x y far) way

subclass_trans : (w : List Class) (x y z : List ℕ) → is_subclass w x y ≡ true → is_subclass w y z ≡ true
    → is_subclass w x z ≡ true
subclass_trans w x y z e f =
    ⊎_elim
    (λ same. ap (λ v. is_subclass w v z) same ∙ f)
    (λ far. ⊎_elim
    (λ same. subst (λ v. is_subclass w x v ≡ true) same e)
    (λ further. subclass_of_above w x z (above_trans w x y z far further))
    (subclass_above w y z f))
    (subclass_above w x y e)

-- ---- elements of arrays

data Element (w : List Class) : List ℕ → List ℕ → Type 0 where
  same : {d : List ℕ} → Element w d d
  arrays : {d e : List ℕ} → starts 91 d ≡ true → starts 91 e ≡ true → Element w (element d) (element e) → Element w d e
  array_object : {d e : List ℕ} → starts 91 d ≡ true → starts 76 e ≡ true → is_subclass w object (inner e) ≡ true
      → Element w d e
  classes : {d e : List ℕ} → starts 76 d ≡ true → starts 76 e ≡ true → is_subclass w (inner d) (inner e) ≡ true
      → Element w d e

two_starts : (e : List ℕ) → starts 91 e ≡ true → starts 76 e ≡ true → ⊥
two_starts [] p q = cc
two_starts (b ∷ bs) p q = grind arith

element_trans : (w : List Class) (d e f : List ℕ) → Element w d e → Element w e f → Element w d f
element_trans w d e f same q = q
element_trans w d e f p same = p
element_trans w d e f (arrays a b p) (arrays g h q) = arrays a h (element_trans w (element d) (element e) (element f) p
    q)
element_trans w d e f (arrays a b p) (array_object g h q) = array_object a h q
element_trans w d e f (arrays a b p) (classes g h q) = absurd (two_starts e b g)
element_trans w d e f (array_object a b p) (arrays g h q) = absurd (two_starts e g b)
element_trans w d e f (array_object a b p) (array_object g h q) = absurd (two_starts e g b)
element_trans w d e f (array_object a b p) (classes g h q) =
    array_object a h (subclass_trans w object (inner e) (inner f) p q)
element_trans w d e f (classes a b p) (arrays g h q) = absurd (two_starts e g b)
element_trans w d e f (classes a b p) (array_object g h q) = absurd (two_starts e g b)
element_trans w d e f (classes a b p) (classes g h q) = classes a h (subclass_trans w (inner d) (inner e) (inner f) p q)

to_element : (w : List Class) (d e : List ℕ) → is_element w d e ≡ true → Element w d e
unfolding is_element
to_element w [] e h = subst (λ v. Element w [] v) (bytes_true [] e h) same
to_element w (b ∷ bs) e h = by (bytes_eq (b ∷ bs) e) (b == 91) (starts 91 e) (b == 76) (starts 76 e) refl refl refl refl
    refl h (λ e f. to_element w bs e f)
  where
    by : (t a g s u : Bool) → bytes_eq (b ∷ bs) e ≡ t → (b == 91) ≡ a → starts 91 e ≡ g → (b == 76) ≡ s
        → starts 76 e ≡ u
        → (t || (if a then (if g then is_element w bs (element e) else u && is_subclass w object (inner e)) else s && u
        && is_subclass w (inner (b ∷ bs)) (inner e))) ≡ true
        → ((e : List ℕ) → is_element w bs e ≡ true → Element w bs e) → Element w (b ∷ bs) e
    by true a g s u p q r v x h rec = subst (λ v. Element w (b ∷ bs) v) (bytes_true (b ∷ bs) e p) same
    by false true true s u p q r v x h rec = arrays q r (rec (element e) h)
    by false true false s true p q r v x h rec = array_object q x h
    by false true false s false p q r v x h rec = cc
    by false false g true true p q r v x h rec = classes v x h
    by false false g true false p q r v x h rec = cc
    by false false g false u p q r v x h rec = cc

from_element : (w : List Class) (d e : List ℕ) → Element w d e → is_element w d e ≡ true
from_element w d e same = element_cases w d d ∙ or_left (bytes_eq d d) (if starts 91 d
    then (if starts 91 d then is_element w (element d) (element d) else starts 76 d && is_subclass w object (inner d))
    else starts 76 d && starts 76 d && is_subclass w (inner d) (inner d)) (name_is d)
from_element w d e (arrays a b p) = element_cases w d e ∙ by (bytes_eq d e) (starts 91 d) (starts 91 e) a b
    (from_element w (element d) (element e) p)
  where
    by : (t a g : Bool) → a ≡ true → g ≡ true → is_element w (element d) (element e) ≡ true
        → (t || (if a then (if g then is_element w (element d) (element e) else starts 76 e
        && is_subclass w object (inner e)) else starts 76 d && starts 76 e && is_subclass w (inner d) (inner e))) ≡ true
    by true a g p q h = refl
    by false true true p q h = h
    by false true false p q h = cc
    by false false g p q h = cc
from_element w d e (array_object a b p) = element_cases w d e ∙ by (bytes_eq d e) (starts 91 d) (starts 91 e)
    (starts 76 e) a (one_start e b) b p
  where
    one_start : (e : List ℕ) → starts 76 e ≡ true → starts 91 e ≡ false
    one_start [] p = cc
    one_start (b ∷ bs) p = grind arith

    by : (t a g u : Bool) → a ≡ true → g ≡ false → u ≡ true → is_subclass w object (inner e) ≡ true
        → (t || (if a then (if g then is_element w (element d) (element e) else u && is_subclass w object (inner e))
        else starts 76 d && u && is_subclass w (inner d) (inner e))) ≡ true
    by true a g u p q r h = refl
    by false true false true p q r h = h
    by false true false false p q r h = cc
    by false true true u p q r h = cc
    by false false g u p q r h = cc
from_element w d e (classes a b p) = element_cases w d e ∙ by (bytes_eq d e) (starts 91 d) (starts 76 d) (starts 76 e)
    (no_array d a) a b p
  where
    no_array : (e : List ℕ) → starts 76 e ≡ true → starts 91 e ≡ false
    no_array [] p = cc
    no_array (b ∷ bs) p = grind arith

    by : (t a s u : Bool) → a ≡ false → s ≡ true → u ≡ true → is_subclass w (inner d) (inner e) ≡ true
        → (t || (if a then (if starts 91 e then is_element w (element d) (element e) else u
        && is_subclass w object (inner e)) else s && u && is_subclass w (inner d) (inner e))) ≡ true
    by true a s u p q r h = refl
    by false false true true p q r h = h
    by false false true false p q r h = cc
    by false false false u p q r h = cc
    by false true s u p q r h = cc

-- ---- subtypes

pub reflexive : (w : List Class) → IsReflexive w
unfolding is_subtype
reflexive w x = by (starts 91 x)
  where
    by : (a : Bool) → (if a then (if a then is_element w (element x) (element x) else is_subclass w object x) else not a
        && is_subclass w x x) ≡ true
    by true = from_element w (element x) (element x) same
    by false = subclass_itself w x

pub transitive : (w : List Class) → IsTransitive w
unfolding is_subtype
transitive w x y z = by (starts 91 x) (starts 91 y) (starts 91 z)
  where
    by : (a b c : Bool)
        → (if a then (if b then is_element w (element x) (element y) else is_subclass w object y) else not b
        && is_subclass w x y) ≡ true
        → (if b then (if c then is_element w (element y) (element z) else is_subclass w object z) else not c
        && is_subclass w y z) ≡ true
        → (if a then (if c then is_element w (element x) (element z) else is_subclass w object z) else not c
        && is_subclass w x z) ≡ true
    by true true true e f = from_element w (element x) (element z) (element_trans w (element x) (element y) (element z)
        (to_element w (element x) (element y) e) (to_element w (element y) (element z) f))
    by true true false e f = f
    by true false true e f = cc
    by true false false e f = subclass_trans w object y z e f
    by false true c e f = cc
    by false false true e f = cc
    by false false false e f = subclass_trans w x y z e f
