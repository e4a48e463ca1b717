-- The interfaces of a class stand above it, each that it lists among them.
use Rattle.std.proofs.Common.{◌≡◌, ℕ, refl, sym, ap, subst, ◌∙◌, Bool, true, false, List, [], ◌∷◌, ◌++◌, inl, inr}
use Rattle.std.proofs.Common.{⊎_elim}
use Rattle.std.specs.Prelude.{◌||◌, ◌⊎◌, Option, Some, None, option_to_list, if◌then◌else◌}
use Rattle.std.specs.Str.{bytes_eq}
use Rattle.cjc_vtable.proofs.Filed.{Has, at_front, behind, has-either}
use Rattle.cjc_world.specs.Classes.{Class, class_named}
use Rattle.cjc_world.specs.Interfaces.{Interface, each_once, gathered, is_among, known, where_listed}
use Rattle.cjc_world.specs.Supertypes.{Above, directly, onwards, IsAcyclic, AreSupertypes, ends, unknown_here}
use Rattle.cjc_world.specs.Supertypes.{known_here, Supertypes, Lists, foremost, after, supertypes}
use Rattle.cjc_world.proofs.Cycles.{class_named-name}
use Rattle.cjc_world.proofs.Settled.{supertypes-AreSupertypes, lists-behind, lists-front}
use Rattle.cjc_tokens.specs.Methods.{interfaces_at}
use Rattle.cjc_token_proof.proofs.TablesLaws.Filed.{has-back, has-front}
use Rattle.cjc_bytes.proofs.Lists.{bytes_true}

-- ---- what is gathered

-- one of these names, or above one
abbrev From : List Class → List (List ℕ) → List ℕ → Type 0
From w xs y = (x : List ℕ) × Lists x xs × ((x ≡ y) ⊎ Above w x y)

from_later : (w : List Class) (x : List ℕ) (xs : List (List ℕ)) (y : List ℕ) → From w xs y → From w (x ∷ xs) y
from_later w x xs y r = (r.0, after r.1, r.2)

-- what stands above what a class lists stands above the class
from_class : (w : List Class) (x : List ℕ) (c : Class) (y : List ℕ) → class_named w x ≡ Some c
    → From w (c.supers ++ c.interfaces) y → Above w x y
from_class w x c y e r = ⊎_elim (λ same. directly c e (subst (λ z. Lists z (c.supers ++ c.interfaces)) same r.1))
    (λ far. onwards c e r.1 far) r.2

module _ (w : List Class) where
  from_front : (a b : List (List ℕ)) (y : List ℕ) → From w a y → From w (a ++ b) y
  from_front a b y r = (r.0, lists-front r.0 a b r.1, r.2)

  from_back : (a b : List (List ℕ)) (y : List ℕ) → From w b y → From w (a ++ b) y
  from_back a b y r = (r.0, lists-behind r.0 a b r.1, r.2)

  -- an interface is the class of its name, and stands at or above one of these
  abbrev IsGathered : List (List ℕ) → Interface → Type 0
  IsGathered xs i = (i.class ≡ class_named w i.name) × From w xs i.name

  listed_one : (listed : Bool) (h i : Interface) → Has i (where_listed listed h) → i ≡ h
  listed_one true h i at_front = refl
  listed_one true h i (behind g) = elim g [ ]
  listed_one false h i g = elim g [ ]

  gathered_are : (listed : Bool) (xs : List (List ℕ)) (k : Supertypes) → AreSupertypes w xs k → (i : Interface)
      → Has i (gathered listed k) → IsGathered xs i
  unfolding gathered
  gathered_are listed xs k ends i h = elim h [ ]
  gathered_are listed (x ∷ xs) k (unknown_here {next = next} e rest) i h =
      let one : Interface = record { name = x; class = None } in
      ⊎_elim
      (λ g. let is = listed_one listed one i g in (
        ap (λ (v : Interface). v.class) is ∙ sym e
            ∙ ap (λ (v : Interface). class_named w v.name) (sym is),
        (x, foremost, inl (ap (λ (v : Interface). v.name) (sym is))),
      ))
      (λ g. let r = gathered_are listed xs next rest i g in (r.0, from_later w x xs i.name r.1))
      (has-either i (where_listed listed one) (gathered listed next) h)
  gathered_are listed (x ∷ xs) k (known_here {c = c} {supers = supers} {interfaces = interfaces} {next = next} e s t
      rest) i h =
      let one : Interface = record { name = c.name; class = Some c } in
      let name_is = class_named-name w x c e in
      let A = gathered false supers in
      let B = gathered true interfaces in
      let C = where_listed listed one in
      ⊎_elim
      (λ abc. ⊎_elim
      (λ ab. ⊎_elim
      (λ g. let r = gathered_are false c.supers supers s i g
      in (r.0, (x, foremost, inr (from_class w x c i.name e (from_front c.supers c.interfaces i.name r.1)))))
      (λ g. let r = gathered_are true c.interfaces interfaces t i g
      in (r.0, (x, foremost, inr (from_class w x c i.name e (from_back c.supers c.interfaces i.name r.1)))))
      (has-either i A B ab))
      (λ g. let is = listed_one listed one i g in (
        ap (λ (v : Interface). v.class) is ∙ sym e
            ∙ ap (class_named w) (sym name_is) ∙ ap (λ (v : Interface). class_named w v.name) (sym is),
        (x, foremost, inl (sym name_is ∙ ap (λ (v : Interface). v.name) (sym is))),
      ))
      (has-either i (A ++ B) C abc))
      (λ g. let r = gathered_are listed xs next rest i g in (r.0, from_later w x xs i.name r.1))
      (has-either i (A ++ B ++ C) (gathered listed next) h)

  -- each listed one is gathered
  pub gathered_has : (xs : List (List ℕ)) (k : Supertypes) → AreSupertypes w xs k → (y : List ℕ) → Lists y xs
      → Has (record { name = y; class = class_named w y }) (gathered true k)
  unfolding gathered
  gathered_has xs k ends y l = elim l [ ]
  gathered_has (x ∷ xs) k (unknown_here {next = next} e rest) y foremost =
      subst (λ o. Has (record { name = x; class = o }) (record { name = x; class = None } ∷ gathered true next)) (sym e)
      at_front
  gathered_has (x ∷ xs) k (unknown_here {next = next} e rest) y (after l) = behind (gathered_has xs next rest y l)
  gathered_has (x ∷ xs) k (known_here {c = c} {supers = supers} {interfaces = interfaces} {next = next} e s t rest) y
      foremost =
      let A = gathered false supers in
      let B = gathered true interfaces in
      let name_is = class_named-name w x c e in
      let one : Interface = record { name = c.name; class = Some c } in
      has-front (record { name = x; class = class_named w x }) (A ++ B ++ (one ∷ [])) (gathered true next)
      (has-back (record { name = x; class = class_named w x }) (A ++ B) (one
      ∷ []) (subst (λ o. Has (record { name = x; class = o }) (one ∷ [])) (sym e)
      (subst (λ n. Has (record { name = n; class = Some c }) (one ∷ [])) name_is at_front)))
  gathered_has (x ∷ xs) k (known_here {c = c} {supers = supers} {interfaces = interfaces} {next = next} e s t rest) y
      (after l) =
      let A = gathered false supers in
      let B = gathered true interfaces in
      let one : Interface = record { name = c.name; class = Some c } in
      has-back (record { name = y; class = class_named w y }) (A ++ B ++ (one ∷ [])) (gathered true next)
      (gathered_has xs next rest y l)

-- ---- each name once

other_one : (i j : Interface) (rest is : List Interface) → (Has i rest → Has i is) → Has i (j ∷ rest) → Has i (j ∷ is)
other_one i j rest is q at_front = at_front
other_one i j rest is q (behind g) = behind (q g)

once_in : (seen is : List Interface) (i : Interface) → Has i (each_once seen is) → Has i is
once_in seen [] i h = elim h [ ]
once_in seen (j ∷ is) i h = by (is_among seen j.name) h (once_in seen is i) (once_in (seen ++ j ∷ []) is i)
  where
    by : (b : Bool) → Has i (if b then each_once seen is else j ∷ each_once (seen ++ j ∷ []) is)
        → (Has i (each_once seen is) → Has i is) → (Has i (each_once (seen ++ j ∷ []) is) → Has i is) → Has i (j ∷ is)
    by true g q r = behind (q g)
    by false g q r = other_one i j (each_once (seen ++ j ∷ []) is) is r g

among_more : (seen : List Interface) (j : Interface) (name : List ℕ) → is_among seen name ≡ false → bytes_eq j.name name
    ≡ false → is_among (seen ++ j ∷ []) name ≡ false
among_more [] j name e f = ap (λ b. b || false) f
among_more (h ∷ seen) j name e f = by (bytes_eq h.name name) e (among_more seen j name)
  where
    by : (b : Bool) → (b || is_among seen name) ≡ false → (is_among seen name ≡ false → bytes_eq j.name name ≡ false
        → is_among (seen ++ j ∷ []) name ≡ false) → (b || is_among (seen ++ j ∷ []) name) ≡ false
    by true g rest = cc
    by false g rest = rest g f

pub once_has : (seen is : List Interface) (i : Interface) → Has i is → is_among seen i.name ≡ false → (j : Interface)
    × Has j (each_once seen is) × (j.name ≡ i.name)
once_has seen [] i h e = elim h [ ]
once_has seen (i ∷ is) i' at_front e =
    (i, subst (λ b. Has i (if b then each_once seen is else i ∷ each_once (seen ++ i ∷ []) is)) (sym e) at_front, refl)
once_has seen (h ∷ is) i (behind g) e = by (is_among seen h.name) (bytes_eq h.name i.name) refl (once_has seen is i g)
    (once_has (seen ++ h ∷ []) is i g)
  where
    by : (b s : Bool) → bytes_eq h.name i.name ≡ s → (is_among seen i.name ≡ false → (j : Interface)
        × Has j (each_once seen is) × (j.name ≡ i.name))
        → (is_among (seen ++ h ∷ []) i.name ≡ false → (j : Interface) × Has j (each_once (seen ++ h ∷ []) is)
        × (j.name ≡ i.name))
        → (j : Interface) × Has j (if b then each_once seen is else h ∷ each_once (seen ++ h ∷ []) is)
        × (j.name ≡ i.name)
    by true s f q r = q e
    by false true f q r = (h, at_front, bytes_true h.name i.name f)
    by false false f q r = let k = r (among_more seen h i.name e f) in (k.0, behind k.1, k.2)

known_in : (is : List Interface) (d : Class) → Has d (known is) → (i : Interface) × Has i is × (i.class ≡ Some d)
unfolding known
known_in [] d h = elim h [ ]
known_in (i ∷ is) d h = by i.class refl h (known_in is d)
  where
    Rest : Type 0
    Rest = Has d (known is) → (j : Interface) × Has j is × (j.class ≡ Some d)

    front : (c : Class) → i.class ≡ Some c → Rest → Has d (c ∷ known is) → (j : Interface) × Has j (i ∷ is)
        × (j.class ≡ Some d)
    front c e rest at_front = (i, at_front, e)
    front c e rest (behind g) = let r = rest g in (r.0, behind r.1, r.2)

    by : (o : Option Class) → i.class ≡ o → Has d (option_to_list o ++ known is) → Rest → (j : Interface)
        × Has j (i ∷ is) × (j.class ≡ Some d)
    by None e g rest = let r = rest g in (r.0, behind r.1, r.2)
    by (Some c) e g rest = front c e rest g

known_has : (is : List Interface) (i : Interface) (d : Class) → Has i is → i.class ≡ Some d → Has d (known is)
unfolding known
known_has [] i d h e = elim h [ ]
known_has (i ∷ is) i' d at_front e = subst (λ o. Has d (option_to_list o ++ known is)) (sym e) at_front
known_has (j ∷ is) i d (behind h) e = has-back d (option_to_list j.class) (known is) (known_has is i d h e)

-- ---- of a class

module _ (w : List Class) (acyclic : IsAcyclic w) (c : Class) where
  abbrev all : List Interface
  all = gathered false (supertypes w c.supers) ++ gathered true (supertypes w c.interfaces)

  -- an interface of the class is that of its name, and stands above the class
  pub interface_is : (x : List ℕ) (d : Class) → class_named w x ≡ Some c → Has d (known (interfaces_at w c))
      → (class_named w d.name ≡ Some d) × Above w x d.name
  unfolding interfaces_at
  interface_is x d e h =
      let i = known_in (each_once [] all) d h in
      let r = ⊎_elim {C = IsGathered w (c.supers ++ c.interfaces) i.0}
      (λ g. let q = gathered_are w false c.supers (supertypes w c.supers) (supertypes-AreSupertypes w acyclic c.supers)
      i.0 g in (q.0, from_front w c.supers c.interfaces i.0.name q.1))
      (λ g. let q = gathered_are w true c.interfaces (supertypes w c.interfaces) (supertypes-AreSupertypes w acyclic
      c.interfaces) i.0 g in (q.0, from_back w c.supers c.interfaces i.0.name q.1))
      (has-either i.0 (gathered false (supertypes w c.supers)) (gathered true (supertypes w c.interfaces))
      (once_in [] all i.0 i.1)) in
      let named : class_named w i.0.name ≡ Some d = sym r.0 ∙ i.2 in
      let name_is = class_named-name w i.0.name d named in
      (ap (class_named w) name_is ∙ named, subst (Above w x) (sym name_is) (from_class w x c i.0.name e r.1))

  -- each listed interface that some file has is one of them
  pub interface_has : (y : List ℕ) (d : Class) → Lists y c.interfaces → class_named w y ≡ Some d → (b : Class)
      × Has b (known (interfaces_at w c)) × (b.name ≡ y)
  unfolding interfaces_at
  interface_has y d l e =
      let one : Interface = record { name = y; class = class_named w y } in
      let there = has-back one (gathered false (supertypes w c.supers)) (gathered true (supertypes w c.interfaces))
      (gathered_has w c.interfaces (supertypes w c.interfaces) (supertypes-AreSupertypes w acyclic c.interfaces) y
      l) in
      let j = once_has [] all one there refl in
      let r = ⊎_elim
      (λ g. (gathered_are w false c.supers (supertypes w c.supers) (supertypes-AreSupertypes w acyclic c.supers) j.0
      g).0)
      (λ g. (gathered_are w true c.interfaces (supertypes w c.interfaces) (supertypes-AreSupertypes w acyclic
      c.interfaces) j.0 g).0)
      (has-either j.0 (gathered false (supertypes w c.supers)) (gathered true (supertypes w c.interfaces))
      (once_in [] all j.0 j.1)) in
      let class_is : j.0.class ≡ Some d = r ∙ ap (class_named w) j.2 ∙ e in
      (d, known_has (each_once [] all) j.0 d j.1 class_is, class_named-name w y d e)
