-- Classes of one kind are numbered in the order in which they stand, so that the list of their places finds a number,
-- and a number its class.
use Rattle.std.proofs.Common.{◌≡◌, ℕ, zero, suc, ◌<◌, ◌≤◌, ◌+◌, refl, sym, ap, subst, ◌∙◌, arith, Bool, true, false}
use Rattle.std.proofs.Common.{List, [], ◌∷◌, ◌++◌, length, get_or, drop, add-one}
use Rattle.std.specs.Prelude.{MatchOption, Option, Some, None, if◌then◌else◌, ◌&&◌, ◌==◌, option_map, option_and_then}
use Rattle.std.specs.Prelude.{option_to_list, slice_get}
use Rattle.std.proofs.Math.Seq.{drop-cons}
use Rattle.std.proofs.lemmas.Bool.Decides.{nat_tests}
use Rattle.std.proofs.lemmas.Grind.{common_steps}
use Rattle.cjc_bytes.specs.declared.settings.FileLine.{FileLine}
use Rattle.cjc_bytes.proofs.Numbers.{like_number}
use Rattle.cjc_classfile.specs.declared.tree.ClassTree.{ClassTree}
use Rattle.cjc_export.specs.declared.tree.ExportClass.{ExportClass}
use Rattle.cjc_export.specs.declared.tree.ExportTree.{ExportTree}
use Rattle.cjc_world.specs.declared.numbers.Numbers.{Numbers}
use Rattle.cjc_world.specs.declared.spot.ClassPlace.{ClassPlace}
use Rattle.cjc_world.specs.Classes.{Class, declared, imported, of_class_file, of_export_file, numbered, size}
use Rattle.cjc_world.specs.Classes.{classes_from, class_at}
use Rattle.cjc_world.specs.Working.Numbers.{AreListed, IsListed, is_of_kind, places_in, places_of}
use Rattle.cjc_world.specs.Working.Spots.{at, stood}
use Rattle.cjc_world.proofs.Indexing.{classes_next}
use Rattle.cjc_world.proofs.Noted.{stood-few}

-- ---- the walk over spots

pub place-here : (b : Bool) (ss : List ClassPlace) (i : ℕ) (d : ClassPlace) → i < length ss
    → is_of_kind b (get_or ss i d).imported ≡ true → places_of b i (drop i ss) ≡ i
    ∷ places_of b (i + 1) (drop (i + 1) ss)
unfolding places_of
place-here b ss i d l e =
    ap (places_of b i) (drop-cons ss i d l)
    ∙ ap (λ t. if t then i ∷ places_of b (i + 1) (drop (suc i) ss) else places_of b (i + 1) (drop (suc i) ss)) e
    ∙ ap (λ n. i ∷ places_of b (i + 1) (drop n ss)) (sym (add-one i))

pub place-over : (b : Bool) (ss : List ClassPlace) (i : ℕ) (d : ClassPlace) → i < length ss
    → is_of_kind b (get_or ss i d).imported ≡ false → places_of b i (drop i ss) ≡ places_of b (i + 1) (drop (i + 1) ss)
unfolding places_of
place-over b ss i d l e =
    ap (places_of b i) (drop-cons ss i d l)
    ∙ ap (λ t. if t then i ∷ places_of b (i + 1) (drop (suc i) ss) else places_of b (i + 1) (drop (suc i) ss)) e
    ∙ ap (λ n. places_of b (i + 1) (drop n ss)) (sym (add-one i))

pub place-end : (b : Bool) (ss : List ClassPlace) (i : ℕ) → length ss ≤ i → places_of b i (drop i ss) ≡ []
unfolding places_of
place-end b ss i past = let e : drop i ss ≡ [] = grind (arith, common_steps) in ap (places_of b i) e

-- ---- spots and their classes

unfoldable classes_of : (b : Bool) → ℕ → List Class → List ℕ
classes_of b n [] = []
classes_of b n (c ∷ w) = if is_of_kind b c.is_imported then n ∷ classes_of b (n + 1) w else classes_of b (n + 1) w

module _ (cs : List ClassTree) (es : List ExportTree) where
  spot-kind : (s : ClassPlace) (c : Class) → at cs es s ≡ Some c → s.imported ≡ c.is_imported
  spot-kind s c e = by s.imported (slice_get cs s.tree) (option_and_then (λ t. slice_get t.classes s.class)
      (slice_get es s.tree)) e
    where
      by : (b : Bool) (o : Option ClassTree) (x : Option ExportClass)
          → (if b then option_map (λ c. imported s.number c) x else option_map (λ c. declared s.number c) o) ≡ Some c
          → b ≡ c.is_imported
      by true o None e = cc
      by true o (Some x) e = let is : imported s.number x ≡ c = cc in ap (λ (v : Class). v.is_imported) is
      by false None x e = cc
      by false (Some o) x e = let is : declared s.number o ≡ c = cc in ap (λ (v : Class). v.is_imported) is

  spots-classes : (b : Bool) (n : ℕ) (ss : List ClassPlace) → length ss ≡ length (stood cs es ss)
      → places_of b n ss ≡ classes_of b n (stood cs es ss)
  unfolding places_of classes_of
  spots-classes b n [] l = refl
  spots-classes b n (s ∷ ss) l = by (at cs es s) refl l (spots-classes b (n + 1) ss)
    where
      by : (o : Option Class) → at cs es s ≡ o → suc (length ss) ≡ length (option_to_list o ++ stood cs es ss)
          → (length ss ≡ length (stood cs es ss) → places_of b (n + 1) ss ≡ classes_of b (n + 1) (stood cs es ss))
          → (if is_of_kind b s.imported then n ∷ places_of b (n + 1) ss else places_of b (n + 1) ss)
          ≡ classes_of b n (option_to_list o ++ stood cs es ss)
      by None h l rest = let f = stood-few cs es ss in absurd (omega arith)
      by (Some c) h l rest =
          ap (λ ps. if is_of_kind b s.imported then n ∷ ps else ps) (rest (omega arith))
          ∙ ap (λ k. if is_of_kind b k then n ∷ classes_of b (n + 1) (stood cs es ss)
          else classes_of b (n + 1) (stood cs es ss)) (spot-kind s c h)

-- ---- the classes of a kind are numbered from a number on

next : Bool → ℕ → ℕ
next true s = s + 1
next false s = s

unfoldable IsRising : Bool → ℕ → List Class → Type 0
IsRising b s [] = Unit {0}
IsRising b s (c ∷ w) = (is_of_kind b c.is_imported ≡ true → c.number ≡ s)
    × IsRising b (next (is_of_kind b c.is_imported) s) w

unlike : (m n : ℕ) → m < n → (m == n) ≡ false
unlike m n l = grind (arith, nat_tests)

-- what a place among the classes and a number have in common
Meets : List Class → Option Class → ℕ → Option ℕ → Type 0
Meets w o m None = o ≡ None
Meets w o m (Some q) = (p : ℕ) × (q ≡ m + p) × (slice_get w p ≡ o)

meets-on : (c : Class) (w : List Class) (o : Option Class) (m : ℕ) (q : Option ℕ) → Meets w o (m + 1) q
    → Meets (c ∷ w) o m q
unfolding Meets
meets-on c w o m None e = e
meets-on c w o m (Some q) e = (suc e.0, (let f = e.1 in omega arith), e.2)

number-meets : (b : Bool) (s m : ℕ) (w : List Class) → IsRising b s w → (n : ℕ)
    → Meets w (class_at w b (s + n)) m (slice_get (classes_of b m w) n)
unfolding Meets class_at classes_of IsRising next
number-meets b s m [] r n = refl
number-meets b s m (c ∷ w) r n = by (is_of_kind b c.is_imported) r n (λ s n h. number-meets b s (m + 1) w h n)
  where
    by : (t : Bool) → ((t ≡ true → c.number ≡ s) × IsRising b (next t s) w) → (n : ℕ)
        → ((s n : ℕ) → IsRising b s w → Meets w (class_at w b (s + n)) (m + 1) (slice_get (classes_of b (m + 1) w) n))
        → Meets (c ∷ w) (if t && (c.number == (s + n)) then Some c else class_at w b (s + n)) m (slice_get (if t
        then m ∷ classes_of b (m + 1) w else classes_of b (m + 1) w) n)
    by false r n rest = meets-on c w (class_at w b (s + n)) m (slice_get (classes_of b (m + 1) w) n) (rest s n r.1)
    by true r zero rest =
        let is : c.number ≡ s + 0 = r.0 refl ∙ (let z : s ≡ s + 0 = omega arith in z) in (
          0,
          (let z : m ≡ m + 0 = omega arith in z),
          sym (ap (λ k. if k == (s + 0) then Some c else class_at w b (s + 0))
              is ∙ ap (λ t. if t then Some c else class_at w b (s + 0)) (like_number (s + 0))),
        )
    by true r (suc n) rest =
        let is = r.0 refl in
        let other : (c.number == (s + suc n)) ≡ false = unlike c.number (s + suc n) (omega arith) in
        let on : s + 1 + n ≡ s + suc n = omega arith in
        let met = subst (λ k. Meets w (class_at w b k) (m + 1) (slice_get (classes_of b (m + 1) w) n)) on
        (rest (s + 1) n r.1) in
        subst (λ t. Meets (c ∷ w) (if t then Some c else class_at w b (s + suc n)) m (slice_get (classes_of b (m + 1) w)
        n)) (sym other)
        (meets-on c w (class_at w b (s + suc n)) m (slice_get (classes_of b (m + 1) w) n) met)

-- ---- so are those of the list

over-numbered : (s i : ℕ) (xs : List ExportClass) (w : List Class) → IsRising false s w
    → IsRising false s (numbered i xs ++ w)
unfolding IsRising next
over-numbered s i [] w r = r
over-numbered s i (x ∷ xs) w r = ((λ e. cc), over-numbered s (i + 1) xs w r)

on-numbered : (i : ℕ) (xs : List ExportClass) (w : List Class) → IsRising true (i + length xs) w
    → IsRising true i (numbered i xs ++ w)
unfolding IsRising next
on-numbered i [] w r = subst (λ n. IsRising true n w) (let z : i + 0 ≡ i = omega arith in z) r
on-numbered i (x ∷ xs) w r = (
  (λ e. refl),
  on-numbered (i + 1) xs w (subst (λ n. IsRising true n w) (let z : i + suc (length xs)
      ≡ i + 1 + length xs = omega arith in z) r),
)

past-end : {A : Type 0} (xs : List A) (n : ℕ) → slice_get xs n ≡ None → slice_get xs (n + 1) ≡ None
past-end xs n e = ap (slice_get xs) (add-one n) ∙ past xs n e
  where
    past : {A : Type 0} (xs : List A) (n : ℕ) → slice_get xs n ≡ None → slice_get xs (suc n) ≡ None
    past [] n e = refl
    past (x ∷ xs) zero e = cc
    past (x ∷ xs) (suc n) e = past xs n e

module _ (cs : List ClassTree) (es : List ExportTree) where
  -- no class file is left
  none-left : (c e i s : ℕ) (lines : List FileLine) → slice_get cs c ≡ None
      → IsRising false s (classes_from cs es c e i lines)
  unfolding classes_from IsRising
  none-left c e i s [] h = tt
  none-left c e i s (line ∷ lines) h = by line.class_file (none-left (c + 1) e i s lines (past-end cs c h))
      (λ k. none-left c (e + 1) k s lines h)
    where
      by : (b : Bool) → IsRising false s (classes_from cs es (c + 1) e i lines)
          → ((k : ℕ) → IsRising false s (classes_from cs es c (e + 1) k lines))
          → IsRising false s (if b then of_class_file c (slice_get cs c) ++ classes_from cs es (c + 1) e i lines
          else of_export_file i (slice_get es e) ++ classes_from cs es c (e + 1) (i + size (slice_get es e)) lines)
      by true next over = subst (λ o. IsRising false s (of_class_file c o ++ classes_from cs es (c + 1) e i lines))
          (sym h) next
      by false next over = inner (slice_get es e)
        where
          inner : (o : Option ExportTree) → IsRising false s (of_export_file i o
              ++ classes_from cs es c (e + 1) (i + size o) lines)
          inner None = over (i + 0)
          inner (Some t) = over-numbered s i t.classes (classes_from cs es c (e + 1) (i + length t.classes) lines)
              (over (i + length t.classes))

  files-rise : (c e i : ℕ) (lines : List FileLine) → IsRising false c (classes_from cs es c e i lines)
  unfolding classes_from IsRising next
  files-rise c e i [] = tt
  files-rise c e i (line ∷ lines) = by line.class_file (files-rise (c + 1) e i lines) (λ k. files-rise c (e + 1) k
      lines)
    where
      by : (b : Bool) → IsRising false (c + 1) (classes_from cs es (c + 1) e i lines)
          → ((k : ℕ) → IsRising false c (classes_from cs es c (e + 1) k lines))
          → IsRising false c (if b then of_class_file c (slice_get cs c) ++ classes_from cs es (c + 1) e i lines
          else of_export_file i (slice_get es e) ++ classes_from cs es c (e + 1) (i + size (slice_get es e)) lines)
      by true on over = inner (slice_get cs c) refl
        where
          inner : (o : Option ClassTree) → slice_get cs c ≡ o → IsRising false c (of_class_file c o
              ++ classes_from cs es (c + 1) e i lines)
          inner None h = none-left (c + 1) e i c lines (past-end cs c h)
          inner (Some t) h = ((λ e. refl), on)
      by false on over = inner (slice_get es e)
        where
          inner : (o : Option ExportTree) → IsRising false c (of_export_file i o
              ++ classes_from cs es c (e + 1) (i + size o) lines)
          inner None = over (i + 0)
          inner (Some t) = over-numbered c i t.classes (classes_from cs es c (e + 1) (i + length t.classes) lines)
              (over (i + length t.classes))

  imports-rise : (c e i : ℕ) (lines : List FileLine) → IsRising true i (classes_from cs es c e i lines)
  unfolding classes_from IsRising next
  imports-rise c e i [] = tt
  imports-rise c e i (line ∷ lines) = by line.class_file (imports-rise (c + 1) e i lines) (λ k. imports-rise c (e + 1) k
      lines)
    where
      by : (b : Bool) → IsRising true i (classes_from cs es (c + 1) e i lines)
          → ((k : ℕ) → IsRising true k (classes_from cs es c (e + 1) k lines))
          → IsRising true i (if b then of_class_file c (slice_get cs c) ++ classes_from cs es (c + 1) e i lines
          else of_export_file i (slice_get es e) ++ classes_from cs es c (e + 1) (i + size (slice_get es e)) lines)
      by true next over = inner (slice_get cs c)
        where
          inner : (o : Option ClassTree) → IsRising true i (of_class_file c o ++ classes_from cs es (c + 1) e i lines)
          inner None = next
          inner (Some t) = ((λ e. cc), next)
      by false next over = inner (slice_get es e)
        where
          inner : (o : Option ExportTree) → IsRising true i (of_export_file i o
              ++ classes_from cs es c (e + 1) (i + size o) lines)
          inner None = subst (λ n. IsRising true n (classes_from cs es c (e + 1) (i + 0) lines)) (let z : i + 0
              ≡ i = omega arith in z) (over (i + 0))
          inner (Some t) = on-numbered i t.classes (classes_from cs es c (e + 1) (i + length t.classes) lines)
              (over (i + length t.classes))

  rises : (b : Bool) (lines : List FileLine) → IsRising b 0 (classes_from cs es 0 0 0 lines)
  rises true lines = imports-rise 0 0 0 lines
  rises false lines = files-rise 0 0 0 lines

  -- what the list of places answers
  pub number-place : (b : Bool) (lines : List FileLine) (ss : List ClassPlace)
      → stood cs es ss ≡ classes_from cs es 0 0 0 lines → length ss ≡ length (stood cs es ss) → (n p : ℕ)
      → slice_get (places_of b 0 ss) n ≡ Some p → slice_get (classes_from cs es 0 0 0 lines) p
      ≡ class_at (classes_from cs es 0 0 0 lines) b n
  unfolding Meets
  number-place b lines ss all few n p e =
      let w = classes_from cs es 0 0 0 lines in
      let listed : slice_get (classes_of b 0 w) n ≡ Some p = ap (λ w. slice_get (classes_of b 0 w) n) (sym all)
      ∙ ap (λ ps. slice_get ps n) (sym (spots-classes cs es b 0 ss few)) ∙ e in
      let met = subst (λ o. Meets w (class_at w b n) 0 o) listed
      (subst (λ k. Meets w (class_at w b k) 0 (slice_get (classes_of b 0 w) n)) (let z : 0 + n ≡ n = omega arith
      in z) (number-meets b 0 0 w (rises b lines) n)) in
      ap (slice_get w) (let z : p ≡ met.0 = met.1 ∙ (let y : 0 + met.0 ≡ met.0 = omega arith in y) in z) ∙ met.2

  pub number-none : (b : Bool) (lines : List FileLine) (ss : List ClassPlace)
      → stood cs es ss ≡ classes_from cs es 0 0 0 lines → length ss ≡ length (stood cs es ss) → (n : ℕ)
      → slice_get (places_of b 0 ss) n ≡ None → class_at (classes_from cs es 0 0 0 lines) b n ≡ None
  unfolding Meets
  number-none b lines ss all few n e =
      let w = classes_from cs es 0 0 0 lines in
      let listed : slice_get (classes_of b 0 w) n ≡ None = ap (λ w. slice_get (classes_of b 0 w) n) (sym all)
      ∙ ap (λ ps. slice_get ps n) (sym (spots-classes cs es b 0 ss few)) ∙ e in
      subst (λ o. Meets w (class_at w b n) 0 o) listed
      (subst (λ k. Meets w (class_at w b k) 0 (slice_get (classes_of b 0 w) n)) (let z : 0 + n ≡ n = omega arith
      in z) (number-meets b 0 0 w (rises b lines) n))

  pub number-answers : (b : Bool) (lines : List FileLine) (ss : List ClassPlace)
      → stood cs es ss ≡ classes_from cs es 0 0 0 lines → length ss ≡ length (stood cs es ss) → (n : ℕ) (o : Option ℕ)
      → o ≡ slice_get (places_of b 0 ss) n → MatchOption o (class_at (classes_from cs es 0 0 0 lines) b n ≡ None)
      (λ p. slice_get (classes_from cs es 0 0 0 lines) p ≡ class_at (classes_from cs es 0 0 0 lines) b n)
  number-answers b lines ss all few n None e = number-none b lines ss all few n (sym e)
  number-answers b lines ss all few n (Some p) e = number-place b lines ss all few n p (sym e)

-- what is noted of one kind
pub noted-places : (b : Bool) (n : Numbers) (ss : List ClassPlace) → n.declared ≡ places_of false 0 ss
    → n.imported ≡ places_of true 0 ss → places_in b n ≡ places_of b 0 ss
noted-places true n ss d i = i
noted-places false n ss d i = d

-- ---- the number of a class finds it

number-itself : (b : Bool) (s : ℕ) (w : List Class) → IsRising b s w → (p : ℕ) (c : Class) → slice_get w p ≡ Some c
    → is_of_kind b c.is_imported ≡ true → (s ≤ c.number) × (class_at w b c.number ≡ Some c)
unfolding class_at IsRising next
number-itself b s [] r p c e k = cc
number-itself b s (d ∷ w) r p c e k = by (is_of_kind b d.is_imported) refl r p e
    (λ s n h f. number-itself b s w h n c f k)
  where
    by : (t : Bool) → is_of_kind b d.is_imported ≡ t → ((t ≡ true → d.number ≡ s) × IsRising b (next t s) w) → (p : ℕ)
        → slice_get (d ∷ w) p ≡ Some c
        → ((s p : ℕ) → IsRising b s w → slice_get w p ≡ Some c → (s ≤ c.number) × (class_at w b c.number ≡ Some c))
        → (s ≤ c.number) × ((if t && (d.number == c.number) then Some d else class_at w b c.number) ≡ Some c)
    by true f r zero e rest =
        let is : d ≡ c = cc in
        let here : d.number ≡ s = r.0 refl in
        let number : d.number ≡ c.number = ap (λ (v : Class). v.number) is in (
          omega arith,
          ap (λ n. if n == c.number then Some d else class_at w b c.number) number
              ∙ ap (λ t. if t then Some d else class_at w b c.number) (like_number c.number) ∙ ap Some is,
        )
    by true f r (suc p) e rest =
        let on = rest (s + 1) p r.1 e in
        let here : d.number ≡ s = r.0 refl in
        let above = on.0 in
        let other : (d.number == c.number) ≡ false = unlike d.number c.number (omega arith) in
        (omega arith, ap (λ t. if t then Some d else class_at w b c.number) other ∙ on.1)
    by false f r zero e rest =
        let is : d ≡ c = cc in
        let kind : is_of_kind b d.is_imported ≡ is_of_kind b c.is_imported =
        ap (λ (v : Class). is_of_kind b v.is_imported) is in
        cc
    by false f r (suc p) e rest = rest s p r.1 e

own-kind : (b : Bool) → is_of_kind b b ≡ true
own-kind true = refl
own-kind false = refl

from-each : (w cs : List Class) → ((p : ℕ) (c : Class) → slice_get cs p ≡ Some c → IsListed w c) → AreListed w cs
unfolding AreListed
from-each w [] each = tt
from-each w (c ∷ cs) each = (each 0 c refl, from-each w cs (λ p d e. each (suc p) d e))

module _ (cs : List ClassTree) (es : List ExportTree) where
  pub all-listed : (lines : List FileLine) → AreListed (classes_from cs es 0 0 0 lines) (classes_from cs es 0 0 0 lines)
  all-listed lines =
      let w = classes_from cs es 0 0 0 lines in
      from-each w w (λ p c e. (number-itself c.is_imported 0 w (rises cs es c.is_imported lines) p c e
      (own-kind c.is_imported)).1)

pub listed-split : (w cs ds : List Class) → AreListed w (cs ++ ds) → AreListed w cs × AreListed w ds
unfolding AreListed
listed-split w [] ds h = (tt, h)
listed-split w (c ∷ cs) ds h = let rest = listed-split w cs ds h.1 in ((h.0, rest.0), rest.1)

pub listed-class : (w : List Class) (number : ℕ) (o : Option ClassTree) (c : ClassTree) → o ≡ Some c
    → AreListed w (of_class_file number o) → IsListed w (declared number c)
unfolding AreListed
listed-class w number o c e h = let all = subst (λ o. AreListed w (of_class_file number o)) e h in all.0

pub listed-numbered : (w : List Class) (n : ℕ) (xs : List ExportClass) (i : ℕ) (x : ExportClass) → i < length xs
    → x ≡ get_or xs i x → AreListed w (numbered n xs) → IsListed w (imported (n + i) x)
unfolding AreListed
listed-numbered w n [] i x l e h = absurd (omega arith)
listed-numbered w n (y ∷ xs) zero x l e h =
    let at : n ≡ n + 0 = omega arith in
    ap (λ m. class_at w true m) (sym at) ∙ h.0 ∙ ap (λ m. Some (imported m y)) at ∙ ap (λ z. Some (imported (n + 0) z))
    (sym e)
listed-numbered w n (y ∷ xs) (suc i) x l e h =
    let at : n + 1 + i ≡ n + suc i = omega arith in
    subst (λ m. IsListed w (imported m x)) at (listed-numbered w (n + 1) xs i x (omega arith) e h.1)

module _ (cs : List ClassTree) (es : List ExportTree) (lines : List FileLine) (w : List Class) (c e i k : ℕ)
    (d : FileLine) (within : k < length lines) (is : d ≡ get_or lines k d)
    (listed : AreListed w (classes_from cs es c e i (drop k lines))) where
  pub listed-class-line : d.class_file ≡ true → AreListed w (of_class_file c (slice_get cs c))
      × AreListed w (classes_from cs es (c + 1) e i (drop (k + 1) lines))
  listed-class-line t = listed-split w (of_class_file c (slice_get cs c)) (classes_from cs es (c + 1) e i
      (drop (k + 1) lines)) (subst (AreListed w) (classes_next cs es lines c e i k d within
      ∙ ap (λ b. if b then of_class_file c (slice_get cs c) ++ classes_from cs es (c + 1) e i (drop (k + 1) lines)
      else of_export_file i (slice_get es e) ++ classes_from cs es c (e + 1) (i + size (slice_get es e))
      (drop (k + 1) lines)) (ap (λ (v : FileLine). v.class_file) (sym is) ∙ t)) listed)

  pub listed-export-line : d.class_file ≡ false → AreListed w (of_export_file i (slice_get es e))
      × AreListed w (classes_from cs es c (e + 1) (i + size (slice_get es e)) (drop (k + 1) lines))
  listed-export-line t = listed-split w (of_export_file i (slice_get es e)) (classes_from cs es c (e + 1)
      (i + size (slice_get es e)) (drop (k + 1) lines)) (subst (AreListed w) (classes_next cs es lines c e i k d within
      ∙ ap (λ b. if b then of_class_file c (slice_get cs c) ++ classes_from cs es (c + 1) e i (drop (k + 1) lines)
      else of_export_file i (slice_get es e) ++ classes_from cs es c (e + 1) (i + size (slice_get es e))
      (drop (k + 1) lines)) (ap (λ (v : FileLine). v.class_file) (sym is) ∙ t)) listed)

pub listed-moved : (cs : List ClassTree) (es : List ExportTree) (lines : List FileLine) (w : List Class)
    (c e i c' e' i' : ℕ) → AreListed w (classes_from cs es c e i lines) → c ≡ c' → e ≡ e' → i ≡ i'
    → AreListed w (classes_from cs es c' e' i' lines)
listed-moved cs es lines w c e i c' e' i' h q r s = subst (λ v. AreListed w (classes_from cs es c' e' v lines)) s
    (subst (λ v. AreListed w (classes_from cs es c' v i lines)) r
    (subst (λ v. AreListed w (classes_from cs es v e i lines)) q h))
