-- The classes in the order of components, and their methods: all of the package.
use Rattle.std.proofs.Common.{◌≡◌, ℕ, zero, suc, ◌+◌, refl, sym, ap, subst, ◌∙◌, Bool, true, false, List, [], ◌∷◌, ◌++◌}
use Rattle.std.proofs.Common.{length}
use Rattle.std.specs.Prelude.{Option, Some, None, slice_get, not, ◌&&◌, if◌then◌else◌, codes}
use Rattle.std.specs.Str.{bytes_eq}
use Rattle.cjc_world.specs.declared.found.Found.{Found}
use Rattle.cjc_world.specs.Added.{added}
use Rattle.cjc_world.specs.Classes.{Class, Member}
use Rattle.cjc_world.specs.Order.{and_then, in_order, is_of_kind, is_in, lined_up, may_stand, method_order}
use Rattle.cjc_world.specs.Order.{methods_in_turn, methods_of_class, next, places, waits, written}

-- ---- classes

-- a class of the package, of this kind
abbrev pub IsOwn : (interfaces : Bool) → Class → Type 0
IsOwn i c = (c.is_imported ≡ false) × (is_of_kind i c ≡ true)

waits_own : (i : Bool) (placed : List ℕ) (c : Class) → waits i placed c ≡ true → IsOwn i c
waits_own i placed c = by c.is_imported (is_of_kind i c) (is_in placed c.number)
  where
    by : (a b d : Bool) → (not a && b && not d) ≡ true → (a ≡ false) × (b ≡ true)
    by true b d e = absurd (cc)
    by false true d e = (refl, refl)
    by false false d e = absurd (cc)

stands_own : (w : List Class) (i : Bool) (placed : List ℕ) (c : Class) → may_stand w i placed c ≡ true → IsOwn i c
unfolding may_stand
stands_own w i placed c e = by (waits i placed c) refl _ e
  where
    by : (a : Bool) → waits i placed c ≡ a → (b : Bool) → (a && b) ≡ true → IsOwn i c
    by true is b h = waits_own i placed c is
    by false is b h = absurd (cc)

next_own : (w : List Class) (i : Bool) (placed : List ℕ) (cs : List Class) (c : Class) → next w i placed cs ≡ Some c
    → IsOwn i c
unfolding next
next_own w i placed [] c e = absurd (cc)
next_own w i placed (d ∷ cs) c e = by (may_stand w i placed d) refl e (next_own w i placed cs c)
  where
    by : (t : Bool) → may_stand w i placed d ≡ t → (if t then Some d else next w i placed cs) ≡ Some c
        → (next w i placed cs ≡ Some c → IsOwn i c) → IsOwn i c
    by true is h rest = let same : d ≡ c = cc in subst (IsOwn i) same (stands_own w i placed d is)
    by false is h rest = rest h

lined_own : (w : List Class) (i : Bool) (n : ℕ) (placed : List ℕ) (k : ℕ) (c : Class)
    → slice_get (lined_up w i n placed) k ≡ Some c → IsOwn i c
unfolding lined_up
lined_own w i zero placed k c e = absurd (cc)
lined_own w i (suc n) placed k c e = by (next w i placed w) refl k e (λ d j h. lined_own w i n (placed ++ d.number
    ∷ []) j c h)
  where
    by : (o : Option Class) → next w i placed w ≡ o → (k : ℕ)
        → slice_get (and_then o (λ d. lined_up w i n (placed ++ d.number ∷ []))) k ≡ Some c
        → ((d : Class) (j : ℕ) → slice_get (lined_up w i n (placed ++ d.number ∷ [])) j ≡ Some c → IsOwn i c)
        → IsOwn i c
    by None is k h rest = absurd (cc)
    by (Some d) is zero h rest = let same : d ≡ c = cc in next_own w i placed w c (is ∙ ap Some same)
    by (Some d) is (suc j) h rest = rest d j h

pub order_own : (w : List Class) (i : Bool) (k : ℕ) (c : Class) → slice_get (in_order w i) k ≡ Some c → IsOwn i c
unfolding in_order
order_own w i k c e = lined_own w i (length w) [] k c e

-- ---- methods

-- all are of the package
abbrev pub AllOwn : List Found → Type 0
AllOwn [] = Unit {0}
AllOwn (f ∷ fs) = (f.imported ≡ false) × AllOwn fs

own_both : (xs ys : List Found) → AllOwn xs → AllOwn ys → AllOwn (xs ++ ys)
own_both [] ys a b = b
own_both (x ∷ xs) ys a b = (a.0, own_both xs ys a.1 b)

own_get : (xs : List Found) (k : ℕ) (f : Found) → AllOwn xs → slice_get xs k ≡ Some f → f.imported ≡ false
own_get [] k f a e = absurd (cc)
own_get (x ∷ xs) zero f a e = let same : x ≡ f = cc in sym (ap (λ (g : Found). g.imported) same) ∙ a.0
own_get (x ∷ xs) (suc k) f a e = own_get xs k f a.1 e

written_own : (c : Class) → c.is_imported ≡ false → (i : ℕ) (ms : List Member) → AllOwn (written c i ms)
written_own c own i [] = tt
written_own c own i (m ∷ ms) = by (bytes_eq m.name (codes "<clinit>")) (written_own c own (i + 1) ms)
  where
    by : (t : Bool) → AllOwn (written c (i + 1) ms) → AllOwn (if t then written c (i + 1) ms
        else record { imported = c.is_imported; class = c.number; member = i } ∷ written c (i + 1) ms)
    by true rest = rest
    by false rest = (own, rest)

places_own : (c : Class) → c.is_imported ≡ false → (i n : ℕ) → AllOwn (places c i n)
places_own c own i zero = tt
places_own c own i (suc n) = (own, places_own c own (i + 1) n)

class_own : (w : List Class) (c : Class) → c.is_imported ≡ false → AllOwn (methods_of_class w c)
class_own w c own = own_both (written c (length c.fields) c.methods) (places c (length c.fields + length c.methods)
    (length (added w c))) (written_own c own (length c.fields) c.methods)
    (places_own c own (length c.fields + length c.methods) (length (added w c)))

turn_own : (w : List Class) (cs : List Class) → ((k : ℕ) (c : Class) → slice_get cs k ≡ Some c → c.is_imported ≡ false)
    → AllOwn (methods_in_turn w cs)
turn_own w [] own = tt
turn_own w (c ∷ cs) own = own_both (methods_of_class w c) (methods_in_turn w cs) (class_own w c (own 0 c refl))
    (turn_own w cs (λ k d e. own (suc k) d e))

pub method_own : (w : List Class) (k : ℕ) (f : Found) → slice_get (method_order w) k ≡ Some f → f.imported ≡ false
unfolding method_order
method_own w k f e = own_get (methods_in_turn w (in_order w false)) k f (turn_own w (in_order w false)
    (λ j c h. (order_own w false j c h).0)) e
