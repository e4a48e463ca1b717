-- The methods of a package are told apart by their classes and their places among the members.
use Rattle.std.proofs.Common.{◌≡◌, ℕ, zero, suc, ◌+◌, ◌<◌, ◌≤◌, refl, ap, subst, ◌∙◌, arith, Bool, true, false, List}
use Rattle.std.proofs.Common.{[], ◌∷◌, ◌++◌, length, Option, Some, None}
use Rattle.std.specs.Prelude.{◌==◌, ◌&&◌, ◌||◌, not, if◌then◌else◌, codes}
use Rattle.std.specs.List.{AllByRecursion}
use Rattle.std.specs.Str.{bytes_eq}
use Rattle.std.proofs.lemmas.Bool.Decides.{nat_tests}
use Rattle.std.proofs.lemmas.Bool.{or_parts}
use Rattle.cjc_world.specs.declared.found.Found.{Found}
use Rattle.cjc_world.specs.Added.{added}
use Rattle.cjc_world.specs.Classes.{Member, Class}
use Rattle.cjc_world.specs.Lookup.{member_at}
use Rattle.cjc_world.specs.Order.{and_then, in_order, is_in, is_of_kind, lined_up, may_stand, method_order}
use Rattle.cjc_world.specs.Order.{methods_in_turn, methods_of_class, next, places, waits, written}
use Rattle.cjc_bytes.proofs.Bools.{both_front}
use Rattle.cjc_bytes.proofs.Quantified.{all_both, each_weaker}
use Rattle.cjc_bytes.proofs.Numbers.{other_way}

-- ---- the same member

-- of the package, by class and by place
abbrev pub is_same : Found → Found → Bool
is_same f g = not f.imported && f.class == g.class && f.member == g.member

other_class : (f g : Found) → (f.class == g.class) ≡ false → is_same f g ≡ false
other_class f g e = by (not f.imported) (f.class == g.class) (f.member == g.member) e
  where
    by : (a b c : Bool) → b ≡ false → (a && b && c) ≡ false
    by true true c e = absurd cc
    by true false c e = refl
    by false true c e = absurd cc
    by false false c e = refl

other_place : (f g : Found) → (f.member == g.member) ≡ false → is_same f g ≡ false
other_place f g e = by (not f.imported) (f.class == g.class) (f.member == g.member) e
  where
    by : (a b c : Bool) → c ≡ false → (a && b && c) ≡ false
    by true true true e = absurd cc
    by true true false e = refl
    by true false true e = absurd cc
    by true false false e = refl
    by false true true e = absurd cc
    by false true false e = refl
    by false false true e = absurd cc
    by false false false e = refl

-- each is none of those behind it
abbrev pub AreApart : List Found → Type 0
AreApart [] = Unit {0}
AreApart (f ∷ fs) = AllByRecursion (λ g. is_same g f ≡ false) fs × AreApart fs

apart_append : (xs ys : List Found) → AreApart xs → AreApart ys
    → AllByRecursion (λ f. AllByRecursion (λ g. is_same g f ≡ false) ys) xs → AreApart (xs ++ ys)
apart_append [] ys a b across = b
apart_append (x ∷ xs) ys a b across = (
  all_both (λ g. is_same g x ≡ false) xs ys a.0 across.0,
  apart_append xs ys a.1 b across.1,
)

-- it is another one than this
abbrev Differs : Found → Found → Type 0
Differs f g = is_same g f ≡ false

-- ---- members of one class

-- of the class, from a place on
record IsFrom (c : Class) (i : ℕ) (f : Found) : Type 0 where
  imported : f.imported ≡ c.is_imported
  class : f.class ≡ c.number
  place : i ≤ f.member

-- of the class
abbrev IsOf : Class → Found → Type 0
IsOf c f = (f.imported ≡ c.is_imported) × (f.class ≡ c.number)

-- and before another place
record IsWithin (c : Class) (i j : ℕ) (f : Found) : Type 0 where
  from : IsFrom c i f
  below : f.member < j

module _ (c : Class) where
  behind : (i : ℕ) (g : Found) → IsFrom c (i + 1) g → is_same g (member_at c i) ≡ false
  behind i g h = let le = h.place in other_place g (member_at c i) (grind (arith, nat_tests, le))

  earlier_from : (i : ℕ) (g : Found) → IsFrom c (i + 1) g → IsFrom c i g
  earlier_from i g h = let le = h.place in record { imported = h.imported; class = h.class; place = omega (arith, le) }

  places_from : (i count : ℕ) → AllByRecursion (IsFrom c i) (places c i count)
  places_from i zero = tt
  places_from i (suc count) = (
    record { imported = refl; class = refl; place = omega arith },
    each_weaker (IsFrom c (i + 1)) (IsFrom c i) (places c (i + 1) count) (earlier_from i) (places_from (i + 1) count),
  )

  places_apart : (i count : ℕ) → AreApart (places c i count)
  places_apart i zero = tt
  places_apart i (suc count) = (
    each_weaker (IsFrom c (i + 1)) (Differs (member_at c i)) (places c (i + 1) count)
        (behind i) (places_from (i + 1) count),
    places_apart (i + 1) count,
  )

  earlier_within : (i j : ℕ) (g : Found) → IsWithin c (i + 1) j g → IsWithin c i j g
  earlier_within i j g h = record { from = earlier_from i g h.from; below = h.below }

  written_within : (i j : ℕ) (ms : List Member) → i + length ms ≤ j → AllByRecursion (IsWithin c i j) (written c i ms)
  written_within i j [] le = tt
  written_within i j (m ∷ ms) le = by (bytes_eq m.name (codes "<clinit>")) (each_weaker (IsWithin c (i + 1) j)
      (IsWithin c i j) (written c (i + 1) ms) (earlier_within i j) (written_within (i + 1) j ms (omega (arith, le))))
    where
      by : (b : Bool) → AllByRecursion (IsWithin c i j) (written c (i + 1) ms) → AllByRecursion (IsWithin c i j) (if b
          then written c (i + 1) ms else member_at c i ∷ written c (i + 1) ms)
      by true all = all
      by false all = (
        record {
          from = record { imported = refl; class = refl; place = omega arith };
          below = omega (arith, le);
        },
        all,
      )

  written_apart : (i : ℕ) (ms : List Member) → AreApart (written c i ms)
  written_apart i [] = tt
  written_apart i (m ∷ ms) = by (bytes_eq m.name (codes "<clinit>")) (written_apart (i + 1) ms)
      (each_weaker (IsWithin c (i + 1) (i + 1 + length ms)) (Differs (member_at c i)) (written c (i + 1) ms)
      (λ g h. behind i g h.from) (written_within (i + 1) (i + 1 + length ms) ms (omega arith)))
    where
      by : (b : Bool) → AreApart (written c (i + 1) ms)
          → AllByRecursion (Differs (member_at c i)) (written c (i + 1) ms) → AreApart (if b then written c (i + 1) ms
          else member_at c i ∷ written c (i + 1) ms)
      by true rest later = rest
      by false rest later = (later, rest)

  class_apart : (w : List Class) → AreApart (methods_of_class w c)
  class_apart w =
      let nf = length c.fields in
      let nm = length c.methods in
      let own = written c nf c.methods in
      let got = places c (nf + nm) (length (added w c)) in
      let far = places_from (nf + nm) (length (added w c)) in
      apart_append own got (written_apart nf c.methods) (places_apart (nf + nm) (length (added w c)))
      (each_weaker (IsWithin c nf (nf + nm)) (λ f. AllByRecursion (Differs f) got) own
      (λ f h. each_weaker (IsFrom c (nf + nm)) (Differs f) got (λ g k. let a = h.below in let b = k.place
      in other_place g f (grind (arith, nat_tests, a, b))) far)
      (written_within nf (nf + nm) c.methods (omega arith)))

  class_from : (w : List Class) → AllByRecursion (IsOf c) (methods_of_class w c)
  class_from w =
      let nf = length c.fields in
      let nm = length c.methods in
      let own = written c nf c.methods in
      let got = places c (nf + nm) (length (added w c)) in
      all_both (IsOf c) own got (each_weaker (IsWithin c nf (nf + nm)) (IsOf c) own (λ f h. let from = h.from
      in (from.imported, from.class)) (written_within nf (nf + nm) c.methods (omega arith)))
      (each_weaker (IsFrom c (nf + nm)) (IsOf c) got (λ f h. (h.imported, h.class)) (places_from (nf + nm)
      (length (added w c))))

-- ---- classes in order

three : (x y z : Bool) → (not x && y && not z) ≡ true → (x ≡ false) × (y ≡ true) × (z ≡ false)
three false true false e = (refl, refl, refl)
three false true true e = absurd cc
three false false true e = absurd cc
three false false false e = absurd cc
three true true true e = absurd cc
three true true false e = absurd cc
three true false true e = absurd cc
three true false false e = absurd cc

-- neither among these nor the one behind them
pub in_neither : (placed : List ℕ) (x n : ℕ) → is_in (placed ++ x ∷ []) n ≡ false → (is_in placed n ≡ false)
    × ((x == n) ≡ false)
in_neither [] x n e = (refl, (or_parts (x == n) false e).0)
in_neither (k ∷ placed) x n e =
    let t = or_parts (k == n) (is_in (placed ++ x ∷ []) n) e in
    let r = in_neither placed x n t.1 in
    (ap (λ b. b || is_in placed n) t.0 ∙ r.0, r.1)

-- a class of the package of this kind whose number is none of these
pub record IsPlaced (interfaces : Bool) (placed : List ℕ) (c : Class) : Type 0 where
  pub own : c.is_imported ≡ false
  pub kind : is_of_kind interfaces c ≡ true
  pub later : is_in placed c.number ≡ false

-- it has another number
abbrev HasOther : Class → Class → Type 0
HasOther c d = (c.number == d.number) ≡ false

-- the numbers of these classes differ
abbrev AreNumbered : List Class → Type 0
AreNumbered [] = Unit {0}
AreNumbered (c ∷ cs) = AllByRecursion (λ d. (c.number == d.number) ≡ false) cs × AreNumbered cs

module _ (w : List Class) (interfaces : Bool) where
  next_waits : (placed : List ℕ) (cs : List Class) (c : Class) → next w interfaces placed cs ≡ Some c
      → IsPlaced interfaces placed c
  unfolding next may_stand
  next_waits placed [] c e = absurd cc
  next_waits placed (d ∷ cs) c e = by (may_stand w interfaces placed d) refl e (next_waits placed cs c)
    where
      by : (b : Bool) → may_stand w interfaces placed d ≡ b → (if b then Some d else next w interfaces placed cs)
          ≡ Some c → (next w interfaces placed cs ≡ Some c → IsPlaced interfaces placed c)
          → IsPlaced interfaces placed c
      by true f g rest =
          let same : d ≡ c = cc in
          let t = three d.is_imported (is_of_kind interfaces d) (is_in placed d.number)
          (both_front (waits interfaces placed d) _ f) in
          subst (IsPlaced interfaces placed) same (record { own = t.0; kind = t.1; later = t.2 })
      by false f g rest = rest g

  pub line_placed : (count : ℕ) (placed : List ℕ) → AllByRecursion (IsPlaced interfaces placed) (lined_up w interfaces
      count placed)
  unfolding lined_up
  line_placed zero placed = tt
  line_placed (suc n) placed = by (next w interfaces placed w) refl (λ c. line_placed n (placed ++ c.number ∷ []))
    where
      by : (o : Option Class) → next w interfaces placed w ≡ o
          → ((c : Class) → AllByRecursion (IsPlaced interfaces (placed ++ c.number ∷ [])) (lined_up w interfaces n
          (placed ++ c.number ∷ [])))
          → AllByRecursion (IsPlaced interfaces placed) (and_then o (λ c. lined_up w interfaces n (placed ++ c.number
          ∷ [])))
      by None e rest = tt
      by (Some c) e rest = (
        next_waits placed w c e,
        each_weaker (IsPlaced interfaces (placed ++ c.number ∷ [])) (IsPlaced interfaces placed) (lined_up w interfaces
            n (placed ++ c.number ∷ []))
            (λ d h. record { own = h.own; kind = h.kind; later = (in_neither placed c.number d.number h.later).0 })
            (rest c),
      )

  pub line_numbered : (count : ℕ) (placed : List ℕ) → AreNumbered (lined_up w interfaces count placed)
  unfolding lined_up
  line_numbered zero placed = tt
  line_numbered (suc n) placed = by (next w interfaces placed w) (λ c. line_numbered n (placed ++ c.number ∷ []))
    where
      by : (o : Option Class) → ((c : Class) → AreNumbered (lined_up w interfaces n (placed ++ c.number ∷ [])))
          → AreNumbered (and_then o (λ c. lined_up w interfaces n (placed ++ c.number ∷ [])))
      by None rest = tt
      by (Some c) rest = (
        each_weaker (IsPlaced interfaces (placed ++ c.number ∷ [])) (HasOther c) (lined_up w interfaces n (placed
            ++ c.number ∷ []))
            (λ d h. (in_neither placed c.number d.number h.later).1) (line_placed n (placed ++ c.number ∷ [])),
        rest c,
      )

-- ---- all methods

-- a member of the package
abbrev pub IsOwn : Found → Type 0
IsOwn f = f.imported ≡ false

abbrev pub AreOwn : List Found → Type 0
AreOwn fs = AllByRecursion IsOwn fs

in_turn_own : (w : List Class) (cs : List Class) → AllByRecursion (λ (c : Class). c.is_imported ≡ false) cs
    → AreOwn (methods_in_turn w cs)
in_turn_own w [] all = tt
in_turn_own w (c ∷ cs) all =
    all_both IsOwn (methods_of_class w c) (methods_in_turn w cs) (each_weaker (IsOf c) IsOwn (methods_of_class w c)
    (λ f h. h.0 ∙ all.0) (class_from c w)) (in_turn_own w cs all.1)

-- it is of another class
abbrev IsOfOther : Class → Found → Type 0
IsOfOther c g = (c.number == g.class) ≡ false

of_others : (w : List Class) (c : Class) (cs : List Class) → AllByRecursion (HasOther c) cs
    → AllByRecursion (IsOfOther c) (methods_in_turn w cs)
of_others w c [] all = tt
of_others w c (d ∷ cs) all =
    all_both (IsOfOther c) (methods_of_class w d) (methods_in_turn w cs)
    (each_weaker (IsOf d) (IsOfOther c) (methods_of_class w d) (λ g h. ap (λ n. c.number == n) h.1
    ∙ all.0) (class_from d w))
    (of_others w c cs all.1)

in_turn_apart : (w : List Class) (cs : List Class) → AreNumbered cs → AreApart (methods_in_turn w cs)
in_turn_apart w [] all = tt
in_turn_apart w (c ∷ cs) all =
    let rest = methods_in_turn w cs in
    apart_append (methods_of_class w c) rest (class_apart c w) (in_turn_apart w cs all.1)
    (each_weaker (IsOf c) (λ f. AllByRecursion (Differs f) rest) (methods_of_class w c)
    (λ f h. each_weaker (IsOfOther c) (Differs f) rest (λ g e. other_class g f (ap (λ n. g.class == n) h.1
    ∙ other_way c.number g.class e)) (of_others w c cs all.0))
    (class_from c w))

pub order_own : (w : List Class) → AreOwn (method_order w)
unfolding method_order in_order
order_own w = in_turn_own w (in_order w false) (each_weaker (IsPlaced false []) (λ (c : Class). c.is_imported ≡ false)
    (in_order w false) (λ c h. h.own) (line_placed w false (length w) []))

pub order_apart : (w : List Class) → AreApart (method_order w)
unfolding method_order in_order
order_apart w = in_turn_apart w (in_order w false) (line_numbered w false (length w) [])
