-- Where a group breaks none of 731 to 734 its packages agree.
use Rattle.std.proofs.Common.{◌≡◌, ℕ, zero, suc, ◌+◌, ◌-◌, ◌<◌, ◌≤◌, ◌⊎◌, inl, inr, refl, ap, subst, arith}
use Rattle.std.proofs.Common.{Bool, true, false, List, [], ◌∷◌, ◌++◌, take, drop, Some}
use Rattle.std.specs.Prelude.{◌&&◌, ◌||◌, not, slice_get}
use Rattle.std.specs.List.{list_any}
use Rattle.std.specs.Str.{bytes_eq}
use Rattle.std.proofs.lemmas.Slice.Eq.{bytes_eq-Decides}
use Rattle.std.proofs.lemmas.Bool.{or_parts, and_from}
use Rattle.cjc_bytes.specs.Breaks.{Break, at, each_from}
use Rattle.cjc_bytes.proofs.Bools.{not_false, true_not_false}
use Rattle.cjc_bytes.proofs.BrokenRules.{not_broken, empty_both}
use Rattle.cjc_bytes.proofs.Gets.{any_off}
use Rattle.cjc_world.specs.ExportFile.declared.tree.ExportClass.{ExportClass}
use Rattle.cjc_world.specs.ExportFile.declared.tree.ExportTree.{ExportTree}
use Rattle.cjc_group.specs.Agree.{Agree, Imports, IsWrittenBefore}
use Rattle.cjc_group.specs.Members.{Member}
use Rattle.cjc_group.specs.Rules.{breaks, class_breaks, differs_from, differs_from_one, imports, imports_differing}
use Rattle.cjc_group.specs.Rules.{imports_other, imports_resting, is_named_alike, is_of, is_outside, list_at}
use Rattle.cjc_group.specs.Rules.{list_breaks}
use Rattle.cjc_group.specs.Rules.{member_breaks, rests_on, stands_below}
use Rattle.cjc_group.specs.Trees.{same_tree}
use Rattle.cjc_group.proofs.Alike.{tree-Decides}

-- ---- tests

not_both : (a b : Bool) → (a && b) ≡ false → a ≡ true → b ≡ false
not_both true b e is = e
not_both false b e is = absurd cc

either_true : (a b : Bool) → (a ≡ true) ⊎ (b ≡ true) → (a || b) ≡ true
either_true true b h = refl
either_true false b h = elim h [ inl e ↦ absurd cc | inr e ↦ e ]

-- ---- lists

-- one of a list, by its place
record OneOf {A : Type 0} (f : A → Bool) (xs : List A) : Type 0 where
  place : ℕ
  item : A
  is : slice_get xs place ≡ Some item
  fits : f item ≡ true

one_here : {A : Type 0} (f : A → Bool) (y : A) (xs : List A) (b : Bool) → f y ≡ b
    → (list_any f xs ≡ true → OneOf f xs) → (b || list_any f xs) ≡ true → OneOf f (y ∷ xs)
one_here f y xs true h later e = record { place = 0; item = y; is = refl; fits = h }
one_here f y xs false h later e =
    let more = later e in record { place = suc more.place; item = more.item; is = more.is; fits = more.fits }

one_of : {A : Type 0} (f : A → Bool) (xs : List A) → list_any f xs ≡ true → OneOf f xs
one_of f [] e = absurd cc
one_of f (y ∷ xs) e = one_here f y xs (f y) refl (one_of f xs) e

less_or : (i j : ℕ) → (j < i) ⊎ (i ≤ j)
less_or zero j = inr (omega arith)
less_or (suc i) zero = inl (omega arith)
less_or (suc i) (suc j) = elim (less_or i j) [ inl l ↦ inl (omega (arith, l)) | inr l ↦ inr (omega (arith, l)) ]

in_front : {A : Type 0} (xs : List A) (i j : ℕ) (x : A) → j < i → slice_get xs j ≡ Some x
    → slice_get (take i xs) j ≡ Some x
in_front [] i j x lt g = absurd cc
in_front (y ∷ xs) zero j x lt g = absurd (omega (arith, lt))
in_front (y ∷ xs) (suc i) zero x lt g = g
in_front (y ∷ xs) (suc i) (suc j) x lt g = in_front xs i j x (omega (arith, lt)) g

in_back : {A : Type 0} (xs : List A) (i j : ℕ) (x : A) → i ≤ j → slice_get xs j ≡ Some x
    → slice_get (drop i xs) (j - i) ≡ Some x
in_back [] i j x le g = absurd cc
in_back (y ∷ xs) zero j x le g =
    let e : j ≡ j - 0 = omega arith in subst (λ k. slice_get (y ∷ xs) k ≡ Some x) e g
in_back (y ∷ xs) (suc i) zero x le g = absurd (omega (arith, le))
in_back (y ∷ xs) (suc i) (suc j) x le g =
    let e : j - i ≡ suc j - suc i = omega arith in
    subst (λ k. slice_get (drop i xs) k ≡ Some x) e (in_back xs i j x (omega (arith, le)) g)

-- ---- breaks

each_none : {A : Type 0} (f : ℕ → A → List Break) (n : ℕ) (xs : List A) (k : ℕ) (x : A) → each_from f n xs ≡ []
    → slice_get xs k ≡ Some x → f (n + k) x ≡ []
unfolding each_from
each_none f n [] k x e g = absurd cc
each_none f n (y ∷ xs) zero x e g =
    let same : y ≡ x = cc in
    let at_n : n ≡ n + 0 = omega arith in
    subst (λ k. f k x ≡ []) at_n (subst (λ z. f n z ≡ []) same (empty_both (f n y) (each_from f (n + 1) xs) e).0)
each_none f n (y ∷ xs) (suc k) x e g =
    let at_k : n + 1 + k ≡ n + suc k = omega arith in
    subst (λ m. f m x ≡ []) at_k (each_none f (n + 1) xs k x (empty_both (f n y) (each_from f (n + 1) xs) e).1 g)

-- ---- a package

module _ (group : List Member) (none : breaks group ≡ []) where
  -- the tests that it passes
  record Passes (i : ℕ) (p : Member) : Type 0 where
    other : list_any (λ m. imports_other p m) (take i group) ≡ false
    later : list_any (λ m. imports p m) (drop i group) ≡ false
    resting : imports_resting group p ≡ false
    named : list_any (λ m. is_named_alike p m) (take i group) ≡ false
    differing : list_any (λ m. imports_differing group p m) (take i group) ≡ false

  passes : (i : ℕ) (p : Member) → slice_get group i ≡ Some p → Passes i p
  passes i p g =
      let s = list_at i p in
      let here : member_breaks group i p ≡ [] =
      subst (λ k. member_breaks group k p ≡ []) (let z : 0 + i ≡ i = omega arith in z)
      (each_none (λ i p. member_breaks group i p) 0 group i p none g) in
      let list : list_breaks group i p ≡ [] = (empty_both (list_breaks group i p) (class_breaks group i p) here).0 in
      let other = list_any (λ m. imports_other p m) (take i group) in
      let late = list_any (λ m. imports p m) (drop i group) || imports_resting group p in
      let named = list_any (λ m. is_named_alike p m) (take i group) in
      let differing = list_any (λ m. imports_differing group p m) (take i group) in
      let three = empty_both (at other s 731 ++ at late s 732 ++ at named s 733) (at differing s 734) list in
      let two = empty_both (at other s 731 ++ at late s 732) (at named s 733) three.0 in
      let one = empty_both (at other s 731) (at late s 732) two.0 in
      let late_parts = or_parts _ _ (not_broken late s 732 one.1) in
      record {
        other = not_broken other s 731 one.0;
        later = late_parts.0;
        resting = late_parts.1;
        named = not_broken named s 733 two.1;
        differing = not_broken differing s 734 three.1;
      }

  -- an import that is of a package of the group is what is written for it, and that stands before
  of_group : (i k : ℕ) (p : Member) (t : ExportTree) → Imports group i p k t → OneOf (λ m. is_of t m) group
      → IsWrittenBefore group i t
  of_group i k p t h o = elim (less_or i o.place) [
    | inl lt ↦
        let q = passes i p h.member in
        let no = any_off (λ m. imports_other p m) (take i group) o.place o.item q.other (in_front group i o.place o.item
        lt o.is) in
        let at_t = any_off (λ t. is_of t o.item && not (same_tree t o.item.written)) p.files.exports k t no h.tree in
        let same = not_false (same_tree t o.item.written) (not_both (is_of t o.item) (not
        (same_tree t o.item.written)) at_t
        o.fits) in
        record {
          place = o.place;
          exporter = o.item;
          before = lt;
          is = o.is;
          written = (tree-Decides t o.item.written).0 same;
        }
    | inr le ↦
        let q = passes i p h.member in
        let no = any_off (λ m. imports p m) (drop i group) (o.place - i) o.item q.later (in_back group i o.place o.item
        le o.is) in
        absurd (true_not_false (is_of t o.item) o.fits (any_off (λ t. is_of t o.item) p.files.exports k t no h.tree))
  ]

  imports_agree : (i k : ℕ) (p : Member) (t : ExportTree) → Imports group i p k t → IsWrittenBefore group i t
      ⊎ (is_outside group t ≡ true)
  imports_agree i k p t h = by (list_any (λ m. is_of t m) group) refl
    where
      by : (b : Bool) → list_any (λ m. is_of t m) group ≡ b → IsWrittenBefore group i t ⊎ (is_outside group t ≡ true)
      by true e = inl (of_group i k p t h (one_of (λ m. is_of t m) group e))
      by false e = inr (ap not e)

  unalike : (i j : ℕ) (p m : Member) → slice_get group i ≡ Some p → slice_get group j ≡ Some m → j < i
      → (bytes_eq p.list.«package» m.list.«package» ≡ false) × (bytes_eq p.list.aid m.list.aid ≡ false)
  unalike i j p m g h lt = or_parts _ _ (any_off (λ m. is_named_alike p m) (take i group) j m (passes i p g).named
      (in_front group i j m lt h))

  outside_agree : (i j k n : ℕ) (p m : Member) (t u : ExportTree) → Imports group i p k t → Imports group j m n u
      → j < i → is_outside group t ≡ true → is_outside group u ≡ true → (t.name ≡ u.name) ⊎ (t.aid ≡ u.aid) → t ≡ u
  outside_agree i j k n p m t u h g lt out out' one =
      let no = any_off (λ m. imports_differing group p m) (take i group) j m (passes i p h.member).differing
      (in_front group i j m lt g.member) in
      let at_t = any_off (λ t. differs_from_one group m.files.exports t) p.files.exports k t no h.tree in
      let among = not_both (is_outside group t) (list_any (λ u. differs_from group t u) m.files.exports) at_t out in
      let at_u = any_off (λ u. differs_from group t u) m.files.exports n u among g.tree in
      let alike : (bytes_eq t.name u.name || bytes_eq t.aid u.aid) ≡ true =
      either_true (bytes_eq t.name u.name) (bytes_eq t.aid u.aid) (elim one [
        | inl e ↦ inl ((bytes_eq-Decides t.name u.name).1 e)
        | inr e ↦ inr ((bytes_eq-Decides t.aid u.aid).1 e)
      ]) in
      let both : ((bytes_eq t.name u.name || bytes_eq t.aid u.aid) && is_outside group u) ≡ true =
      and_from _ _ alike out' in
      (tree-Decides t u).0 (not_false (same_tree t u) (not_both _ (not (same_tree t u)) at_u both))

  above_agree : (i k n : ℕ) (p : Member) (t : ExportTree) (c : ExportClass) → Imports group i p k t
      → is_outside group t ≡ true → slice_get t.classes n ≡ Some c → stands_below group c ≡ false
  above_agree i k n p t c h out g =
      let at_t = any_off (λ t. rests_on group t) p.files.exports k t (passes i p h.member).resting h.tree in
      let among = not_both (is_outside group t) (list_any (λ c. stands_below group c) t.classes) at_t out in
      any_off (λ c. stands_below group c) t.classes n c among g

  pub packages_agree : Agree group
  packages_agree = record {
    imports = imports_agree;
    names = λ i j p m g h lt e. true_not_false _ ((bytes_eq-Decides p.list.«package» m.list.«package»).1 e)
        (unalike i j p m g h lt).0;
    aids = λ i j p m g h lt e. true_not_false _ ((bytes_eq-Decides p.list.aid m.list.aid).1 e)
        (unalike i j p m g h lt).1;
    outside = outside_agree;
    above = above_agree;
  }
