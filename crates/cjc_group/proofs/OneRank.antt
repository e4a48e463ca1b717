-- Where a rule is broken tells what is told of it: breaks of one rank have one refusal.
use Rattle.std.proofs.Common.{◌≡◌, ℕ, zero, suc, ◌+◌, refl, sym, ap, subst, ◌∙◌, arith, Bool, List, []}
use Rattle.std.proofs.Common.{◌∷◌, inl, inr, Option, Some, None, add-one}
use Rattle.std.specs.Prelude.{slice_get}
use Rattle.cjc_bytes.specs.Breaks.{Among, Break, RulePlace, at, broken_at, each, each_from}
use Rattle.cjc_bytes.specs.Order.{Rank}
use Rattle.cjc_bytes.specs.Refused.{in_class}
use Rattle.cjc_bytes.specs.declared.order.FileKey.TheVariants as keys
use Rattle.cjc_bytes.proofs.Firsts.{among_either}
use Rattle.cjc_bytes.proofs.BrokenRules.{none_among, in_at}
use Rattle.cjc_world.specs.ClassFile.declared.tree.ClassTree.{ClassTree}
use Rattle.cjc_world.specs.Classes.{all_classes}
use Rattle.cjc_group.specs.Implementing.{lacks_implementation}
use Rattle.cjc_group.specs.Members.{Member}
use Rattle.cjc_group.specs.Missing.{gaps, implements_one, member_missing, missing}
use Rattle.cjc_group.specs.Rules.{breaks, class_at, class_breaks, list_at, list_breaks, member_breaks}

-- ---- lists

-- what is broken of some item, whose place in the list is told
record OfItem {A : Type 0} (f : ℕ → A → List Break) (i : ℕ) (xs : List A) (b : Break) : Type 0 where
  place : ℕ
  item : A
  is : slice_get xs place ≡ Some item
  among : Among b (f (i + place) item)

in_each : {A : Type 0} (f : ℕ → A → List Break) (i : ℕ) (xs : List A) (b : Break) → Among b (each_from f i xs)
    → OfItem f i xs b
unfolding each_from
in_each f i [] b among = none_among b among
in_each f i (x ∷ xs) b among = elim (among_either b (f i x) (each_from f (i + 1) xs) among) [
  | inl here ↦ record { place = 0; item = x; is = refl; among = subst (λ k. Among b (f k x)) (omega arith) here }
  | inr later ↦
      let more = in_each f (i + 1) xs b later in
      record {
        place = suc more.place;
        item = more.item;
        is = more.is;
        among = subst (λ k. Among b (f k more.item)) (omega arith) more.among;
      }
]

front : {A : Type 0} (f : ℕ → A → List Break) (xs : List A) (b : Break) (o : OfItem f 0 xs b)
    → Among b (f o.place o.item)
front f xs b o = subst (λ k. Among b (f k o.item)) (let h : 0 + o.place ≡ o.place = omega arith in h) o.among

-- ---- what is told, by the numbers of the rank

abbrev list_name : Option Member → List ℕ
list_name None = []
list_name (Some p) = p.list.name

abbrev name_in : Option ClassTree → List ℕ
name_in None = []
name_in (Some c) = c.name

abbrev class_name : Option Member → ℕ → List ℕ
class_name None class = []
class_name (Some p) zero = []
class_name (Some p) (suc k) = name_in (slice_get p.files.classes k)

module _ (group : List Member) where
  -- the place of a package and a class by their numbers in a rank
  abbrev spot : (place class : ℕ) → RulePlace
  spot i class = record {
    file = keys.Line i;
    class = class;
    member = 0;
    place = in_class (list_name (slice_get group i)) (class_name (slice_get group i) class) [] 0;
  }

  -- The break is of a place by its numbers.
  record IsTold (b : Break) : Type 0 where
    place : ℕ
    class : ℕ
    rule : ℕ
    is : b ≡ broken_at (spot place class) rule

  told_once : (a b : Break) → IsTold a → IsTold b → a.rank ≡ b.rank → a.refusal ≡ b.refusal
  told_once a b h g e =
      let ranks = sym (ap (λ (x : Break). x.rank) h.is) ∙ e ∙ ap (λ (x : Break). x.rank) g.is in
      let file : h.place + 1 ≡ g.place + 1 = ap (λ (r : Rank). r.file) ranks in
      let place : h.place ≡ g.place = omega (arith, file) in
      let class : h.class ≡ g.class = ap (λ (r : Rank). r.class) ranks in
      let rule : h.rule ≡ g.rule = ap (λ (r : Rank). r.rule) ranks in
      ap (λ (x : Break). x.refusal) h.is
      ∙ (λ i. (broken_at (spot (place i) (class i)) (rule i)).refusal)
      ∙ sym (ap (λ (x : Break). x.refusal) g.is)

  module _ (i : ℕ) (p : Member) (there : slice_get group i ≡ Some p) where
    list_told : list_at i p ≡ spot i 0
    list_told = ap (λ o. record {
      file = keys.Line i;
      class = 0;
      member = 0;
      place = in_class (list_name o) (class_name o 0) [] 0;
    }) (sym there)

    class_told : (k : ℕ) (c : ClassTree) → slice_get p.files.classes k ≡ Some c → class_at i p k c ≡ spot i (k + 1)
    class_told k c g =
        ap (λ (x : List ℕ). record {
          file = keys.Line i;
          class = k + 1;
          member = 0;
          place = in_class p.list.name x [] 0;
        }) (sym (ap name_in g) ∙ ap (class_name (Some p)) (sym (add-one k)))
        ∙ ap (λ o. record {
          file = keys.Line i;
          class = k + 1;
          member = 0;
          place = in_class (list_name o) (class_name o (k + 1)) [] 0;
        }) (sym there)

    at_list : (test : Bool) (rule : ℕ) (b : Break) → Among b (at test (list_at i p) rule) → IsTold b
    at_list test rule b among = record {
      place = i;
      class = 0;
      rule = rule;
      is = in_at test (list_at i p) rule b among ∙ ap (λ s. broken_at s rule) list_told;
    }

    of_list : (b : Break) → Among b (list_breaks group i p) → IsTold b
    of_list b among = elim (among_either b _ (at _ (list_at i p) 734) among) [
      | inr h ↦ at_list _ 734 b h
      | inl three ↦ elim (among_either b _ (at _ (list_at i p) 733) three) [
        | inr h ↦ at_list _ 733 b h
        | inl two ↦ elim (among_either b (at _ (list_at i p) 731) (at _ (list_at i p) 732) two) [
          | inl h ↦ at_list _ 731 b h
          | inr h ↦ at_list _ 732 b h
        ]
      ]
    ]

    of_classes : (test : ClassTree → Bool) (rule : ℕ) (b : Break)
        → Among b (each (λ k c. at (test c) (class_at i p k c) rule) p.files.classes) → IsTold b
    of_classes test rule b among =
        let f : ℕ → ClassTree → List Break = λ k c. at (test c) (class_at i p k c) rule in
        let o = in_each f 0 p.files.classes b among in
        record {
          place = i;
          class = o.place + 1;
          rule = rule;
          is = in_at (test o.item) (class_at i p o.place o.item) rule b (front f p.files.classes b o)
              ∙ ap (λ s. broken_at s rule) (class_told o.place o.item o.is);
        }

    of_class : (b : Break) → Among b (class_breaks group i p) → IsTold b
    of_class = of_classes (λ c. lacks_implementation group i c) 735

    of_missing : (b : Break) → Among b (member_missing group i p) → IsTold b
    of_missing = of_classes (λ c. implements_one (all_classes p.files) (gaps group p) c) 203

    of_member : (b : Break) → Among b (member_breaks group i p) → IsTold b
    of_member b among = elim (among_either b (list_breaks group i p) (class_breaks group i p) among) [
      | inl h ↦ of_list b h
      | inr h ↦ of_class b h
    ]

-- the refusal is one
pub breaks_once : (group : List Member) (a b : Break) → Among a (breaks group) → Among b (breaks group)
    → a.rank ≡ b.rank → a.refusal ≡ b.refusal
breaks_once group a b h g e = told_once group a b (told a h) (told b g) e
  where
    told : (b : Break) → Among b (breaks group) → IsTold group b
    told b among =
        let f : ℕ → Member → List Break = λ i p. member_breaks group i p in
        let o = in_each f 0 group b among in
        of_member group o.place o.item o.is b (front f group b o)

-- so it is of 203
pub missing_once : (group : List Member) (a b : Break) → Among a (missing group) → Among b (missing group)
    → a.rank ≡ b.rank → a.refusal ≡ b.refusal
missing_once group a b h g e = told_once group a b (told a h) (told b g) e
  where
    told : (b : Break) → Among b (missing group) → IsTold group b
    told b among =
        let f : ℕ → Member → List Break = λ i p. member_missing group i p in
        let o = in_each f 0 group b among in
        of_missing group o.place o.item o.is b (front f group b o)
