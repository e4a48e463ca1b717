-- Where a rule is broken tells what is told of it: breaks of one rank have one refusal.
use Rattle.std.proofs.Common.{◌≡◌, ℕ, zero, suc, ◌+◌, ◌<◌, refl, sym, ap, subst, ◌∙◌, arith, Bool, true, List}
use Rattle.std.proofs.Common.{[], ◌∷◌, ◌++◌, length, map, inl, inr, Option, Some, None, add-one}
use Rattle.std.specs.Prelude.{slice_get}
use Rattle.std.proofs.lemmas.List.{length-map}
use Rattle.cjc_export.specs.Bytes.Breaks.{Among, Break, RulePlace, at, broken_at, class_spot, each_from}
use Rattle.cjc_export.specs.Bytes.Order.{FilePlace, Rank}
use Rattle.cjc_export.specs.Bytes.Refused.{field_text, in_class, method_text}
use Rattle.cjc_export.proofs.BytesFirsts.{among_either}
use Rattle.cjc_export.proofs.BytesBrokenRules.{none_among, in_at}
use Rattle.cjc_compat.specs.Rules.{at_class, at_field, at_method, breaks, class_breaks, is_less, is_lost_field}
use Rattle.cjc_compat.specs.Rules.{is_lost_method, is_other_class, is_other_package, is_other_table, kept_breaks}
use Rattle.cjc_compat.specs.Rules.{new_file, with_token}
use Rattle.cjc_export.specs.declared.tree.ExportClass.{ExportClass}
use Rattle.cjc_export.specs.declared.tree.ExportField.{ExportField}
use Rattle.cjc_export.specs.declared.tree.ExportMethod.{ExportMethod}
use Rattle.cjc_export.specs.declared.tree.ExportTree.{ExportTree}

-- ---- lists

-- What is broken of some item, whose place in the list is told.
record OfItem {A : Type 0} (f : ℕ → A → List Break) (i : ℕ) (xs : List A) (b : Break) : Type 0 where
  place : ℕ
  item : A
  is : slice_get xs place ≡ Some item
  among : Among b (f (i + place) item)

in_each : {A : Type 0} (f : ℕ → A → List Break) (i : ℕ) (xs : List A) (b : Break) → Among b (each_from f i xs)
    → OfItem f i xs b
unfolding each_from
in_each f i [] b among = none_among b among
in_each f i (x ∷ xs) b among = elim (among_either b (f i x) (each_from f (i + 1) xs) among) [
  | inl here ↦ record { place = 0; item = x; is = refl; among = subst (λ k. Among b (f k x)) (omega arith) here }
  | inr later ↦
      let more = in_each f (i + 1) xs b later in
      record {
        place = suc more.place;
        item = more.item;
        is = more.is;
        among = subst (λ k. Among b (f k more.item)) (omega arith) more.among;
      }
]

front : {A : Type 0} (f : ℕ → A → List Break) (xs : List A) (b : Break) (o : OfItem f 0 xs b)
    → Among b (f o.place o.item)
front f xs b o = subst (λ k. Among b (f k o.item)) (let h : 0 + o.place ≡ o.place = omega arith in h) o.among

-- ---- what is told, by the numbers of the rank

abbrev name_of : Option ExportClass → List ℕ
name_of None = []
name_of (Some c) = c.name

abbrev text_in : Option (List ℕ) → List ℕ
text_in None = []
text_in (Some text) = text

-- the texts of a class's members, fields first
abbrev texts : ExportClass → List (List ℕ)
texts c = map (λ m. field_text m.name m.desc) c.fields ++ map (λ m. method_text m.name m.desc) c.methods

abbrev text_of : Option ExportClass → ℕ → List ℕ
text_of None member = []
text_of (Some c) zero = []
text_of (Some c) (suc i) = text_in (slice_get (texts c) i)

map_at : {A : Type 0} (f : A → List ℕ) (xs : List A) (more : List (List ℕ)) (i : ℕ) (x : A) → slice_get xs i ≡ Some x
    → slice_get (map f xs ++ more) i ≡ Some (f x)
map_at f [] more i x g = absurd cc
map_at f (y ∷ xs) more zero x g = let same : y ≡ x = cc in ap (λ z. Some (f z)) same
map_at f (y ∷ xs) more (suc i) x g = map_at f xs more i x g

last_at : {A : Type 0} (f : A → List ℕ) (xs : List A) (i : ℕ) (x : A) → slice_get xs i ≡ Some x
    → slice_get (map f xs) i ≡ Some (f x)
last_at f [] i x g = absurd cc
last_at f (y ∷ xs) zero x g = let same : y ≡ x = cc in ap (λ z. Some (f z)) same
last_at f (y ∷ xs) (suc i) x g = last_at f xs i x g

behind_at : (front : List (List ℕ)) (more : List (List ℕ)) (i : ℕ) → slice_get (front ++ more) (length front + i)
    ≡ slice_get more i
behind_at [] more i = ap (slice_get more) (let h : 0 + i ≡ i = omega arith in h)
behind_at (y ∷ front) more i =
    ap (slice_get (y ∷ front ++ more)) (let h : length (y ∷ front) + i ≡ suc (length front + i) = omega arith in h)
    ∙ behind_at front more i

module _ (f : FilePlace) (classes : List ExportClass) where
  abbrev class_of : ℕ → Option ExportClass
  class_of zero = None
  class_of (suc n) = slice_get classes n

  -- the place of a class and a member by their numbers in a rank
  abbrev spot : (class member : ℕ) → RulePlace
  spot class member = record {
    file = f.key;
    class = class;
    member = member;
    place = in_class f.name (name_of (class_of class)) (text_of (class_of class) member) 0;
  }

  -- The break is of a place by its numbers.
  pub record IsTold (b : Break) : Type 0 where
    pub class : ℕ
    pub member : ℕ
    pub rule : ℕ
    pub is : b ≡ broken_at (spot class member) rule

  pub told_once : (a b : Break) → IsTold a → IsTold b → a.rank ≡ b.rank → a.refusal ≡ b.refusal
  told_once a b h g e =
      let ranks = sym (ap (λ (x : Break). x.rank) h.is) ∙ e ∙ ap (λ (x : Break). x.rank) g.is in
      let class : h.class ≡ g.class = ap (λ (r : Rank). r.class) ranks in
      let member : h.member ≡ g.member = ap (λ (r : Rank). r.member) ranks in
      let rule : h.rule ≡ g.rule = ap (λ (r : Rank). r.rule) ranks in
      ap (λ (x : Break). x.refusal) h.is
      ∙ (λ i. (broken_at (spot (class i) (member i)) (rule i)).refusal)
      ∙ sym (ap (λ (x : Break). x.refusal) g.is)

  told_at : (test : Bool) (s : RulePlace) (rule : ℕ) (b : Break) → (s ≡ spot s.class s.member)
      → Among b (at test s rule) → IsTold b
  told_at test s rule b same among = record {
    class = s.class;
    member = s.member;
    rule = rule;
    is = in_at test s rule b among ∙ ap (λ z. broken_at z rule) same;
  }

  module _ (n : ℕ) (c : ExportClass) (there : slice_get classes n ≡ Some c) where
    is_class : class_of (n + 1) ≡ Some c
    is_class = ap class_of (add-one n) ∙ there

    class_told : at_class f n c ≡ spot (n + 1) 0
    class_told = ap (λ o. record {
      file = f.key;
      class = n + 1;
      member = 0;
      place = in_class f.name (name_of o) (text_of o 0) 0;
    }) (sym is_class)

    member_told : (i : ℕ) (text : List ℕ) → slice_get (texts c) i ≡ Some text → (record {
      file = f.key;
      class = n + 1;
      member = i + 1;
      place = in_class f.name c.name text 0;
    }) ≡ spot (n + 1) (i + 1)
    member_told i text g =
        ap (λ t. record { file = f.key; class = n + 1; member = i + 1; place = in_class f.name c.name t 0 })
        (sym (ap text_in g) ∙ ap (text_of (Some c)) (sym (add-one i)))
        ∙ ap (λ o. record {
          file = f.key;
          class = n + 1;
          member = i + 1;
          place = in_class f.name (name_of o) (text_of o (i + 1)) 0;
        }) (sym is_class)

    field_told : (i : ℕ) (m : ExportField) → slice_get c.fields i ≡ Some m → at_field f n c i m ≡ spot (n + 1) (i + 1)
    field_told i m g = member_told i (field_text m.name m.desc) (map_at (λ (x : ExportField). field_text x.name x.desc)
        c.fields _ i m g)

    method_told : (i : ℕ) (m : ExportMethod) → slice_get c.methods i ≡ Some m
        → at_method f n c i m ≡ spot (n + 1) (length c.fields + i + 1)
    method_told i m g =
        let front = map (λ (x : ExportField). field_text x.name x.desc) c.fields in
        let count : length front ≡ length c.fields = length-map c.fields (λ (x : ExportField).
        field_text x.name x.desc) in
        member_told (length c.fields + i) (method_text m.name m.desc)
        (ap (λ k. slice_get (texts c) (k + i)) (sym count) ∙ behind_at front _ i
        ∙ last_at (λ (x : ExportMethod). method_text x.name x.desc) c.methods i m g)

    kept_told : (new : ExportClass) (b : Break) → Among b (kept_breaks f n c new) → IsTold b
    kept_told new b among = elim (among_either b _ (each_from (λ i m. at (is_lost_method new.methods m)
        (at_method f n c i m) 743) 0 c.methods) among) [
          | inr h ↦ let o = in_each _ 0 c.methods b h in told_at _ _ 743 b (method_told o.place o.item o.is)
              (front _ _ b o)
          | inl one ↦ elim (among_either b _ (each_from (λ i m. at (is_lost_field new.fields m) (at_field f n c i m)
              743) 0
              c.fields) one) [
                | inr h ↦ let o = in_each _ 0 c.fields b h in told_at _ _ 743 b (field_told o.place o.item o.is)
                    (front _ _ b
                    o)
                | inl two ↦ elim (among_either b _ (at (is_less c new) (at_class f n c) 745) two) [
                  | inr h ↦ told_at _ _ 745 b class_told h
                  | inl three ↦ elim (among_either b (at (is_other_class c new) (at_class f n c) 742)
                      (at (is_other_table c new) (at_class f n c) 744) three) [
                        | inl h ↦ told_at _ _ 742 b class_told h
                        | inr h ↦ told_at _ _ 744 b class_told h
                      ]
                ]
              ]
        ]

    pub class_breaks_told : (new : Option ExportClass) (b : Break) → Among b (class_breaks f n c new) → IsTold b
    class_breaks_told None b among = told_at true (at_class f n c) 742 b class_told among
    class_breaks_told (Some new) b among = kept_told new b among

-- the refusal is one
pub breaks_once : (file : List ℕ) (old new : ExportTree) (a b : Break) → Among a (breaks file old new)
    → Among b (breaks file old new) → a.rank ≡ b.rank → a.refusal ≡ b.refusal
breaks_once file old new a b h g e = told_once (new_file file) old.classes a b (told a h) (told b g) e
  where
    told : (b : Break) → Among b (breaks file old new) → IsTold (new_file file) old.classes b
    told b among = elim (among_either b (at (is_other_package old new) (class_spot (new_file file) 0 []) 741) _ among) [
      | inl h ↦ told_at (new_file file) old.classes _ _ 741 b refl h
      | inr h ↦
          let o = in_each (λ n c. class_breaks (new_file file) n c (with_token c.token new.classes)) 0 old.classes b h
          in
          class_breaks_told (new_file file) old.classes o.place o.item o.is (with_token o.item.token new.classes) b
          (front _ _ b o)
    ]
