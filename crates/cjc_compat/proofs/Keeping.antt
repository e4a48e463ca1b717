-- What 741 to 745 keep where none of them is broken: each reference and each listed super.
use Rattle.std.proofs.Common.{◌≡◌, ℕ, zero, suc, ◌+◌, refl, sym, ap, subst, ◌∙◌, arith, Bool, true, false}
use Rattle.std.proofs.Common.{List, [], ◌∷◌, length, Option, Some, None}
use Rattle.std.specs.Prelude.{◌&&◌, ◌||◌, ◌==◌, not, if◌then◌else◌, slice_get, codes}
use Rattle.std.specs.List.{list_any}
use Rattle.std.specs.Str.{bytes_eq}
use Rattle.std.proofs.lemmas.Bool.Decides.{nat_tests}
use Rattle.cjc_export.specs.Bytes.AccessFlags.{is_interface, is_static}
use Rattle.cjc_export.specs.Bytes.Breaks.{Break, at, each_from}
use Rattle.cjc_export.specs.Bytes.Order.{FilePlace}
use Rattle.cjc_export.proofs.BytesLists.{bytes_true, empty_both}
use Rattle.cjc_export.proofs.BytesBools.{not_false}
use Rattle.cjc_export.proofs.BytesBrokenRules.{not_broken}
use Rattle.cjc_export.proofs.BytesGets.{find_got, any_at}
use Rattle.cjc_compat.specs.References.{InstanceField, KeepsReferences, Kind, ListsSuper, Meant, Reference, Resolves}
use Rattle.cjc_compat.specs.References.{StaticField, StaticMethod, VirtualMethod, class, field, interface, is_class}
use Rattle.cjc_compat.specs.References.{is_member}
use Rattle.cjc_compat.specs.References.{kind_of_field, kind_of_method, method, superclass, to_class, to_member}
use Rattle.cjc_compat.specs.Rules.{at_class, at_field, at_method, breaks, class_breaks, is_constant, is_field, is_less}
use Rattle.cjc_compat.specs.Rules.{is_lost_field, is_lost_method, is_method, is_of_kind, is_other_class, is_other_table}
use Rattle.cjc_compat.specs.Rules.{kept_breaks, lacks_one, new_file, same, with_token}
use Rattle.cjc_export.specs.Supers.{is_one_of}
use Rattle.cjc_export.specs.declared.tree.ExportClass.{ExportClass}
use Rattle.cjc_export.specs.declared.tree.ExportField.{ExportField}
use Rattle.cjc_export.specs.declared.tree.ExportMethod.{ExportMethod}
use Rattle.cjc_export.specs.declared.tree.ExportTree.{ExportTree}

-- ---- tests

and_cases : (a b : Bool) → a && b ≡ true → (a ≡ true) × (b ≡ true)
and_cases true b e = (refl, e)
and_cases false b e = absurd cc

or_none : (a b : Bool) → a || b ≡ false → (a ≡ false) × (b ≡ false)
or_none true b e = absurd cc
or_none false b e = (refl, e)

same_true : (a b : Bool) → same a b ≡ true → a ≡ b
same_true true true e = refl
same_true false false e = refl
same_true true false e = absurd cc
same_true false true e = absurd cc

number_is : (x y : ℕ) → x == y ≡ true → x ≡ y
number_is x y e = grind (arith, nat_tests)

-- ---- lists

each_none_at : {A : Type 0} (f : ℕ → A → List Break) (i : ℕ) (xs : List A) → each_from f i xs ≡ [] → (n : ℕ) (x : A)
    → slice_get xs n ≡ Some x → (k : ℕ) × (f k x ≡ [])
unfolding each_from
each_none_at f i [] e n x g = absurd cc
each_none_at f i (y ∷ xs) e zero x g =
    let h = empty_both (f i y) (each_from f (i + 1) xs) e in
    let same : y ≡ x = cc in
    (i, subst (λ z. f i z ≡ []) same h.0)
each_none_at f i (y ∷ xs) e (suc n) x g = each_none_at f (i + 1) xs (empty_both (f i y) (each_from f
    (i + 1) xs) e).1 n x
    g

any_none : {A : Type 0} (p : A → Bool) (xs : List A) → list_any p xs ≡ false → (k : ℕ) (x : A)
    → slice_get xs k ≡ Some x → p x ≡ false
any_none p [] e k x g = absurd cc
any_none p (y ∷ xs) e zero x g =
    let h = or_none (p y) (list_any p xs) e in
    let same : y ≡ x = cc in
    subst (λ z. p z ≡ false) same h.0
any_none p (y ∷ xs) e (suc k) x g = any_none p xs (or_none (p y) (list_any p xs) e).1 k x g

listed_at : (names : List (List ℕ)) (x : List ℕ) → is_one_of names x ≡ true → (k : ℕ) × (slice_get names k ≡ Some x)
listed_at [] x e = absurd cc
listed_at (y ∷ names) x e = by (bytes_eq y x) refl e (λ g. listed_at names x g)
  where
    by : (b : Bool) → bytes_eq y x ≡ b → b || is_one_of names x ≡ true → (is_one_of names x ≡ true → (k : ℕ)
        × (slice_get names k ≡ Some x)) → (k : ℕ) × (slice_get (y ∷ names) k ≡ Some x)
    by true h e on = (0, ap (λ z. Some z) (bytes_true y x h))
    by false h e on = let more = on e in (suc more.0, more.1)

still_listed : (new old : List (List ℕ)) → lacks_one new old ≡ false → (x : List ℕ) → is_one_of old x ≡ true
    → is_one_of new x ≡ true
still_listed new old e x h =
    let there = listed_at old x h in
    not_false (is_one_of new x) (any_none (λ y. not (is_one_of new y)) old e there.0 x there.1)

-- ---- a class of the old version, and the one that has its token now

-- What is kept of a class.
pub record IsKept (old new : ExportClass) : Type 0 where
  pub name : new.name ≡ old.name
  pub token : new.token ≡ old.token
  pub interface : is_interface new.flags ≡ is_interface old.flags
  pub table : is_other_table old new ≡ false
  pub supers : lacks_one new.listed old.listed ≡ false
  pub interfaces : lacks_one new.interfaces old.interfaces ≡ false
  pub fields : (i : ℕ) (f : ExportField) → slice_get old.fields i ≡ Some f → is_lost_field new.fields f ≡ false
  pub methods : (i : ℕ) (m : ExportMethod) → slice_get old.methods i ≡ Some m → is_lost_method new.methods m ≡ false

-- What is kept of a method.
pub record IsKeptMethod (old new : ExportMethod) : Type 0 where
  pub token : new.token ≡ old.token
  pub name : new.name ≡ old.name
  pub desc : new.desc ≡ old.desc
  pub static : is_static new.flags ≡ is_static old.flags

method_kept : (old new : ExportMethod) → is_method old new ≡ true → IsKeptMethod old new
method_kept old new e =
    let d = and_cases _ (same (is_static new.flags) (is_static old.flags)) e in
    let c = and_cases _ (bytes_eq new.desc old.desc) d.0 in
    let b = and_cases (new.token == old.token) (bytes_eq new.name old.name) c.0 in
    record {
      token = number_is new.token old.token b.0;
      name = bytes_true new.name old.name b.1;
      desc = bytes_true new.desc old.desc c.1;
      static = same_true (is_static new.flags) (is_static old.flags) d.1;
    }

pub method_there : (old new : ExportClass) → IsKept old new → (i : ℕ) (m : ExportMethod) → slice_get old.methods i
    ≡ Some m → (k : ℕ) × (x : ExportMethod) × (slice_get new.methods k ≡ Some x) × IsKeptMethod m x
method_there old new is i m e =
    let one = any_at (λ x. is_method m x) new.methods (not_false (list_any (λ x. is_method m x) new.methods)
    (is.methods i m e)) in
    (one.0, one.1, one.2, method_kept m one.1 one.3)

kind_kept : (old new : ℕ) → is_of_kind old new ≡ true → is_interface new ≡ is_interface old
kind_kept old new e = same_true (is_interface new) (is_interface old) (first_of_all (same (is_interface new)
    (is_interface old)) _ _ _ e)
  where
    first_of_all : (a b c d : Bool) → a && b && c && d ≡ true → a ≡ true
    first_of_all true b c d e = refl
    first_of_all false b c d e = absurd cc

kept : (f : FilePlace) (n : ℕ) (old new : ExportClass) → new.token ≡ old.token → kept_breaks f n old new ≡ []
    → IsKept old new
kept f n old new token e =
    let methods = empty_both _ (each_from (λ i m. at (is_lost_method new.methods m) (at_method f n old i m) 743) 0
    old.methods) e in
    let fields = empty_both _ (each_from (λ i m. at (is_lost_field new.fields m) (at_field f n old i m) 743) 0
    old.fields) methods.0 in
    let supers = empty_both _ (at (is_less old new) (at_class f n old) 745) fields.0 in
    let table = empty_both (at (is_other_class old new) (at_class f n old) 742) (at (is_other_table old new)
    (at_class f n old) 744) supers.0 in
    let class = or_none (not (bytes_eq new.name old.name)) (not (is_of_kind old.flags new.flags))
    (not_broken (is_other_class old new) _ 742 table.0) in
    let less = or_none (lacks_one new.listed old.listed) (lacks_one new.interfaces old.interfaces)
    (not_broken (is_less old new) _ 745 supers.1) in
    record {
      name = bytes_true new.name old.name (not_false _ class.0);
      token = token;
      interface = kind_kept old.flags new.flags (not_false _ class.1);
      table = not_broken (is_other_table old new) _ 744 table.1;
      supers = less.0;
      interfaces = less.1;
      fields = λ i m g. not_broken (is_lost_field new.fields m) _ 743 (each_none_at (λ i m. at
          (is_lost_field new.fields m)
          (at_field f n old i m) 743) 0 old.fields fields.1 i m g).1;
      methods = λ i m g. not_broken (is_lost_method new.methods m) _ 743 (each_none_at (λ i m. at (is_lost_method
          new.methods m) (at_method f n old i m) 743) 0 old.methods methods.1 i m g).1;
    }

module _ (file : List ℕ) (old new : ExportTree) (e : breaks file old new ≡ []) where
  pub classes_kept : (n : ℕ) (c : ExportClass) → slice_get old.classes n ≡ Some c → (k : ℕ) × (d : ExportClass)
      × (slice_get new.classes k ≡ Some d) × IsKept c d
  classes_kept n c g =
      let all = empty_both _ (each_from (λ n c. class_breaks (new_file file) n c (with_token c.token new.classes)) 0
      old.classes) e in
      let here = each_none_at (λ n c. class_breaks (new_file file) n c (with_token c.token new.classes)) 0 old.classes
      all.1 n c g in
      by here.0 (with_token c.token new.classes) refl here.1
    where
      by : (k : ℕ) (o : Option ExportClass) → with_token c.token new.classes ≡ o
          → class_breaks (new_file file) k c o ≡ [] → (k : ℕ) × (d : ExportClass)
          × (slice_get new.classes k ≡ Some d) × IsKept c d
      by k None h broken = absurd cc
      by k (Some d) h broken =
          let there = find_got (λ x. x.token == c.token) new.classes d h in
          (there.0, d, there.1, kept (new_file file) k c d (number_is d.token c.token there.2) broken)

  same_class : (n : ℕ) (c : ExportClass) → slice_get old.classes n ≡ Some c
      → Resolves new (to_class c.token) (is_class c.name)
  same_class n c g =
      let there = classes_kept n c g in
      let d = there.1 in
      let is = there.3 in
      subst (λ t. Resolves new (to_class t) (is_class c.name)) is.token
      (subst (λ x. Resolves new (to_class d.token) (is_class x)) is.name (class there.0 d there.2))

  same_field : (n : ℕ) (c : ExportClass) → slice_get old.classes n ≡ Some c → (i : ℕ) (f : ExportField)
      → slice_get c.fields i ≡ Some f → is_constant f ≡ false
      → Resolves new (to_member c.token (kind_of_field f) f.token) (is_member c.name (kind_of_field f) f.name f.desc)
  same_field n c g i f h variable =
      let there = classes_kept n c g in
      let d = there.1 in
      let is = there.3 in
      let lost = is.fields i f h in
      let found : list_any (λ x. is_field f x) d.fields ≡ true = not_false _ (subst (λ b. not b && not (list_any (λ x.
      is_field f x) d.fields) ≡ false) variable lost) in
      let one = any_at (λ x. is_field f x) d.fields found in
      let x = one.1 in
      let kept = field_kept f x one.3 in
      let there_is = field there.0 d there.2 one.0 x one.2 kept.0 in
      let kind : kind_of_field x ≡ kind_of_field f = ap (λ b. if b then StaticField
      else InstanceField) kept.4 in
      subst (λ t. Resolves new (to_member t (kind_of_field f) f.token) (is_member c.name (kind_of_field f) f.name
      f.desc)) is.token
      (subst (λ z. Resolves new (to_member d.token (kind_of_field f) f.token) (is_member z (kind_of_field f) f.name
      f.desc)) is.name
      (subst (λ t. Resolves new (to_member d.token (kind_of_field f) t) (is_member d.name (kind_of_field f) f.name
      f.desc)) kept.1
      (subst (λ z. Resolves new (to_member d.token (kind_of_field f) x.token) (is_member d.name (kind_of_field f) z
      f.desc)) kept.2
      (subst (λ z. Resolves new (to_member d.token (kind_of_field f) x.token) (is_member d.name (kind_of_field f) x.name
      z)) kept.3
      (subst (λ k. Resolves new (to_member d.token k x.token) (is_member d.name k x.name x.desc)) kind there_is)))))
    where
      field_kept : (old new : ExportField) → is_field old new ≡ true → (is_constant new ≡ false)
          × (new.token ≡ old.token) × (new.name ≡ old.name) × (new.desc ≡ old.desc)
          × (is_static new.flags ≡ is_static old.flags)
      field_kept old new e =
          let d = and_cases _ (same (is_static new.flags) (is_static old.flags)) e in
          let c = and_cases _ (bytes_eq new.desc old.desc) d.0 in
          let b = and_cases _ (bytes_eq new.name old.name) c.0 in
          let a = and_cases (not (is_constant new)) (new.token == old.token) b.0 in (
            constant (is_constant new) a.0,
            number_is new.token old.token a.1,
            bytes_true new.name old.name b.1,
            bytes_true new.desc old.desc c.1,
            same_true (is_static new.flags) (is_static old.flags) d.1,
          )
        where
          constant : (b : Bool) → not b ≡ true → b ≡ false
          constant true e = absurd cc
          constant false e = refl

  same_method : (n : ℕ) (c : ExportClass) → slice_get old.classes n ≡ Some c → (i : ℕ) (m : ExportMethod)
      → slice_get c.methods i ≡ Some m
      → Resolves new (to_member c.token (kind_of_method (is_interface c.flags) m) m.token)
      (is_member c.name (kind_of_method (is_interface c.flags) m) m.name m.desc)
  same_method n c g i m h =
      let there = classes_kept n c g in
      let d = there.1 in
      let is = there.3 in
      let one = method_there c d is i m h in
      let x = one.1 in
      let kept = one.3 in
      let k : Kind = kind_of_method (is_interface c.flags) m in
      let kind : kind_of_method (is_interface d.flags) x ≡ k = ap (λ b. kind_of_method b x) is.interface
      ∙ kind_same (is_interface c.flags) m x kept.name kept.static in
      subst (λ t. Resolves new (to_member t k m.token) (is_member c.name k m.name m.desc)) is.token
      (subst (λ z. Resolves new (to_member d.token k m.token) (is_member z k m.name m.desc)) is.name
      (subst (λ t. Resolves new (to_member d.token k t) (is_member d.name k m.name m.desc)) kept.token
      (subst (λ z. Resolves new (to_member d.token k x.token) (is_member d.name k z m.desc)) kept.name
      (subst (λ z. Resolves new (to_member d.token k x.token) (is_member d.name k x.name z)) kept.desc
      (subst (λ k. Resolves new (to_member d.token k x.token) (is_member d.name k x.name x.desc)) kind
      (method there.0 d there.2 one.0 x one.2))))))
    where
      kind_same : (b : Bool) (old new : ExportMethod) → new.name ≡ old.name → is_static new.flags ≡ is_static old.flags
          → kind_of_method b new ≡ kind_of_method b old
      kind_same true old new name static = refl
      kind_same false old new name static =
          ap (λ s. if s || bytes_eq new.name (codes "<init>") then StaticMethod else VirtualMethod) static
          ∙ ap (λ z. if is_static old.flags || bytes_eq z (codes "<init>") then StaticMethod else VirtualMethod) name

  same_reference : (r : Reference) (meant : Meant) → Resolves old r meant → Resolves new r meant
  same_reference r meant (class n c g) = same_class n c g
  same_reference r meant (field n c g i f h variable) = same_field n c g i f h variable
  same_reference r meant (method n c g i m h) = same_method n c g i m h

  same_super : (c s : List ℕ) → ListsSuper old c s → ListsSuper new c s
  same_super _ s (superclass n c g x h) =
      let there = classes_kept n c g in
      let is = there.3 in
      subst (λ z. ListsSuper new z x) is.name
      (superclass there.0 there.1 there.2 x (still_listed there.1.listed c.listed is.supers x h))
  same_super _ s (interface n c g x h) =
      let there = classes_kept n c g in
      let is = there.3 in
      subst (λ z. ListsSuper new z x) is.name
      (interface there.0 there.1 there.2 x (still_listed there.1.interfaces c.interfaces is.interfaces x h))

  pub references_kept : KeepsReferences old new
  references_kept = record { references = same_reference; supers = same_super }
