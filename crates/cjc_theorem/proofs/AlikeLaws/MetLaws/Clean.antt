-- What a class of a package that breaks no rule of classes and names keeps of 203: descriptors of its members name
-- classes that some file has.
use Rattle.std.proofs.Common.{◌≡◌, ℕ, ◌+◌, ◌<◌, ◌≤◌, refl, sym, ap, subst, ◌∙◌, arith, Bool, true, false}
use Rattle.std.proofs.Common.{not, List, [], ◌∷◌, ◌++◌, length}
use Rattle.std.specs.Prelude.{map, ◌&&◌, ◌||◌, Some, option_map, slice_get}
use Rattle.std.specs.List.{list_any}
use Rattle.std.proofs.lemmas.Option.{slice_get-map}
use Rattle.cjc_bytes.specs.Breaks.{broken_at, list_spot}
use Rattle.cjc_bytes.specs.declared.order.FileKey.{FileKey}
use Rattle.cjc_bytes.proofs.Lists.{none_left, none_right}
use Rattle.cjc_token_proof.specs.ClassOrder.Classes.Numbers.{class_count}
use Rattle.cjc_world.specs.ClassFile.declared.tree.ClassTree.{ClassTree}
use Rattle.cjc_world.specs.ClassFile.declared.tree.FieldTree.{FieldTree}
use Rattle.cjc_world.specs.ClassFile.declared.tree.MethodTree.{MethodTree}
use Rattle.cjc_vtable.proofs.Filed.{Has, at_front, behind}
use Rattle.cjc_world.specs.Added.{added}
use Rattle.cjc_world.specs.Classes.{Class, Member, all_classes, declared, field_of_class, method_of_class}
use Rattle.cjc_world.specs.Files.{Files}
use Rattle.cjc_world.specs.Supertypes.{IsAcyclic, supertypes, stands}
use Rattle.cjc_world.specs.Rules.{at_class, breaks, breaks_from, class_breaks}
use Rattle.cjc_world.specs.Rules.{class_rules, gets_missing, has_language, is_desc_missing}
use Rattle.cjc_world.specs.Rules.{is_of_package, is_own_super, is_second, is_twice, is_under_cycle, lists_missing}
use Rattle.cjc_world.specs.Rules.{lists_wrong, member_rules, members, members_from, when}
use Rattle.cjc_world.proofs.Cycles.{stands_where_above}
use Rattle.cjc_world.proofs.Unbroken.{nil_of_map, not_when, unbroken_is_acyclic}
use Rattle.cjc_narrow_proof.proofs.LawsLaws.Own.{IsClean, clean_from, clean_members, of_member}

-- ---- tests of lists

pub none_of : {A : Type 0} (test : A → Bool) (xs : List A) (x : A) → list_any test xs ≡ false → Has x xs → test x
    ≡ false
none_of test [] x e h = elim h [ ]
none_of test (y ∷ xs) _ e at_front = by (test y) e
  where
    by : (b : Bool) → (b || list_any test xs) ≡ false → b ≡ false
    by true f = cc
    by false f = refl
none_of test (y ∷ xs) x e (behind h) = none_of test xs x (by (test y) e) h
  where
    by : (b : Bool) → (b || list_any test xs) ≡ false → list_any test xs ≡ false
    by true f = cc
    by false f = f

none_pass : {A : Type 0} (test : A → Bool) (xs : List A) → ((x : A) → test x ≡ false) → list_any test xs ≡ false
none_pass test [] none = refl
none_pass test (x ∷ xs) none = ap (λ b. b || list_any test xs) (none x) ∙ none_pass test xs none

-- ---- what a class keeps

module _ (file : FileKey) (file_name : List ℕ) (w : List Class) (c : Class) (field : Bool) where
  there_members : c.is_imported ≡ false → (k : ℕ) (m : Member)
      → members_from file file_name 1 w c field 0 (members field c) ≡ [] → slice_get (members field c) k ≡ Some m
      → is_desc_missing w m.desc ≡ false
  unfolding member_rules
  there_members own k m e is =
      let z : 0 + k ≡ k = omega arith in
      let twice = when (is_twice (members field c) k m.name m.desc) 202 in
      let here = subst (λ j. of_member file file_name w c field j m ≡ []) z (clean_members file file_name w c field 0
      (members field c) k m e is) in
      let missing = not_when (not c.is_imported && is_desc_missing w m.desc) 203
      (none_right twice (when (not c.is_imported && is_desc_missing w m.desc) 203) here) in
      sym (ap (λ b. not b && is_desc_missing w m.desc) own) ∙ missing

-- The descriptors of a class of the package name classes that some file has.
pub record HasKnownTypes (w : List Class) (n : ℕ) (t : ClassTree) : Type 0 where
  pub fields : (k : ℕ) (f : FieldTree) → slice_get t.fields k ≡ Some f → is_desc_missing w f.desc ≡ false
  pub methods : (k : ℕ) (m : MethodTree) → slice_get t.methods k ≡ Some m → is_desc_missing w m.desc ≡ false
  pub got : (m : Member) → Has m (added w (declared n t)) → is_desc_missing w m.desc ≡ false

-- no class is under a cycle
no_cycle : (w : List Class) → IsAcyclic w → (c : Class) → is_under_cycle w c ≡ false
unfolding is_under_cycle
no_cycle w acyclic c = none_pass (λ d. stands d.name (supertypes w (c.supers ++ c.interfaces)) && is_own_super w d) w
    (λ d. one d (is_own_super w d) refl (stands d.name (supertypes w (c.supers ++ c.interfaces))))
  where
    one : (d : Class) (b : Bool) → is_own_super w d ≡ b → (a : Bool) → (a && is_own_super w d) ≡ false
    one d true e a = absurd (acyclic d.name ((stands_where_above w d.name d.name).0 e))
    one d false e true = e
    one d false e false = refl

keeps_types : (files : Files) (w : List Class) → IsAcyclic w → (n : ℕ) (t : ClassTree) → IsClean files w n t
    → HasKnownTypes w n t
unfolding IsClean class_breaks class_rules gets_missing
keeps_types files w acyclic n t (file, file_name, e) =
    let p = files.package_name in
    let d = declared n t in
    let A = when (not false && not (is_of_package p t.name)) 201 in
    let B = when (is_second w d) 202 in
    let D = when (not false && (lists_missing w d || gets_missing w d)) 203 in
    let E = when (is_own_super w d) 204 in
    let G = when (lists_wrong w d) 208 in
    let at = λ (rule : ℕ). at_class file file_name 1 t.name rule in
    let R = map at (A ++ B ++ D ++ E ++ G) in
    let F = members_from file file_name 1 w d true 0 d.fields in
    let M = members_from file file_name 1 w d false 0 d.methods in
    let own = nil_of_map at (A ++ B ++ D ++ E ++ G) (none_left R F (none_left (R ++ F) M e)) in
    let three = none_left (A ++ B ++ D) E (none_left (A ++ B ++ D ++ E) G own) in
    let missing = or_right (lists_missing w d) (gets_missing w d) (not_when (lists_missing w d || gets_missing w d) 203
    (none_right (A ++ B) D three)) in
    let none = sym (ap (λ b. not b && list_any (λ m. is_desc_missing w m.desc) (added w d)) (no_cycle w acyclic d))
    ∙ missing in
    record {
      fields = λ k f is. there_members file file_name w d true refl k (field_of_class f)
          (none_right R F (none_left (R ++ F) M e)) (slice_get-map field_of_class t.fields k
          ∙ ap (option_map field_of_class) is);
      methods = λ k m is. there_members file file_name w d false refl k (method_of_class m) (none_right (R ++ F) M e)
          (slice_get-map method_of_class t.methods k ∙ ap (option_map method_of_class) is);
      got = λ m h. none_of (λ (x : Member). is_desc_missing w x.desc) (added w d) m none h;
    }
  where
    or_right : (a b : Bool) → (a || b) ≡ false → b ≡ false
    or_right true b e = cc
    or_right false b e = e

pub own_types_known : (list : List ℕ) (files : Files) → length files.classes ≤ class_count files.lines
    → breaks list files ≡ [] → (n : ℕ) (t : ClassTree) → slice_get files.classes n ≡ Some t → n < length files.classes
    → HasKnownTypes (all_classes files) n t
unfolding breaks
own_types_known list files listed unbroken n t is lt =
    let w = all_classes files in
    keeps_types files w (unbroken_is_acyclic list files unbroken) n t
    (clean_from files w 0 0 0 0 files.lines n t is (none_right (map (λ rule. broken_at (list_spot list) rule)
    (when (not (has_language w files.exports)) 207)) (breaks_from files w 0 0 0 0 files.lines) unbroken)
    (omega arith) (omega (arith, lt, listed)))
