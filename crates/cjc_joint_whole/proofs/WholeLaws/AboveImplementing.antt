-- Where packages break no rule together, a package-visible abstract method of a superclass in another package has code in
-- that package, on each class that is not abstract (735): what the rule finds among the class files of the group, from a
-- class upwards, is what the search of the class finds in the joint world.
use Rattle.std.proofs.Common.{◌≡◌, ◌<◌, ◌≤◌, ℕ, zero, suc, ◌+◌, refl, sym, ap, subst, ◌∙◌, arith, Bool, true, false, List}
use Rattle.std.proofs.Common.{[], ◌∷◌, ◌++◌, Option, Some, None, find, length, map, ⊎_elim}
use Rattle.std.specs.Prelude.{◌&&◌, ◌||◌, ◌==◌, cond, not, option_map, position, slice_get, if◌then◌else◌}
use Rattle.std.specs.List.{list_any}
use Rattle.std.specs.Str.{bytes_eq}
use Rattle.std.proofs.lemmas.List.{length-map}
use Rattle.cjc_bytes.specs.AccessFlags.{is_abstract, is_interface, is_private, is_protected, is_public}
use Rattle.cjc_bytes.specs.Breaks.{at}
use Rattle.cjc_bytes.proofs.Bools.{or_true}
use Rattle.cjc_bytes.proofs.BrokenRules.{each_at, not_broken}
use Rattle.cjc_bytes.proofs.Gets.{any_off, get_mapped, mapped_at}
use Rattle.cjc_bytes.proofs.Lists.{bytes_true, name_is, none_right}
use Rattle.cjc_bytes.proofs.Numbers.{number_apart, number_same, other_number}
use Rattle.cjc_components.specs.Package.{Package}
use Rattle.cjc_group.specs.Implementing.{Declared, class_file, class_limit, declared_from, declared_in, file_found}
use Rattle.cjc_group.specs.Implementing.{is_left_open, is_no_implementation, is_package_visible as is_hidden, is_selected}
use Rattle.cjc_group.specs.Implementing.{is_unimplemented, lacks_implementation, leaves_open, method_in, or_method, or_next}
use Rattle.cjc_group.specs.Implementing.{selected_in, upwards, with_class}
use Rattle.cjc_group.specs.Members.{Member as Linked}
use Rattle.cjc_group.specs.Rules.{breaks, class_at, class_breaks, list_breaks, member_breaks}
use Rattle.cjc_jvm_semantics.specs.Group.{is_package_visible, joint_classes, own_where, own_within, package_of}
use Rattle.cjc_jvm_semantics.specs.OnePackage.{ResolvedMember, method_hit}
use Rattle.cjc_token_proof.proofs.WorldProofOwn.{hit_is}
use Rattle.cjc_tokens.proofs.Facts.{position-cons}
use Rattle.cjc_vtable.proofs.Filed.{IsFiled, filed, in_class_file, in_export_file}
use Rattle.cjc_world.specs.ClassFile.declared.tree.ClassTree.{ClassTree}
use Rattle.cjc_world.specs.ClassFile.declared.tree.MethodTree.{MethodTree}
use Rattle.cjc_world.specs.Classes.{Class, Member as WorldMember, all_classes, class_named, declared, method_of_class}
use Rattle.cjc_world.specs.Files.{Files}
use Rattle.cjc_world.specs.Lookup.{first, is_called, is_selectable, member_at}
use Rattle.cjc_world.specs.Supertypes.{Above, Lists, directly, line, onwards}
use Rattle.cjc_world.specs.Upwards.{IsOrdered, OnLine, here, up}
use Rattle.cjc_world.specs.declared.found.Found.{Found}
use Rattle.cjc_world.proofs.Cycles.{class_named-name}
use Rattle.cjc_world.proofs.Settled.{is_left, lists-front, none_left, without, without-left, without-less}
use Rattle.cjc_world.proofs.UpwardLaws.Lines.{line_begins, line_below, line_named, same_class}
use Rattle.cjc_joint_proof.specs.JointPackages.{files_together}
use Rattle.cjc_joint_proof.specs.Worlds.{AreApart, IsOwn, before}
use Rattle.cjc_joint_proof.proofs.PackageNames.{package_is}
use Rattle.cjc_joint_proof.proofs.SoundLaws.{apart}
use Rattle.cjc_joint_proof.proofs.WorldLaws.{joint_place, own_at_number, own_is_found}
use Rattle.cjc_joint_theorem.specs.Ordered.{AreOrdered}
use Rattle.cjc_joint_theorem.specs.Together.Homes.{joint_world}
use Rattle.cjc_joint_theorem.proofs.OrderedLaws.Ordered.{IsJoint, joint_class, ordered, outside_file, own_file}
use Rattle.cjc_joint_theorem.proofs.OrderedLaws.Standing.{own_in}
use Rattle.cjc_joint_whole.specs.Linking.{linked_as}
use Rattle.cjc_joint_whole.specs.Whole.{HasCodeWithin}
use Rattle.cjc_joint_whole.proofs.WholeLaws.Linked.{files_at, package_with}
use Rattle.cjc_joint_whole.proofs.WholeLaws.Nearest.{low, only}
use Rattle.cjc_joint_whole.proofs.WholeLaws.Shown.{search_from, search_up}

-- ---- tests

and_three : (a b c : Bool) → (a && b && c) ≡ (a && (b && c))
and_three true b c = refl
and_three false b c = refl

-- the same methods are package-visible to the rule
hidden_too : (flags : ℕ) → is_package_visible flags ≡ true → is_hidden flags ≡ true
hidden_too flags e = by (is_public flags) (is_protected flags) (is_private flags) e
  where
    by : (a b c : Bool) → (not (a || b) && not c) ≡ true → (not a && not b && not c) ≡ true
    by false false false e = refl
    by false false true e = absurd cc
    by false true c e = absurd cc
    by true b c e = absurd cc

-- what a class that is not abstract leaves open
left_open : (a b : Bool) → a ≡ false → (not a && b) ≡ false → b ≡ false
left_open false b e f = f
left_open true b e f = absurd cc

implemented_one : (a b c : Bool) → a ≡ true → b ≡ true → (a && b && c) ≡ false → c ≡ false
implemented_one true true c e f g = g
implemented_one true false c e f g = absurd cc
implemented_one false b c e f g = absurd cc

same_tree : {t u : ClassTree} → Some t ≡ Some u → t ≡ u
same_tree e = cc

same_files : {f g : Files} → Some f ≡ Some g → f ≡ g
same_files e = cc

same_method : {m n : MethodTree} → Some m ≡ Some n → m ≡ n
same_method e = cc

same_declared : {a b : Declared} → Some a ≡ Some b → a ≡ b
same_declared e = cc

-- a method that is selected, which has code
coded : (o : Option MethodTree) → is_no_implementation o ≡ false → (m : MethodTree) × (o ≡ Some m)
    × (is_abstract m.flags ≡ false)
coded None e = absurd cc
coded (Some m) e = (m, refl, e)

abbrev in_part : ℕ → ClassTree → Declared
in_part part class = record { part = part; class = class }

declared_is : (d : Declared) (part : ℕ) (class : ClassTree) → d.part ≡ part → d.class ≡ class → d ≡ in_part part class
declared_is d part class e f = ap (λ i. in_part i d.class) e ∙ ap (in_part part) f

-- ---- the class of a name in a group

from_part : (i : ℕ) (ms : List Linked) (x : List ℕ) (d : Declared) → declared_from i ms x ≡ Some d → (r : ℕ)
    × (m : Linked) × (slice_get ms r ≡ Some m) × (d.part ≡ i + r) × (class_file x m ≡ Some d.class)
from_part i [] x d e = absurd cc
from_part i (m ∷ ms) x d e = by (class_file x m) refl e (from_part (i + 1) ms x d)
  where
    by : (o : Option ClassTree) → class_file x m ≡ o → or_next i o (declared_from (i + 1) ms x) ≡ Some d
        → (declared_from (i + 1) ms x ≡ Some d → (r : ℕ) × (n : Linked) × (slice_get ms r ≡ Some n)
        × (d.part ≡ i + 1 + r) × (class_file x n ≡ Some d.class)) → (r : ℕ) × (n : Linked)
        × (slice_get (m ∷ ms) r ≡ Some n) × (d.part ≡ i + r) × (class_file x n ≡ Some d.class)
    by (Some c) f e rest =
        let same : in_part i c ≡ d = same_declared e in
        let none : i ≡ i + 0 = omega arith in
        (0, m, refl, ap (λ (a : Declared). a.part) (sym same) ∙ none, f ∙ ap (λ (a : Declared). Some a.class) same)
    by None f e rest =
        let r = rest e in
        let step : i + 1 + r.0 ≡ i + suc r.0 = omega arith in
        (suc r.0, r.1, r.2, r.3 ∙ step, r.4)

from_file : (i : ℕ) (ms : List Linked) (x : List ℕ) (r : ℕ) (m : Linked) (c : ClassTree) → slice_get ms r ≡ Some m
    → class_file x m ≡ Some c → (d : Declared) × (declared_from i ms x ≡ Some d)
from_file i [] x r m c at e = absurd cc
from_file i (n ∷ ms) x zero m c at e =
    let same : n ≡ m = cc in
    (in_part i c, ap (λ o. or_next i o (declared_from (i + 1) ms x)) (ap (class_file x) same ∙ e))
from_file i (n ∷ ms) x (suc r) m c at e = by (class_file x n) (from_file (i + 1) ms x r m c at e)
  where
    by : (o : Option ClassTree) → (d : Declared) × (declared_from (i + 1) ms x ≡ Some d) → (d : Declared)
        × (or_next i o (declared_from (i + 1) ms x) ≡ Some d)
    by (Some c) r = (in_part i c, refl)
    by None r = r

-- ---- the methods of a class

module _ (name desc : List ℕ) where
  abbrev asked : WorldMember → Bool
  asked m = is_selectable m.flags && is_called name desc m

  asks_alike : (m : MethodTree) → asked (method_of_class m) ≡ is_selected name desc m
  asks_alike m = sym (and_three (is_selectable m.flags) (bytes_eq m.name name) (bytes_eq m.desc desc))

  found_at : (ms : List MethodTree) (y : MethodTree) → find (λ m. is_selected name desc m) ms ≡ Some y → (i : ℕ)
      × (position asked (map method_of_class ms) ≡ Some i) × (slice_get ms i ≡ Some y)
  found_at [] y e = absurd cc
  found_at (x ∷ ms) y e = by (is_selected name desc x) refl e (found_at ms y)
    where
      by : (b : Bool) → is_selected name desc x ≡ b → cond b (Some x) (find (λ m. is_selected name desc m) ms) ≡ Some y
          → (find (λ m. is_selected name desc m) ms ≡ Some y → (i : ℕ)
          × (position asked (map method_of_class ms) ≡ Some i) × (slice_get ms i ≡ Some y)) → (i : ℕ)
          × (position asked (map method_of_class (x ∷ ms)) ≡ Some i) × (slice_get (x ∷ ms) i ≡ Some y)
      by true f e rest = (
        0,
        position-cons asked (method_of_class x) (map method_of_class ms)
            ∙ ap (λ b. if b then Some 0 else option_map suc (position asked (map method_of_class ms))) (asks_alike x ∙ f),
        e,
      )
      by false f e rest =
          let r = rest e in (
            suc r.0,
            position-cons asked (method_of_class x) (map method_of_class ms)
                ∙ ap (λ b. if b then Some 0 else option_map suc (position asked (map method_of_class ms)))
                (asks_alike x ∙ f) ∙ ap (option_map suc) r.1,
            r.2,
          )

  none_at : (ms : List MethodTree) → find (λ m. is_selected name desc m) ms ≡ None
      → position asked (map method_of_class ms) ≡ None
  none_at [] e = refl
  none_at (x ∷ ms) e = by (is_selected name desc x) refl e (none_at ms)
    where
      by : (b : Bool) → is_selected name desc x ≡ b → cond b (Some x) (find (λ m. is_selected name desc m) ms) ≡ None
          → (find (λ m. is_selected name desc m) ms ≡ None → position asked (map method_of_class ms) ≡ None)
          → position asked (map method_of_class (x ∷ ms)) ≡ None
      by true f e rest = absurd cc
      by false f e rest = position-cons asked (method_of_class x) (map method_of_class ms)
          ∙ ap (λ b. if b then Some 0 else option_map suc (position asked (map method_of_class ms))) (asks_alike x ∙ f)
          ∙ ap (option_map suc) (rest e)

-- each of a list is among their names
each_left : (cs : List ClassTree) (k : ℕ) (t : ClassTree) → slice_get cs k ≡ Some t
    → is_left (map (λ (c : ClassTree). c.name) cs) t.name ≡ true
unfolding is_left
each_left [] k t e = absurd cc
each_left (c ∷ cs) zero t e =
    let same : c ≡ t = cc in
    ap (λ b. b || is_left (map (λ (c : ClassTree). c.name) cs) t.name) (ap (λ (y : ClassTree). bytes_eq y.name t.name)
    same ∙ name_is t.name)
each_left (c ∷ cs) (suc k) t e = ap (λ b. bytes_eq c.name t.name || b) (each_left cs k t e)
    ∙ or_true (bytes_eq c.name t.name)

module _ (packages : List Package) (unbroken : breaks (map linked_as packages) ≡ [])
    (is : AreOrdered (files_together packages)) where
  abbrev group : List Files
  group = files_together packages

  abbrev linked : List Linked
  linked = map linked_as packages

  abbrev w : List Class
  w = joint_world group

  order : IsOrdered w
  order = ordered group is

  are_apart : AreApart group
  are_apart = apart group is.sound

  single : (x : List ℕ) (c : Class) → class_named w x ≡ Some c → c.is_imported ≡ false → (s : List ℕ)
      × (c.supers ≡ s ∷ [])
  single x c named = by (joint_class group x c named)
    where
      by : {c : Class} → IsJoint group c → c.is_imported ≡ false → (s : List ℕ) × (c.supers ≡ s ∷ [])
      by (own_file q k p t own) mine = (t.superclass, refl)
      by (outside_file n e at) mine = absurd cc

  linked_at : (q : ℕ) (p : Package) → slice_get packages q ≡ Some p → slice_get linked q ≡ Some (linked_as p)
  linked_at q p there = get_mapped linked_as packages q ∙ ap (option_map linked_as) there

  -- ---- class files of the group

  one_own : (r k s n : ℕ) (f g : Files) (c e : ClassTree) → IsOwn group r k f c → IsOwn group s n g e
      → c.name ≡ e.name → (r ≡ s) × (c ≡ e)
  one_own r k s n f g c e a b same =
      let names : f.package_name ≡ g.package_name = sym (package_is f.package_name c.name (are_apart.own r k f c a))
      ∙ ap package_of same ∙ package_is g.package_name e.name (are_apart.own s n g e b) in
      let one : r ≡ s = are_apart.names r s f g a.member b.member names in
      let both : f ≡ g = same_files (sym a.member ∙ ap (slice_get group) one ∙ b.member) in
      let named = own_in group is r k f c a in
      let other = own_in group is s n g e b in
      let class : declared k c ≡ declared n e = same_class (sym named ∙ ap (λ (h : Files). class_named (all_classes h)
      c.name) both ∙ ap (class_named (all_classes g)) same ∙ other) in
      let number : k ≡ n = ap (λ (v : Class). v.number) class in (
        one,
        same_tree (sym a.file ∙ ap (λ (h : Files). slice_get h.classes k) both ∙ ap (slice_get g.classes) number
            ∙ b.file),
      )

  opened : (p : Package) (x : List ℕ) (c : ClassTree) → class_file x (linked_as p) ≡ Some c → (k : ℕ)
      × (let f = p.files in slice_get f.classes k ≡ Some c)
      × (class_named (all_classes p.files) x ≡ Some (declared k c))
  opened p x c e = by (class_named (all_classes p.files) x) refl e
    where
      go : (d : Class) → IsFiled p.files d → class_named (all_classes p.files) x ≡ Some d
          → file_found (linked_as p) (Some d) ≡ Some c → (k : ℕ)
          × (let f = p.files in slice_get f.classes k ≡ Some c)
          × (class_named (all_classes p.files) x ≡ Some (declared k c))
      go _ (in_class_file n t file) f e =
          let same : t ≡ c = same_tree (sym file ∙ e) in
          (n, file ∙ ap Some same, f ∙ ap (λ u. Some (declared n u)) same)
      go _ (in_export_file n u file) f e = absurd cc

      by : (o : Option Class) → class_named (all_classes p.files) x ≡ o → file_found (linked_as p) o ≡ Some c → (k : ℕ)
          × (let f = p.files in slice_get f.classes k ≡ Some c)
          × (class_named (all_classes p.files) x ≡ Some (declared k c))
      by None f e = absurd cc
      by (Some d) f e = go d (filed p.files x d f) f e

  -- A class of a name that the rule finds.
  record IsFileOf (x : List ℕ) (d : Declared) : Type 0 where
    place : ℕ
    files : Files
    number : ℕ
    own : IsOwn group place number files d.class
    is_part : d.part ≡ place
    has_name : (let c = d.class in c.name) ≡ x

  file_of : (x : List ℕ) (d : Declared) → declared_in linked x ≡ Some d → IsFileOf x d
  file_of x d e =
      let r = from_part 0 linked x d e in
      let k = mapped_at linked_as packages r.0 r.1 r.2 in
      let p = k.0 in
      let c = opened p x d.class (ap (class_file x) k.2 ∙ r.4) in
      let none : 0 + r.0 ≡ r.0 = omega arith in
      record {
        place = r.0;
        files = p.files;
        number = c.0;
        own = record { member = files_at packages r.0 p k.1; file = c.1 };
        is_part = r.3 ∙ none;
        has_name = class_named-name (all_classes p.files) x (declared c.0 d.class) c.2;
      }

  -- each class file is found so
  known : (r k : ℕ) (f : Files) (t : ClassTree) → IsOwn group r k f t → declared_in linked t.name ≡ Some (in_part r t)
  known r k f t own =
      let p = package_with packages r f own.member in
      let g = p.0 in
      let named : class_named (all_classes g.files) t.name ≡ Some (declared k t) = ap (λ (h : Files). class_named
      (all_classes h) t.name) (sym p.2) ∙ own_in group is r k f t own in
      let file : (let h = g.files in slice_get h.classes k ≡ Some t) = ap (λ (h : Files). slice_get h.classes k)
      (sym p.2) ∙ own.file in
      let d = from_file 0 linked t.name r (linked_as g) t (linked_at r g p.1) (ap (file_found (linked_as g)) named
      ∙ file) in
      let o = file_of t.name d.0 d.1 in
      let one = one_own o.place o.number r k o.files f (let e = d.0 in e.class) t o.own own o.has_name in
      d.1 ∙ ap Some (declared_is d.0 r t (o.is_part ∙ one.0) one.1)

  -- ---- what is selected among them

  module _ (j : ℕ) (m : Files) (at_j : slice_get group j ≡ Some m) (name desc : List ℕ) where
    abbrev coding : Class → Option Found
    coding = own_within m.package_name name desc

    -- What the search of a class finds.
    record Selects (x : List ℕ) (y : MethodTree) : Type 0 where
      place : Found
      found : first coding (line w x) ≡ Some place
      hit : ResolvedMember
      is_hit : method_hit w place ≡ Some hit
      has_flags : hit.flags ≡ y.flags

    module _ (x : List ℕ) (d : Declared) (o : IsFileOf x d) where
      abbrev c : ClassTree
      c = d.class

      abbrev there : Class
      there = declared (before group o.place + o.number) c

      in_joint : class_named w x ≡ Some there
      in_joint = ap (class_named w) (sym o.has_name) ∙ own_is_found group are_apart o.place o.number o.files c o.own

      of_package : package_of c.name ≡ (let f = o.files in f.package_name)
      of_package = package_is (let f = o.files in f.package_name) c.name (are_apart.own o.place o.number o.files c o.own)

      at_home : d.part ≡ j → bytes_eq (package_of c.name) m.package_name ≡ true
      at_home same =
          let own = o.own in
          let one : o.files ≡ m = same_files (sym own.member ∙ ap (slice_get group) (sym o.is_part ∙ same) ∙ at_j) in
          ap (λ y. bytes_eq y m.package_name) (of_package ∙ ap (λ (h : Files). h.package_name) one)
          ∙ name_is m.package_name

      away : (j ≡ d.part → ⊥) → bytes_eq (package_of c.name) m.package_name ≡ false
      away other = by (bytes_eq (package_of c.name) m.package_name) refl
        where
          by : (b : Bool) → bytes_eq (package_of c.name) m.package_name ≡ b
              → bytes_eq (package_of c.name) m.package_name ≡ false
          by false e = e
          by true e =
              let own = o.own in
              let one : o.place ≡ j = are_apart.names o.place j o.files m own.member at_j (sym of_package
              ∙ bytes_true (package_of c.name) m.package_name e) in
              absurd (other (sym (o.is_part ∙ one)))

      selects_here : (y : MethodTree) → method_in j name desc d ≡ Some y → Selects x y
      selects_here y e = by (d.part == j) refl e
        where
          by : (b : Bool) → (d.part == j) ≡ b → (if b then find (λ m. is_selected name desc m) c.methods else None)
              ≡ Some y → Selects x y
          by false f e = absurd cc
          by true f e =
              let r = found_at name desc c.methods y e in
              let place = member_at there (length there.fields + r.0) in
              let own : coding there ≡ Some place = ap (λ b. if b then own_where is_selectable name desc there else None)
              (at_home (number_same d.part j f))
              ∙ ap (option_map (λ i. member_at there (length there.fields + i))) r.1 in
              record {
                place = place;
                found = search_from w order.acyclic coding x there in_joint place own;
                hit = record { owner = there; flags = y.flags };
                is_hit = hit_is w there r.0 (method_of_class y) (own_at_number group o.place o.number o.files c o.own)
                    (get_mapped method_of_class c.methods r.0 ∙ ap (option_map method_of_class) r.2);
                has_flags = refl;
              }

      none_here : method_in j name desc d ≡ None → coding there ≡ None
      none_here e = by (d.part == j) refl e
        where
          by : (b : Bool) → (d.part == j) ≡ b → (if b then find (λ m. is_selected name desc m) c.methods else None)
              ≡ None → coding there ≡ None
          by false f e = ap (λ b. if b then own_where is_selectable name desc there else None) (away (number_apart d.part
              j f))
          by true f e = ap (λ b. if b then own_where is_selectable name desc there else None) (at_home (number_same d.part
              j f)) ∙ ap (option_map (λ i. member_at there (length there.fields + i))) (none_at name desc c.methods e)

    climbs : (n : ℕ) (x : List ℕ) (y : MethodTree) → selected_in j name desc (upwards linked n x) ≡ Some y → Selects x y
    unfolding upwards
    climbs zero x y e = absurd cc
    climbs (suc n) x y e = by (declared_in linked x) refl e (λ z f. climbs n z y f)
      where
        go : (d : Declared) (o : IsFileOf x d) → ((z : List ℕ) → selected_in j name desc (upwards linked n z) ≡ Some y
            → Selects z y) → (s : Option MethodTree) → method_in j name desc d ≡ s
            → or_method s (selected_in j name desc (upwards linked n (let c = d.class in c.superclass))) ≡ Some y
            → Selects x y
        go d o more (Some z) f e = selects_here x d o y (f ∙ e)
        go d o more None f e =
            let t = d.class in
            let s = more t.superclass e in
            record {
              place = s.place;
              found = search_up w order.acyclic coding x t.superclass (declared (before group o.place + o.number) t)
                  (in_joint x d o) refl (none_here x d o f) ∙ s.found;
              hit = s.hit;
              is_hit = s.is_hit;
              has_flags = s.has_flags;
            }

        by : (o : Option Declared) → declared_in linked x ≡ o → selected_in j name desc (with_class o (λ c. upwards
            linked n c.superclass)) ≡ Some y → ((z : List ℕ) → selected_in j name desc (upwards linked n z) ≡ Some y
            → Selects z y) → Selects x y
        by None f e more = absurd cc
        by (Some d) f e more = go d (file_of x d f) more (method_in j name desc d) refl e

  -- ---- which of them stand above a class

  -- each class file on the line has a name that is left
  abbrev AllLeft : List (List ℕ) → List ℕ → Type 0
  AllLeft left x = (c : Class) → OnLine w x c → c.is_imported ≡ false → is_left left c.name ≡ true

  module _ (j i : ℕ) (m : Files) (u : ClassTree) (own_u : IsOwn group j i m u) where
    abbrev top : Class
    top = declared (before group j + i) u

    -- It stands among them.
    abbrev Among : (n : ℕ) → List ℕ → Type 0
    Among n x = (k : ℕ) × (slice_get (upwards linked n x) k ≡ Some (in_part j u))

    mine : (d : Class) → d ≡ top → d.is_imported ≡ false
    mine d same = ap (λ (v : Class). v.is_imported) same

    stands : (n : ℕ) (left : List (List ℕ)) → length left ≤ n → (x : List ℕ) (d : Class) → OnLine w x d → d ≡ top
        → AllLeft left x → Among n x
    unfolding upwards
    stands zero left le x d on same all =
        let b = line_begins w x d on in
        let own = low w order single x b.0 d b.1 on (mine d same) in
        absurd (none_left left (let c = b.0 in c.name) le (all b.0 (here b.1) own))
    stands (suc n) left le x d (here e) same all =
        let name : u.name ≡ x = ap (λ (v : Class). v.name) (sym same) ∙ class_named-name w x d e in (
          0,
          ap (λ o. slice_get (with_class o (λ c. upwards linked n c.superclass)) 0) (ap (declared_in linked) (sym name)
              ∙ known j i m u own_u),
        )
    stands (suc n) left le x d (up {s = s} c e l rest) same all =
        by c (joint_class group x c e) e own l (stands n (without x left) (omega (arith, le, less)) s d rest same
        all_above)
      where
        on_all : OnLine w x d
        on_all = up c e l rest

        own : c.is_imported ≡ false
        own = low w order single x c d e on_all (mine d same)

        less : length (without x left) < length left
        less = without-less x left (subst (λ y. is_left left y ≡ true) (class_named-name w x c e) (all c (here e) own))

        all_above : AllLeft (without x left) s
        all_above b on_b own_b = without-left x b.name left (other (bytes_eq x b.name) refl) (all b (up c e l on_b)
            own_b)
          where
            front : Lists s (c.supers ++ c.interfaces)
            front = lists-front s c.supers c.interfaces l

            above : Above w x b.name
            above = ⊎_elim (λ same. directly c e (subst (λ z. Lists z (c.supers ++ c.interfaces)) same front))
                (λ far. onwards c e front far) (line_below w s b on_b)

            other : (t : Bool) → bytes_eq x b.name ≡ t → bytes_eq x b.name ≡ false
            other false f = f
            other true f = absurd (order.acyclic x (subst (Above w x) (sym (bytes_true x b.name f)) above))

        by : (c : Class) → IsJoint group c → class_named w x ≡ Some c → c.is_imported ≡ false → Lists s c.supers
            → Among n s → Among (suc n) x
        by _ (outside_file k y kept) named own l more = absurd cc
        by _ (own_file r k f t own_t) named own l more =
            let name : t.name ≡ x = class_named-name w x (declared (before group r + k) t) named in
            let super : s ≡ t.superclass = only s t.superclass l in (
              suc more.0,
              ap (λ o. slice_get (with_class o (λ c. upwards linked n c.superclass)) (suc more.0)) (ap (declared_in linked)
                  (sym name) ∙ known r k f t own_t)
                  ∙ ap (λ z. slice_get (upwards linked n z) more.0) (sym super) ∙ more.1,
            )

  -- ---- the rule

  pub implements : length (joint_classes group) ≤ class_limit → (q j k n i : ℕ) (p m : Files) (t u : ClassTree)
      (x : MethodTree) → IsOwn group q k p t → IsOwn group j n m u → (q ≡ j → ⊥) → is_interface t.flags ≡ false
      → is_abstract t.flags ≡ false → OnLine w t.name (declared (before group j + n) u) → slice_get u.methods i ≡ Some x
      → is_package_visible x.flags ≡ true → is_abstract x.flags ≡ true
      → HasCodeWithin w m.package_name t.name x.name x.desc
  implements small q j k n i p m t u x own_t own_u other ground made on there hidden bare =
      let s = climbs j m own_u.member x.name x.desc class_limit t.superclass code.0 code.1 in
      record {
        place = s.place;
        hit = s.hit;
        found = search_up w order.acyclic (own_within m.package_name x.name x.desc) t.name t.superclass
            (declared (before group q + k) t) named_t refl none_own ∙ s.found;
        is_hit = s.is_hit;
        is_concrete = ap is_abstract s.has_flags ∙ code.2;
      }
    where
      its : (g : Package) × (slice_get packages q ≡ Some g) × (p ≡ g.files)
      its = package_with packages q p own_t.member

      named_t : class_named w t.name ≡ Some (declared (before group q + k) t)
      named_t = own_is_found group are_apart q k p t own_t

      open_off : is_left_open q (upwards linked class_limit t.superclass) ≡ false
      open_off =
          let g = its.0 in
          let h = linked_as g in
          let file : (let f = g.files in slice_get f.classes k ≡ Some t) = ap (λ (f : Files). slice_get f.classes k)
          (sym its.2) ∙ own_t.file in
          let package_off : member_breaks linked q h ≡ [] = each_at (λ i p. member_breaks linked i p) q linked h unbroken
          (linked_at q g its.1) in
          let classes_off : class_breaks linked q h ≡ [] = none_right (list_breaks linked q h) (class_breaks linked q h)
          package_off in
          let class_off = each_at (λ k c. at (lacks_implementation linked q c) (class_at q h k c) 735) k
          (let f = g.files in f.classes) t classes_off file in
          left_open (is_abstract t.flags) (is_left_open q (upwards linked class_limit t.superclass)) made
          (not_broken (lacks_implementation linked q t) (class_at q h k t) 735 class_off)

      -- t is another class than u
      on_super : (y : List ℕ) (d : Class) → OnLine w y d → y ≡ t.name → d ≡ declared (before group j + n) u
          → OnLine w t.superclass d
      on_super y d (here e) is_t is_u =
          let one = one_own q k j n p m t u own_t own_u (sym is_t ∙ sym (class_named-name w y d e)
          ∙ ap (λ (v : Class). v.name) is_u) in
          absurd (other one.0)
      on_super y d (up {s = s} c e l rest) is_t is_u =
          let one : c ≡ declared (before group q + k) t = same_class (sym e ∙ ap (class_named w) is_t ∙ named_t) in
          let super : s ≡ t.superclass = only s t.superclass (subst (λ (v : Class). Lists s v.supers) one l) in
          subst (λ z. OnLine w z d) super rest

      all_left : AllLeft (map (λ (c : ClassTree). c.name) (joint_classes group)) t.superclass
      all_left c on_c own = by (joint_class group c.name c (line_named w t.superclass c on_c)) own
        where
          by : {c : Class} → IsJoint group c → c.is_imported ≡ false
              → is_left (map (λ (c : ClassTree). c.name) (joint_classes group)) c.name ≡ true
          by (outside_file b y kept) own = absurd cc
          by (own_file r b f v own_v) own = each_left (joint_classes group) (before group r + b) v (joint_place group r b
              f v own_v)

      among : (z : ℕ) × (slice_get (upwards linked class_limit t.superclass) z ≡ Some (in_part j u))
      among =
          let long = length-map (joint_classes group) (λ (c : ClassTree). c.name) in
          stands j n m u own_u class_limit (map (λ (c : ClassTree). c.name) (joint_classes group)) (omega (
            arith,
            long,
            small,
          )) t.superclass (declared (before group j + n) u) (on_super t.name (declared (before group j + n) u) on refl
          refl) refl all_left

      code : (y : MethodTree) × (selected_in j x.name x.desc (upwards linked class_limit t.superclass) ≡ Some y)
          × (is_abstract y.flags ≡ false)
      code =
          let a = among in
          let one = any_off (λ (d : Declared). leaves_open q (upwards linked class_limit t.superclass) d) (upwards linked class_limit t.superclass) a.0 (in_part j u) open_off a.1 in
          let apart_one : (j == q) ≡ false = other_number j q (λ e. other (sym e)) in
          let some_off = left_open (j == q) (list_any (λ m. is_unimplemented j (upwards linked class_limit t.superclass) m) u.methods) apart_one one in
          let method_off = any_off (λ (m : MethodTree). is_unimplemented j (upwards linked class_limit t.superclass) m) u.methods i x some_off there in
          coded (selected_in j x.name x.desc (upwards linked class_limit t.superclass)) (implemented_one (is_hidden x.flags) (is_abstract x.flags)
          (is_no_implementation (selected_in j x.name x.desc (upwards linked class_limit t.superclass))) (hidden_too x.flags hidden) bare method_off)

      none_own : own_within m.package_name x.name x.desc (declared (before group q + k) t) ≡ None
      none_own = by (bytes_eq (package_of t.name) m.package_name) refl
        where
          by : (b : Bool) → bytes_eq (package_of t.name) m.package_name ≡ b
              → own_within m.package_name x.name x.desc (declared (before group q + k) t) ≡ None
          by false e = ap (λ b. if b then own_where is_selectable x.name x.desc (declared (before group q + k) t)
              else None) e
          by true e = absurd (other (are_apart.names q j p m own_t.member own_u.member (sym (package_is p.package_name
              t.name (are_apart.own q k p t own_t)) ∙ bytes_true (package_of t.name) m.package_name e)))
