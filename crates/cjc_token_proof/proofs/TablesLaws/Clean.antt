-- Where no rule of classes and names is broken, each class keeps them, and is the first of its name.
use Rattle.std.proofs.Common.{◌≡◌, ℕ, zero, suc, ◌+◌, refl, sym, ap, subst, ◌∙◌, arith, Bool, true, false, List, []}
use Rattle.std.proofs.Common.{◌∷◌, ◌++◌}
use Rattle.std.specs.Prelude.{map, not, ◌&&◌, ◌||◌, ◌==◌, Option, Some, None, slice_get, if◌then◌else◌}
use Rattle.std.specs.Str.{bytes_eq}
use Rattle.std.proofs.lemmas.Bool.{eqb-true}
use Rattle.cjc_bytes.specs.Breaks.{broken_at, list_spot}
use Rattle.cjc_bytes.specs.declared.order.FileKey.{FileKey}
use Rattle.cjc_bytes.specs.declared.order.FileKey.TheVariants as keys
use Rattle.cjc_bytes.specs.declared.settings.FileLine.{FileLine}
use Rattle.cjc_bytes.proofs.Lists.{name_is, none_left, none_right}
use Rattle.cjc_world.specs.ClassFile.declared.tree.ClassTree.{ClassTree}
use Rattle.cjc_world.specs.ExportFile.declared.tree.ExportTree.{ExportTree}
use Rattle.cjc_vtable.proofs.Filed.{Every, every-append, Has, at_front, behind}
use Rattle.cjc_world.specs.Files.{Files}
use Rattle.cjc_world.specs.Classes.{Class, Member, numbered, size, of_class_file, of_export_file, classes_from}
use Rattle.cjc_world.specs.Classes.{all_classes, class_named}
use Rattle.cjc_world.specs.Rules.{at_class, at_member, breaks, breaks_from, class_breaks, class_file_breaks}
use Rattle.cjc_world.specs.Rules.{class_rules, classes_breaks, export_file_breaks, gets_missing, has_language}
use Rattle.cjc_world.specs.Rules.{is_desc_missing, is_of_package, is_other, is_own_super, is_second, is_second_package}
use Rattle.cjc_world.specs.Rules.{is_twice, lists_missing, lists_wrong, member_rules, members, members_before}
use Rattle.cjc_world.specs.Rules.{members_from, same_place, told, when}
use Rattle.cjc_world.proofs.Unbroken.{nil_of_map, not_when}
use Rattle.cjc_token_proof.specs.Tables.Kept.{KeepsRules}
use Rattle.cjc_token_proof.specs.Tables.Sound.{IsSound}
use Rattle.cjc_token_proof.proofs.TablesLaws.Filed.{one_class}

pub every-has : (P : Class → Type 0) (cs : List Class) (c : Class) → Every P cs → Has c cs → P c
unfolding Every
every-has P [] c p h = elim h [ ]
every-has P (d ∷ cs) c p at_front = p.0
every-has P (d ∷ cs) c p (behind h) = every-has P cs c p.1 h

-- ---- nothing is broken at a class

IsClean : List ℕ → List Class → Class → Type 0
IsClean prefix w c = (file : FileKey) × (name : List ℕ) × (k : ℕ) × (class_breaks prefix file name k w c ≡ [])

clean_classes : (prefix : List ℕ) (file : FileKey) (name : List ℕ) (k : ℕ) (w cs : List Class)
    → classes_breaks prefix file name k w cs ≡ [] → Every (IsClean prefix w) cs
unfolding Every IsClean classes_breaks
clean_classes prefix file name k w [] e = tt
clean_classes prefix file name k w (c ∷ cs) e =
    let here = class_breaks prefix file name k w c in
    let rest = classes_breaks prefix file name (k + 1) w cs in
    ((file, name, k, none_left here rest e), clean_classes prefix file name (k + 1) w cs (none_right here rest e))

clean_class_file : (files : Files) (file : FileKey) (name : List ℕ) (w : List Class) (n : ℕ) (o : Option ClassTree)
    → class_file_breaks files file name w n o ≡ [] → Every (IsClean files.package_name w) (of_class_file n o)
unfolding Every IsClean
clean_class_file files file name w n None e = tt
clean_class_file files file name w n (Some c) e = ((file, name, 1, e), tt)

clean_export_file : (files : Files) (file : FileKey) (name : List ℕ) (w : List Class) (m n : ℕ) (o : Option ExportTree)
    → export_file_breaks files file name w m n o ≡ [] → Every (IsClean files.package_name w) (of_export_file n o)
unfolding Every
clean_export_file files file name w m n None e = tt
clean_export_file files file name w m n (Some t) e =
    clean_classes files.package_name file name 1 w (numbered n t.classes)
    (none_right (map (λ rule. at_class file name 0 [] rule) (when (is_second_package files m t) 202))
    (classes_breaks files.package_name file name 1 w (numbered n t.classes)) e)

clean_lines : (files : Files) (w : List Class) (k c e i : ℕ) (lines : List FileLine) → breaks_from files w k c e i lines
    ≡ [] → Every (IsClean files.package_name w) (classes_from files.classes files.exports c e i lines)
unfolding Every breaks_from classes_from
clean_lines files w k c e i [] p = tt
clean_lines files w k c e i (line ∷ lines) p =
    by line.class_file p
    (clean_lines files w (k + 1) (c + 1) e i lines)
    (clean_lines files w (k + 1) c (e + 1) (i + size (slice_get files.exports e)) lines)
  where
    by : (b : Bool)
        → (if b
        then class_file_breaks files (keys.Line k) line.name w c (slice_get files.classes c)
        ++ breaks_from files w (k + 1) (c + 1) e i lines
        else export_file_breaks files (keys.Line k) line.name w e i (slice_get files.exports e)
        ++ breaks_from files w (k + 1) c (e + 1) (i + size (slice_get files.exports e)) lines) ≡ []
        → (breaks_from files w (k + 1) (c + 1) e i lines ≡ []
        → Every (IsClean files.package_name w) (classes_from files.classes files.exports (c + 1) e i lines))
        → (breaks_from files w (k + 1) c (e + 1) (i + size (slice_get files.exports e)) lines ≡ []
        → Every (IsClean files.package_name w) (classes_from files.classes files.exports c (e + 1)
        (i + size (slice_get files.exports e)) lines))
        → Every (IsClean files.package_name w) (if b
        then of_class_file c (slice_get files.classes c) ++ classes_from files.classes files.exports (c + 1) e i lines
        else of_export_file i (slice_get files.exports e) ++ classes_from files.classes files.exports c (e + 1)
        (i + size (slice_get files.exports e)) lines)
    by true q r s =
        let here = class_file_breaks files (keys.Line k) line.name w c (slice_get files.classes c) in
        let rest = breaks_from files w (k + 1) (c + 1) e i lines in
        every-append (IsClean files.package_name w) (of_class_file c (slice_get files.classes c))
        (classes_from files.classes files.exports (c + 1) e i lines)
        (clean_class_file files (keys.Line k) line.name w c (slice_get files.classes c) (none_left here rest q))
        (r (none_right here rest q))
    by false q r s =
        let here = export_file_breaks files (keys.Line k) line.name w e i (slice_get files.exports e) in
        let rest = breaks_from files w (k + 1) c (e + 1) (i + size (slice_get files.exports e)) lines in
        every-append (IsClean files.package_name w) (of_export_file i (slice_get files.exports e))
        (classes_from files.classes files.exports c (e + 1) (i + size (slice_get files.exports e)) lines)
        (clean_export_file files (keys.Line k) line.name w e i (slice_get files.exports e) (none_left here rest q))
        (s (none_right here rest q))

-- ---- what a class keeps

module _ (file : FileKey) (file_name : List ℕ) (place : ℕ) (w : List Class) (c : Class) (field : Bool) where
  abbrev of_member : ℕ → Member → List ℕ
  of_member i m = member_rules w c (members field c) i m.name m.desc

  clean_members : (i : ℕ) (ms : List Member) (k : ℕ) (m : Member) → members_from file file_name place w c field i ms
      ≡ [] → slice_get ms k ≡ Some m → of_member (i + k) m ≡ []
  unfolding members_from
  clean_members i [] k m e is = cc
  clean_members i (x ∷ ms) zero m e is =
      let same : x ≡ m = cc in
      let at = λ (rule : ℕ). at_member file file_name place c.name (members_before field c + i + 1)
      (told field x.name x.desc) rule in
      let here : of_member i x ≡ [] = nil_of_map at (of_member i x) (none_left (map at (of_member i x))
      (members_from file file_name place w c field (i + 1) ms) e) in
      let stay : i + 0 ≡ i = omega arith in
      ap (λ j. of_member j m) stay ∙ ap (of_member i) (sym same) ∙ here
  clean_members i (x ∷ ms) (suc k) m e is =
      let at = λ (rule : ℕ). at_member file file_name place c.name (members_before field c + i + 1)
      (told field x.name x.desc) rule in
      let rest = clean_members (i + 1) ms k m (none_right (map at (of_member i x))
      (members_from file file_name place w c
      field (i + 1) ms) e) is in
      let next : i + suc k ≡ i + 1 + k = omega arith in
      ap (λ j. of_member j m) next ∙ rest

  once_members : (ms : List Member) → members_from file file_name place w c field 0 ms ≡ [] → (k : ℕ) (m : Member)
      → slice_get ms k ≡ Some m → is_twice (members field c) k m.name m.desc ≡ false
  unfolding member_rules
  once_members ms e k m is =
      let z : 0 + k ≡ k = omega arith in
      let here = subst (λ j. of_member j m ≡ []) z (clean_members 0 ms k m e is) in
      not_when (is_twice (members field c) k m.name m.desc) 202
      (none_left (when (is_twice (members field c) k m.name m.desc) 202) (when (not c.is_imported
      && is_desc_missing w m.desc) 203) here)

is_so : (a b : Bool) → (not a && not b) ≡ false → a ≡ false → b ≡ true
is_so false true e f = refl
is_so false false e f = cc
is_so true b e f = cc

neither : (a b d : Bool) → (not a && (b || d)) ≡ false → a ≡ false → b ≡ false
neither false true d e f = cc
neither false false d e f = refl
neither true b d e f = cc

keeps : (prefix : List ℕ) (w : List Class) (c : Class) → IsClean prefix w c → KeepsRules prefix w c
unfolding IsClean class_breaks class_rules
keeps prefix w c (file, file_name, k, e) =
    let A = when (not c.is_imported && not (is_of_package prefix c.name)) 201 in
    let B = when (is_second w c) 202 in
    let D = when (not c.is_imported && (lists_missing w c || gets_missing w c)) 203 in
    let E = when (is_own_super w c) 204 in
    let G = when (lists_wrong w c) 208 in
    let at = λ (rule : ℕ). at_class file file_name k c.name rule in
    let R = map at (A ++ B ++ D ++ E ++ G) in
    let F = members_from file file_name k w c true 0 c.fields in
    let M = members_from file file_name k w c false 0 c.methods in
    let own = nil_of_map at (A ++ B ++ D ++ E ++ G) (none_left R F (none_left (R ++ F) M e)) in
    let three = none_left (A ++ B ++ D) E (none_left (A ++ B ++ D ++ E) G own) in
    record {
      of_package = is_so c.is_imported (is_of_package prefix c.name) (not_when (not c.is_imported
          && not (is_of_package prefix c.name)) 201 (none_left A B (none_left (A ++ B) D three)));
      once = not_when (is_second w c) 202 (none_right A B (none_left (A ++ B) D three));
      there = neither c.is_imported (lists_missing w c) (gets_missing w c) (not_when (not c.is_imported
          && (lists_missing w c || gets_missing w c)) 203 (none_right (A ++ B) D three));
      supers = not_when (lists_wrong w c) 208 (none_right (A ++ B ++ D ++ E) G own);
      fields = once_members file file_name k w c true c.fields (none_right R F (none_left (R ++ F) M e));
      methods = once_members file file_name k w c false c.methods (none_right (R ++ F) M e);
    }

named_has : (w : List Class) (c : Class) → Has c w → (d : Class) × (class_named w c.name ≡ Some d)
unfolding class_named
named_has [] c h = elim h [ ]
named_has (b ∷ w) c at_front = (c, ap (λ t. if t then Some c else class_named w c.name) (name_is c.name))
named_has (b ∷ w) c (behind h) = by (bytes_eq b.name c.name) (named_has w c h)
  where
    by : (named : Bool) → (d : Class) × (class_named w c.name ≡ Some d) → (d : Class)
        × ((if named then Some b else class_named w c.name) ≡ Some d)
    by true r = (b, refl)
    by false r = r

-- a class that a name finds stands in the list, and has the name
pub has_named : (w : List Class) (x : List ℕ) (d : Class) → class_named w x ≡ Some d → Has d w
unfolding class_named
has_named [] x d e = cc
has_named (c ∷ w) x d e = by (bytes_eq c.name x) e (has_named w x d)
  where
    by : (b : Bool) → (if b then Some c else class_named w x) ≡ Some d → (class_named w x ≡ Some d → Has d w)
        → Has d (c ∷ w)
    by true f rest = let is : c ≡ d = cc in subst (λ (q : Class). Has q (c ∷ w)) is at_front
    by false f rest = behind (rest f)

same : (c d : Class) → same_place c d ≡ true → (c.is_imported ≡ d.is_imported) × (c.number ≡ d.number)
same c d e = by c.is_imported d.is_imported (c.number == d.number) (eqb-true c.number d.number) e
  where
    by : (a b q : Bool) → (q ≡ true → c.number ≡ d.number) → ((if a then b else not b) && q) ≡ true → (a ≡ b)
        × (c.number ≡ d.number)
    by true true true h f = (refl, h refl)
    by false false true h f = (refl, h refl)
    by true false q h f = cc
    by false true q h f = cc
    by true true false h f = cc
    by false false false h f = cc

module _ (list : List ℕ) (files : Files) (sound : IsSound list files) where
  abbrev w : List Class
  w = all_classes files

  all_clean : Every (IsClean files.package_name w) w
  unfolding breaks all_classes
  all_clean = clean_lines files w 0 0 0 0 files.lines (none_right (map (λ rule. broken_at (list_spot list) rule)
      (when (not (has_language w files.exports)) 207)) (breaks_from files w 0 0 0 0 files.lines) sound.unbroken)

  -- each class keeps its rules
  pub kept : (c : Class) → Has c w → KeepsRules files.package_name w c
  kept c h = keeps files.package_name w c (every-has (IsClean files.package_name w) w c all_clean h)

  -- 207
  pub language : has_language w files.exports ≡ true
  unfolding breaks
  language = by (has_language w files.exports) (none_left (map (λ rule. broken_at (list_spot list) rule)
      (when (not (has_language w files.exports)) 207)) (breaks_from files w 0 0 0 0 files.lines) sound.unbroken)
    where
      by : (b : Bool) → map (λ rule. broken_at (list_spot list) rule) (when (not b) 207) ≡ [] → b ≡ true
      by true e = refl
      by false e = cc

  -- each class is found by its name
  pub own_name : (c : Class) → Has c w → class_named w c.name ≡ Some c
  unfolding is_second
  own_name c h =
      let r = named_has w c h in
      let k = kept c h in
      let s = same c r.0 (by (class_named w c.name) r.1 k.once) in
      let is : c ≡ r.0 = one_class files sound.classes sound.exports c r.0 h (has_named w c.name r.0 r.1) s.0 s.1 in
      r.1 ∙ ap (λ (v : Class). Some v) (sym is)
    where
      by : (o : Option Class) {d : Class} → o ≡ Some d → is_other c o ≡ false → same_place c d ≡ true
      by None e f = cc
      by (Some b) {d} e f = let is : b ≡ d = cc in ap (same_place c) (sym is) ∙ go (same_place c b) f
        where
          go : (q : Bool) → not q ≡ false → q ≡ true
          go true g = refl
          go false g = cc
