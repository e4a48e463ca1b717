-- No class of a package that breaks no rule of classes, imported or not, has two methods of one name and descriptor.
use Rattle.std.proofs.Common.{◌≡◌, ℕ, zero, suc, ◌+◌, sym, ap, subst, ◌∙◌, arith, Bool, true, false, List, []}
use Rattle.std.proofs.Common.{◌∷◌, ◌++◌}
use Rattle.std.specs.Prelude.{map, not, ◌&&◌, Option, Some, None, slice_get, if◌then◌else◌}
use Rattle.cjc_bytes.specs.Breaks.{broken_at, list_spot}
use Rattle.cjc_bytes.specs.declared.order.FileKey.{FileKey}
use Rattle.cjc_bytes.specs.declared.order.FileKey.TheVariants as keys
use Rattle.cjc_bytes.specs.declared.settings.FileLine.{FileLine}
use Rattle.cjc_bytes.proofs.Lists.{none_left, none_right}
use Rattle.cjc_world.specs.ClassFile.declared.tree.ClassTree.{ClassTree}
use Rattle.cjc_world.specs.ExportFile.declared.tree.ExportTree.{ExportTree}
use Rattle.cjc_vtable.proofs.Filed.{Every, every-append, every-named}
use Rattle.cjc_world.proofs.Unbroken.{nil_of_map, not_when}
use Rattle.cjc_world.specs.Classes.{Class, Member, numbered, size, of_class_file, of_export_file, classes_from}
use Rattle.cjc_world.specs.Classes.{all_classes, class_named, declared}
use Rattle.cjc_world.specs.Files.{Files}
use Rattle.cjc_world.specs.Rules.{at_class, at_member, breaks, breaks_from, class_breaks, class_file_breaks}
use Rattle.cjc_world.specs.Rules.{class_rules, classes_breaks, export_file_breaks, has_language, is_desc_missing}
use Rattle.cjc_world.specs.Rules.{is_second_package, is_twice, member_rules, members_before, members_from, told, when}

-- nothing is broken at a class's methods
IsClean : List Class → Class → Type 0
IsClean w c = (file : FileKey) × (name : List ℕ) × (k : ℕ) × (members_from file name k w c false 0 c.methods ≡ [])

module _ (p : List ℕ) (w : List Class) where
  clean_class : (file : FileKey) (name : List ℕ) (k : ℕ) (c : Class) → class_breaks p file name k w c ≡ [] → IsClean w c
  unfolding class_breaks IsClean
  clean_class file name k c e =
      let R = map (λ (rule : ℕ). at_class file name k c.name rule) (class_rules p w c) in
      let F = members_from file name k w c true 0 c.fields in
      let M = members_from file name k w c false 0 c.methods in
      (file, name, k, none_right (R ++ F) M e)

  clean_classes : (file : FileKey) (name : List ℕ) (k : ℕ) (cs : List Class) → classes_breaks p file name k w cs ≡ []
      → Every (IsClean w) cs
  unfolding Every classes_breaks
  clean_classes file name k [] e = tt
  clean_classes file name k (c ∷ cs) e =
      let here = class_breaks p file name k w c in
      let rest = classes_breaks p file name (k + 1) w cs in
      (clean_class file name k c (none_left here rest e), clean_classes file name (k + 1) cs (none_right here rest e))

module _ (files : Files) (w : List Class) where
  clean_class_file : (file : FileKey) (name : List ℕ) (number : ℕ) (o : Option ClassTree)
      → class_file_breaks files file name w number o ≡ [] → Every (IsClean w) (of_class_file number o)
  unfolding Every
  clean_class_file file name number None e = tt
  clean_class_file file name number (Some c) e = (
    clean_class files.package_name w file name 1 (declared number c) e,
    tt,
  )

  clean_export_file : (file : FileKey) (name : List ℕ) (export_file number : ℕ) (o : Option ExportTree)
      → export_file_breaks files file name w export_file number o ≡ [] → Every (IsClean w) (of_export_file number o)
  unfolding Every
  clean_export_file file name n number None e = tt
  clean_export_file file name n number (Some t) e =
      clean_classes files.package_name w file name 1 (numbered number t.classes)
      (none_right (map (λ rule. at_class file name 0 [] rule) (when (is_second_package files n t) 202))
      (classes_breaks files.package_name file name 1 w (numbered number t.classes)) e)

  clean_lines : (k c e i : ℕ) (lines : List FileLine) → breaks_from files w k c e i lines ≡ []
      → Every (IsClean w) (classes_from files.classes files.exports c e i lines)
  unfolding Every breaks_from classes_from
  clean_lines k c e i [] p = tt
  clean_lines k c e i (line ∷ lines) p =
      by line.class_file p
      (clean_lines (k + 1) (c + 1) e i lines)
      (clean_lines (k + 1) c (e + 1) (i + size (slice_get files.exports e)) lines)
    where
      by : (b : Bool)
          → (if b
          then class_file_breaks files (keys.Line k) line.name w c (slice_get files.classes c)
          ++ breaks_from files w (k + 1) (c + 1) e i lines
          else export_file_breaks files (keys.Line k) line.name w e i (slice_get files.exports e)
          ++ breaks_from files w (k + 1) c (e + 1) (i + size (slice_get files.exports e)) lines) ≡ []
          → (breaks_from files w (k + 1) (c + 1) e i lines ≡ []
          → Every (IsClean w) (classes_from files.classes files.exports (c + 1) e i lines))
          → (breaks_from files w (k + 1) c (e + 1) (i + size (slice_get files.exports e)) lines ≡ []
          → Every (IsClean w) (classes_from files.classes files.exports c (e + 1)
          (i + size (slice_get files.exports e)) lines))
          → Every (IsClean w) (if b
          then of_class_file c (slice_get files.classes c) ++ classes_from files.classes files.exports (c + 1) e i lines
          else of_export_file i (slice_get files.exports e) ++ classes_from files.classes files.exports c (e + 1)
          (i + size (slice_get files.exports e)) lines)
      by true q r s =
          let here = class_file_breaks files (keys.Line k) line.name w c (slice_get files.classes c) in
          let rest = breaks_from files w (k + 1) (c + 1) e i lines in
          every-append (IsClean w) (of_class_file c (slice_get files.classes c)) (classes_from files.classes
          files.exports (c + 1) e i lines)
          (clean_class_file (keys.Line k) line.name c (slice_get files.classes c) (none_left here rest q))
          (r (none_right here rest q))
      by false q r s =
          let here = export_file_breaks files (keys.Line k) line.name w e i (slice_get files.exports e) in
          let rest = breaks_from files w (k + 1) c (e + 1) (i + size (slice_get files.exports e)) lines in
          every-append (IsClean w) (of_export_file i (slice_get files.exports e)) (classes_from files.classes
          files.exports c (e + 1) (i + size (slice_get files.exports e)) lines)
          (clean_export_file (keys.Line k) line.name e i (slice_get files.exports e) (none_left here rest q))
          (s (none_right here rest q))

-- ---- its methods

module _ (file : FileKey) (name : List ℕ) (place : ℕ) (w : List Class) (c : Class) where
  abbrev rules : ℕ → Member → List ℕ
  rules i m = member_rules w c c.methods i m.name m.desc

  clean_members : (i : ℕ) (ms : List Member) (k : ℕ) (m : Member) → members_from file name place w c false i ms ≡ []
      → slice_get ms k ≡ Some m → rules (i + k) m ≡ []
  unfolding members_from
  clean_members i [] k m e is = cc
  clean_members i (x ∷ ms) zero m e is =
      let same : x ≡ m = cc in
      let at = λ (rule : ℕ). at_member file name place c.name (members_before false c + i + 1)
      (told false x.name x.desc) rule in
      let here : rules i x ≡ [] = nil_of_map at (rules i x) (none_left (map at (rules i x)) (members_from file name
      place w c false (i + 1) ms) e) in
      let stay : i + 0 ≡ i = omega arith in
      ap (λ j. rules j m) stay ∙ ap (rules i) (sym same) ∙ here
  clean_members i (x ∷ ms) (suc k) m e is =
      let at = λ (rule : ℕ). at_member file name place c.name (members_before false c + i + 1)
      (told false x.name x.desc) rule in
      let rest = clean_members (i + 1) ms k m (none_right (map at (rules i x)) (members_from file name place w c false
      (i + 1) ms) e) is in
      let next : i + suc k ≡ i + 1 + k = omega arith in
      ap (λ j. rules j m) next ∙ rest

module _ (list : List ℕ) (files : Files) (unbroken : breaks list files ≡ []) where
  abbrev w : List Class
  w = all_classes files

  all_clean : Every (IsClean w) w
  unfolding breaks all_classes
  all_clean = clean_lines files w 0 0 0 0 files.lines (none_right (map (λ rule. broken_at (list_spot list) rule)
      (when (not (has_language w files.exports)) 207)) (breaks_from files w 0 0 0 0 files.lines) unbroken)

  pub once : (x : List ℕ) (c : Class) → class_named w x ≡ Some c → (k : ℕ) (m : Member) → slice_get c.methods k ≡ Some m
      → is_twice c.methods k m.name m.desc ≡ false
  unfolding IsClean member_rules
  once x c e k m is =
      let (file, name, place, clean) = every-named (IsClean w) w x c all_clean e in
      let z : 0 + k ≡ k = omega arith in
      let here = subst (λ j. member_rules w c c.methods j m.name m.desc ≡ []) z (clean_members file name place w c 0
      c.methods k m clean is) in
      not_when (is_twice c.methods k m.name m.desc) 202 (none_left (when (is_twice c.methods k m.name m.desc) 202)
      (when (not c.is_imported && is_desc_missing w m.desc) 203) here)
