-- What a package keeps that breaks none of 201 to 208 and 301 to 307, class by class.
use Rattle.std.proofs.Common.{◌≡◌, ℕ, ◌+◌, refl, sym, ap, ◌∙◌, Bool, true, false, List, [], ◌∷◌, ◌++◌}
use Rattle.std.proofs.Common.{⊎_elim}
use Rattle.std.specs.Prelude.{map, not, ◌&&◌, ◌||◌, Option, Some, None, is_some, slice_get, if◌then◌else◌}
use Rattle.std.specs.List.{list_any}
use Rattle.std.specs.Str.{bytes_eq}
use Rattle.std.proofs.lemmas.Bool.{or_parts}
use Rattle.cjc_bytes.specs.AccessFlags.{is_interface}
use Rattle.cjc_bytes.specs.Breaks.{Break, at, broken_at, each_from, list_spot}
use Rattle.cjc_bytes.specs.Order.{FilePlace, file_of}
use Rattle.cjc_bytes.specs.declared.order.FileKey.{FileKey}
use Rattle.cjc_bytes.specs.declared.order.FileKey.TheVariants as keys
use Rattle.cjc_bytes.specs.declared.settings.FileLine.{FileLine}
use Rattle.cjc_bytes.specs.declared.settings.Settings.{Settings}
use Rattle.cjc_bytes.proofs.Lists.{bytes_true, none_left, none_left as nil_front, none_right, none_right as nil_back}
use Rattle.cjc_bytes.proofs.BrokenRules.{not_broken, each_at}
use Rattle.cjc_bytes.proofs.Bools.{bool_four, both_true}
use Rattle.cjc_world.specs.ClassFile.declared.tree.ClassTree.{ClassTree}
use Rattle.cjc_world.specs.ClassFile.declared.tree.FieldTree.{FieldTree}
use Rattle.cjc_world.specs.ClassFile.declared.tree.MethodTree.{MethodTree}
use Rattle.cjc_clinit.specs.Bytecode.declared.method_code.MethodCode.{MethodCode}
use Rattle.cjc_world.specs.ExportFile.declared.tree.ExportTree.{ExportTree}
use Rattle.cjc_clinit.specs.Subset.Checks.{check_breaks, class_breaks, code_breaks, field_breaks, list_breaks}
use Rattle.cjc_clinit.specs.Subset.Checks.{method_breaks}
use Rattle.cjc_clinit.specs.Subset.Checks.{own_breaks}
use Rattle.cjc_clinit.specs.Subset.Flags.{is_unfit_field, is_unfit_method}
use Rattle.cjc_clinit.specs.Subset.Limits.{has_deep_stack, has_many_locals}
use Rattle.cjc_clinit.specs.Subset.Overriding.{supertype_breaks, lacks_code, overriding_breaks}
use Rattle.cjc_clinit.specs.Subset.Places.{at_class, at_field, at_method}
use Rattle.cjc_clinit.specs.Subset.Types.{is_unsupported_desc, is_int_desc}
use Rattle.cjc_vtable.proofs.Filed.{Every, every-append, every-named}
use Rattle.cjc_vtable.proofs.Ruled.{any-false}
use Rattle.cjc_world.specs.Classes.{Class, all_classes, class_named, classes_from, declared, imported, numbered}
use Rattle.cjc_world.specs.Classes.{of_class_file, of_export_file, size}
use Rattle.cjc_world.specs.Files.{Files}
use Rattle.cjc_world.specs.Supertypes.{Lists}
use Rattle.cjc_world.specs.Lookup.{object}
use Rattle.cjc_world.specs.Rules.{breaks, breaks_from, class_file_breaks, class_rules, classes_breaks}
use Rattle.cjc_world.specs.Rules.{export_file_breaks, gets_missing, has_language, is_class_of, is_interface_of}
use Rattle.cjc_world.specs.Rules.{is_of_class_file, is_of_package, is_own_super, is_second, is_second_package}
use Rattle.cjc_world.specs.Rules.{lists_missing, lists_wrong, members_from, when}
use Rattle.cjc_world.specs.Rules as world
use Rattle.cjc_world.proofs.Trees.{lists-split}
use Rattle.cjc_world.proofs.Unbroken.{nil_of_map, not_when}

-- ---- 201 to 208 of each class of the world

IsRuled : List ℕ → List Class → Class → Type 0
IsRuled p w c = class_rules p w c ≡ []

module _ (p : List ℕ) (w : List Class) where
  ruled_class : (file : FileKey) (file_name : List ℕ) (k : ℕ) (c : Class) → world.class_breaks p file file_name k w c
      ≡ [] → class_rules p w c ≡ []
  unfolding world.class_breaks
  ruled_class file fn k c e =
      let R = map (λ rule. world.at_class file fn k c.name rule) (class_rules p w c) in
      let F = members_from file fn k w c true 0 c.fields in
      let M = members_from file fn k w c false 0 c.methods in
      nil_of_map (λ rule. world.at_class file fn k c.name rule) (class_rules p w c) (nil_front R F (nil_front (R
      ++ F) M e))

  ruled_classes : (file : FileKey) (file_name : List ℕ) (k : ℕ) (cs : List Class)
      → classes_breaks p file file_name k w cs ≡ [] → Every (IsRuled p w) cs
  unfolding Every classes_breaks IsRuled
  ruled_classes file fn k [] e = tt
  ruled_classes file fn k (c ∷ cs) e =
      let here = world.class_breaks p file fn k w c in
      let rest = classes_breaks p file fn (k + 1) w cs in
      (ruled_class file fn k c (nil_front here rest e), ruled_classes file fn (k + 1) cs (nil_back here rest e))

module _ (files : Files) (w : List Class) where
  Ruled : Class → Type 0
  Ruled c = IsRuled files.package_name w c

  ruled_class_file : (file : FileKey) (file_name : List ℕ) (number : ℕ) (o : Option ClassTree)
      → class_file_breaks files file file_name w number o ≡ [] → Every Ruled (of_class_file number o)
  unfolding Every Ruled IsRuled
  ruled_class_file file fn number None e = tt
  ruled_class_file file fn number (Some c) e = (ruled_class files.package_name w file fn 1 (declared number c) e, tt)

  ruled_export_file : (file : FileKey) (file_name : List ℕ) (export_file number : ℕ) (o : Option ExportTree)
      → export_file_breaks files file file_name w export_file number o ≡ [] → Every Ruled (of_export_file number o)
  unfolding Every Ruled
  ruled_export_file file fn n number None e = tt
  ruled_export_file file fn n number (Some t) e =
      ruled_classes files.package_name w file fn 1 (numbered number t.classes)
      (nil_back (map (λ rule. world.at_class file fn 0 [] rule) (when (is_second_package files n t) 202))
      (classes_breaks files.package_name file fn 1 w (numbered number t.classes)) e)

  ruled_lines : (k c e i : ℕ) (lines : List FileLine) → breaks_from files w k c e i lines ≡ []
      → Every Ruled (classes_from files.classes files.exports c e i lines)
  unfolding Every breaks_from classes_from
  ruled_lines k c e i [] p = tt
  ruled_lines k c e i (line ∷ lines) p =
      by line.class_file p
      (ruled_lines (k + 1) (c + 1) e i lines)
      (ruled_lines (k + 1) c (e + 1) (i + size (slice_get files.exports e)) lines)
    where
      by : (b : Bool)
          → (if b
          then class_file_breaks files (keys.Line k) line.name w c (slice_get files.classes c)
          ++ breaks_from files w (k + 1) (c + 1) e i lines
          else export_file_breaks files (keys.Line k) line.name w e i (slice_get files.exports e)
          ++ breaks_from files w (k + 1) c (e + 1) (i + size (slice_get files.exports e)) lines) ≡ []
          → (breaks_from files w (k + 1) (c + 1) e i lines ≡ []
          → Every Ruled (classes_from files.classes files.exports (c + 1) e i lines))
          → (breaks_from files w (k + 1) c (e + 1) (i + size (slice_get files.exports e)) lines ≡ []
          → Every Ruled (classes_from files.classes files.exports c (e + 1) (i + size (slice_get files.exports e))
          lines))
          → Every Ruled (if b
          then of_class_file c (slice_get files.classes c) ++ classes_from files.classes files.exports (c + 1) e i lines
          else of_export_file i (slice_get files.exports e) ++ classes_from files.classes files.exports c (e + 1)
          (i + size (slice_get files.exports e)) lines)
      by true q r s =
          let here = class_file_breaks files (keys.Line k) line.name w c (slice_get files.classes c) in
          let rest = breaks_from files w (k + 1) (c + 1) e i lines in
          every-append Ruled (of_class_file c (slice_get files.classes c)) (classes_from files.classes files.exports
          (c + 1) e i lines)
          (ruled_class_file (keys.Line k) line.name c (slice_get files.classes c) (nil_front here rest q))
          (r (nil_back here rest q))
      by false q r s =
          let here = export_file_breaks files (keys.Line k) line.name w e i (slice_get files.exports e) in
          let rest = breaks_from files w (k + 1) c (e + 1) (i + size (slice_get files.exports e)) lines in
          every-append Ruled (of_export_file i (slice_get files.exports e)) (classes_from files.classes files.exports c
          (e + 1) (i + size (slice_get files.exports e)) lines)
          (ruled_export_file (keys.Line k) line.name e i (slice_get files.exports e) (nil_front here rest q))
          (s (nil_back here rest q))

-- 203 and 208 of a class
pub record Keeps (w : List Class) (c : Class) : Type 0 where
  pub there : c.is_imported ≡ false → lists_missing w c ≡ false
  pub supers : list_any (λ x. is_interface_of (class_named w x)) c.supers ≡ false
  pub interfaces : list_any (λ x. is_class_of (class_named w x)) c.interfaces ≡ false
  pub only_object : is_interface c.flags ≡ true → list_any (λ x. not (bytes_eq x object)) c.supers ≡ false
  pub abroad : c.is_imported ≡ true → (list_any (λ x. is_of_class_file (class_named w x)) c.supers ≡ false)
      × (list_any (λ x. is_of_class_file (class_named w x)) c.interfaces ≡ false)

keeps_by : (p : List ℕ) (w : List Class) (c : Class) → class_rules p w c ≡ [] → Keeps w c
unfolding class_rules lists_wrong
keeps_by p w c e =
    let A = when (not c.is_imported && not (is_of_package p c.name)) 201 in
    let B = when (is_second w c) 202 in
    let D = when (not c.is_imported && (lists_missing w c || gets_missing w c)) 203 in
    let E = when (is_own_super w c) 204 in
    let G = when (lists_wrong w c) 208 in
    let missing = not_when (not c.is_imported && (lists_missing w c || gets_missing w c)) 203 (nil_back (A
    ++ B) D (nil_front (A ++ B ++ D) E (nil_front (A ++ B ++ D ++ E) G e))) in
    let wrong = not_when (lists_wrong w c) 208 (nil_back (A ++ B ++ D ++ E) G e) in
    let h = bool_four (list_any (λ x. is_interface_of (class_named w x)) c.supers)
    (list_any (λ x. is_class_of (class_named w x)) c.interfaces) (is_interface c.flags
    && list_any (λ x. not (bytes_eq x object)) c.supers)
    (c.is_imported && (list_any (λ x. is_of_class_file (class_named w x)) c.supers
    || list_any (λ x. is_of_class_file (class_named w x)) c.interfaces)) wrong in
    record {
      there = λ own. (or_parts (lists_missing w c) (gets_missing w c) (both_true (not c.is_imported) (lists_missing w c
          || gets_missing w c) (ap not own) missing)).0;
      supers = h.0;
      interfaces = h.1;
      only_object = λ is. both_true (is_interface c.flags) (list_any (λ x. not (bytes_eq x object)) c.supers) is h.2;
      abroad = λ imp. or_parts (list_any (λ x. is_of_class_file (class_named w x)) c.supers)
          (list_any (λ x. is_of_class_file (class_named w x)) c.interfaces) (both_true c.is_imported
          (list_any (λ x. is_of_class_file (class_named w x)) c.supers
          || list_any (λ x. is_of_class_file (class_named w x)) c.interfaces) imp h.3);
    }

module _ (list : List ℕ) (files : Files) (unbroken : breaks list files ≡ []) where
  abbrev w : List Class
  w = all_classes files

  all_ruled : Every (Ruled files (all_classes files)) (all_classes files)
  unfolding breaks all_classes
  all_ruled =
      let w = all_classes files in
      ruled_lines files w 0 0 0 0 files.lines (nil_back (map (λ rule. broken_at (list_spot list) rule)
      (when (not (has_language w files.exports)) 207)) (breaks_from files w 0 0 0 0 files.lines) unbroken)

  pub keeps : (x : List ℕ) (c : Class) → class_named (all_classes files) x ≡ Some c → Keeps (all_classes files) c
  unfolding Ruled IsRuled
  keeps x c e = keeps_by files.package_name (all_classes files) c (every-named (Ruled files (all_classes files))
      (all_classes files) x c all_ruled e)

  pub super_class : (x s : List ℕ) (c d : Class) → class_named w x ≡ Some c → Lists s c.supers
      → class_named w s ≡ Some d → is_interface d.flags ≡ false
  super_class x s c d e l f = let k = keeps x c e in ap is_interface_of (sym f)
      ∙ any-false (λ z. is_interface_of (class_named w z)) c.supers s k.supers l

  pub listed_interface : (x i : List ℕ) (c d : Class) → class_named w x ≡ Some c → Lists i c.interfaces
      → class_named w i ≡ Some d → is_interface d.flags ≡ true
  listed_interface x i c d e l f = let k = keeps x c e in by (is_interface d.flags) (ap is_class_of (sym f)
      ∙ any-false (λ z. is_class_of (class_named w z)) c.interfaces i k.interfaces l)
    where
      by : (b : Bool) → not b ≡ false → b ≡ true
      by true e = refl
      by false e = absurd cc

  pub only_object : (x s : List ℕ) (c : Class) → class_named w x ≡ Some c → is_interface c.flags ≡ true
      → Lists s c.supers → s ≡ object
  only_object x s c e is l = let k = keeps x c e
      in by (bytes_eq s object) refl (any-false (λ z. not (bytes_eq z object)) c.supers s (k.only_object is) l)
    where
      by : (b : Bool) → bytes_eq s object ≡ b → not b ≡ false → s ≡ object
      by true f e = bytes_true s object f
      by false f e = absurd cc

  pub listed_abroad : (x y : List ℕ) (c d : Class) → class_named w x ≡ Some c → c.is_imported ≡ true
      → Lists y (c.supers ++ c.interfaces) → class_named w y ≡ Some d → d.is_imported ≡ true
  listed_abroad x y c d e imp l f =
      let k = keeps x c e in
      let both = k.abroad imp in
      by d.is_imported (ap is_of_class_file (sym f) ∙ ⊎_elim
      (λ s. any-false (λ z. is_of_class_file (class_named w z)) c.supers y both.0 s)
      (λ i. any-false (λ z. is_of_class_file (class_named w z)) c.interfaces y both.1 i)
      (lists-split y c.supers c.interfaces l))
    where
      by : (b : Bool) → not b ≡ false → b ≡ true
      by true e = refl
      by false e = absurd cc

-- ---- 301 to 307 of the classes of the package

module _ (list : List ℕ) (files : Files) (codes : List MethodCode) (settings : Settings) (unbroken : check_breaks list
    files codes settings ≡ []) (n : ℕ) (t : ClassTree)
    (is_class : slice_get files.classes n ≡ Some t) where
  abbrev f : FilePlace
  f = file_of files.lines n

  class_clean : class_breaks files settings f n t ≡ []
  unfolding check_breaks
  class_clean =
      let by_classes = each_from (λ n c. class_breaks files settings (file_of files.lines n) n c) 0 files.classes in
      let by_codes = each_from (λ _ c. code_breaks files settings c) 0 codes in
      let lists = list_breaks list files settings in
      each_at (λ n c. class_breaks files settings (file_of files.lines n) n c) n files.classes t
      (none_right lists by_classes (none_left (lists ++ by_classes) by_codes unbroken)) is_class

  abbrev own : List Break
  own = own_breaks files settings f n t

  abbrev by_fields : List Break
  by_fields = each_from (λ i m. field_breaks settings f t i m) 0 t.fields

  abbrev by_methods : List Break
  by_methods = each_from (λ i m. method_breaks settings f t i m) 0 t.methods

  abbrev by_supertypes : List Break
  by_supertypes = overriding_breaks files f t

  -- 301, 302 and 304 of a field
  pub field_kept : (k : ℕ) (m : FieldTree) → slice_get t.fields k ≡ Some m → (is_unsupported_desc m.desc ≡ false)
      × ((not settings.ints && is_int_desc m.desc) ≡ false)
      × (is_unfit_field (is_interface t.flags) m.flags ≡ false)
  unfolding class_breaks field_breaks
  field_kept k m e =
      let here = each_at (λ i m. field_breaks settings f t i m) k t.fields m (none_right own by_fields (none_left (own
      ++ by_fields) by_methods (none_left (own ++ by_fields ++ by_methods) by_supertypes class_clean))) e in
      let A = at (is_unsupported_desc m.desc) (at_field f t k m) 301 in
      let B = at (not settings.ints && is_int_desc m.desc) (at_field f t k m) 302 in
      let C = at (is_unfit_field (is_interface t.flags) m.flags) (at_field f t k m) 304 in (
        not_broken (is_unsupported_desc m.desc) (at_field f t k m) 301 (none_left A B (none_left (A ++ B) C here)),
        not_broken (not settings.ints && is_int_desc m.desc) (at_field f t k m) 302 (none_right A B (none_left (A
            ++ B) C here)),
        not_broken (is_unfit_field (is_interface t.flags) m.flags) (at_field f t k m) 304 (none_right (A ++ B) C here),
      )

  -- 301, 302 and 304 of a method
  pub method_kept : (k : ℕ) (m : MethodTree) → slice_get t.methods k ≡ Some m → (is_unsupported_desc m.desc ≡ false)
      × ((not settings.ints && is_int_desc m.desc) ≡ false)
      × (is_unfit_method (is_interface t.flags) m.flags m.name (is_some m.code) ≡ false)
  unfolding class_breaks method_breaks
  method_kept k m e =
      let here = each_at (λ i m. method_breaks settings f t i m) k t.methods m (none_right (own ++ by_fields) by_methods
      (none_left (own ++ by_fields ++ by_methods) by_supertypes class_clean)) e in
      let s = at_method f t k m 0 in
      let A = at (is_unsupported_desc m.desc) s 301 in
      let B = at (not settings.ints && is_int_desc m.desc) s 302 in
      let C = at (is_unfit_method (is_interface t.flags) m.flags m.name (is_some m.code)) s 304 in
      let D = at (has_many_locals m.code) s 404 in
      let E = at (has_deep_stack m.code) s 405 in
      let three = none_left (A ++ B ++ C) D (none_left (A ++ B ++ C ++ D) E here) in (
        not_broken (is_unsupported_desc m.desc) s 301 (none_left A B (none_left (A ++ B) C three)),
        not_broken (not settings.ints && is_int_desc m.desc) s 302 (none_right A B (none_left (A ++ B) C three)),
        not_broken (is_unfit_method (is_interface t.flags) m.flags m.name (is_some m.code)) s 304 (none_right (A
            ++ B) C three),
      )

  -- 307 of the class itself
  pub own_coded : lacks_code (all_classes files) t (declared 0 t) ≡ false
  unfolding class_breaks overriding_breaks
  own_coded =
      let w = all_classes files in
      let A = at (lacks_code w t (declared 0 t)) (at_class f t) 307 in
      let B = each_from (λ _ d. supertype_breaks w f t (declared 0 d)) 0 files.classes in
      let C = each_from (λ _ s. each_from (λ _ d. supertype_breaks w f t (imported 0 d)) 0 s.classes) 0 files.exports in
      not_broken (lacks_code w t (declared 0 t)) (at_class f t) 307 (none_left A B (none_left (A
      ++ B) C (none_right (own ++ by_fields ++ by_methods) by_supertypes class_clean)))
