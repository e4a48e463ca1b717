-- Where no rule of a world is broken, none is at any class.
use Rattle.std.proofs.Common.{◌≡◌, ℕ, ◌+◌, refl, sym, ap, ◌∙◌, Bool, true, false, List, [], ◌∷◌, ◌++◌}
use Rattle.std.specs.Prelude.{map, not, ◌&&◌, ◌||◌, Option, Some, None, slice_get, if◌then◌else◌}
use Rattle.std.specs.List.{list_any}
use Rattle.std.specs.Str.{bytes_eq}
use Rattle.cjc_world.specs.Bytes.Breaks.{broken_at, list_spot}
use Rattle.cjc_world.specs.Bytes.declared.order.FileKey.{FileKey}
use Rattle.cjc_world.specs.Bytes.declared.order.FileKey.TheVariants as keys
use Rattle.cjc_world.specs.Bytes.declared.settings.FileLine.{FileLine}
use Rattle.cjc_world.specs.ClassFile.declared.tree.ClassTree.{ClassTree}
use Rattle.cjc_world.specs.ExportFile.declared.tree.ExportTree.{ExportTree}
use Rattle.cjc_world.specs.Files.{Files}
use Rattle.cjc_world.specs.Classes.{Class, declared, numbered, size, of_class_file, of_export_file, classes_from}
use Rattle.cjc_world.specs.Classes.{all_classes, class_named}
use Rattle.cjc_world.specs.Bytes.AccessFlags.{is_interface}
use Rattle.cjc_world.proofs.BytesLists.{none_left, none_right}
use Rattle.cjc_world.specs.Supertypes.{Lists, foremost, after}
use Rattle.cjc_world.specs.Lookup.{object}
use Rattle.cjc_world.specs.Rules.{when, at_class, class_rules, members_from, class_breaks, classes_breaks}
use Rattle.cjc_world.specs.Rules.{class_file_breaks, export_file_breaks, breaks_from, breaks, is_of_package, is_second}
use Rattle.cjc_world.specs.Rules.{lists_missing, gets_missing, is_own_super, lists_wrong, is_second_package}
use Rattle.cjc_world.specs.Rules.{has_language, is_interface_of, is_class_of, is_of_class_file}
use Rattle.cjc_world.proofs.Unbroken.{nil_of_map, not_when}
use Rattle.cjc_vtable.proofs.Filed.{Every, every-append, every-named}

-- the class breaks no rule itself
IsRuled : List ℕ → List Class → Class → Type 0
IsRuled package_name w c = class_rules package_name w c ≡ []

module _ (p : List ℕ) (w : List Class) where
  ruled-class : (file : FileKey) (file_name : List ℕ) (k : ℕ) (c : Class) → class_breaks p file file_name k w c ≡ []
      → class_rules p w c ≡ []
  unfolding class_breaks
  ruled-class file fn k c e =
      let at = λ (rule : ℕ). at_class file fn k c.name rule in
      let R = map at (class_rules p w c) in
      let F = members_from file fn k w c true 0 c.fields in
      let M = members_from file fn k w c false 0 c.methods in
      nil_of_map at (class_rules p w c) (none_left R F (none_left (R ++ F) M e))

  ruled-classes : (file : FileKey) (file_name : List ℕ) (k : ℕ) (cs : List Class)
      → classes_breaks p file file_name k w cs ≡ [] → Every (IsRuled p w) cs
  unfolding Every classes_breaks IsRuled
  ruled-classes file fn k [] e = tt
  ruled-classes file fn k (c ∷ cs) e =
      let here = class_breaks p file fn k w c in
      let rest = classes_breaks p file fn (k + 1) w cs in
      (ruled-class file fn k c (none_left here rest e), ruled-classes file fn (k + 1) cs (none_right here rest e))

module _ (files : Files) (w : List Class) where
  Ruled : Class → Type 0
  Ruled c = IsRuled files.package_name w c

  ruled-class_file : (file : FileKey) (file_name : List ℕ) (number : ℕ) (o : Option ClassTree)
      → class_file_breaks files file file_name w number o ≡ [] → Every Ruled (of_class_file number o)
  unfolding Every Ruled IsRuled
  ruled-class_file file fn number None e = tt
  ruled-class_file file fn number (Some c) e = (ruled-class files.package_name w file fn 1 (declared number c) e, tt)

  ruled-export_file : (file : FileKey) (file_name : List ℕ) (export_file number : ℕ) (o : Option ExportTree)
      → export_file_breaks files file file_name w export_file number o ≡ [] → Every Ruled (of_export_file number o)
  unfolding Every Ruled
  ruled-export_file file fn n number None e = tt
  ruled-export_file file fn n number (Some t) e =
      ruled-classes files.package_name w file fn 1 (numbered number t.classes)
      (none_right (map (λ rule. at_class file fn 0 [] rule) (when (is_second_package files n t) 202))
      (classes_breaks files.package_name file fn 1 w (numbered number t.classes)) e)

  ruled-lines : (k c e i : ℕ) (lines : List FileLine) → breaks_from files w k c e i lines ≡ []
      → Every Ruled (classes_from files.classes files.exports c e i lines)
  unfolding Every breaks_from classes_from
  ruled-lines k c e i [] p = tt
  ruled-lines k c e i (line ∷ lines) p =
      by line.class_file p
      (ruled-lines (k + 1) (c + 1) e i lines)
      (ruled-lines (k + 1) c (e + 1) (i + size (slice_get files.exports e)) lines)
    where
      by : (b : Bool)
          → (if b
          then class_file_breaks files (keys.Line k) line.name w c (slice_get files.classes c)
          ++ breaks_from files w (k + 1) (c + 1) e i lines
          else export_file_breaks files (keys.Line k) line.name w e i (slice_get files.exports e)
          ++ breaks_from files w (k + 1) c (e + 1) (i + size (slice_get files.exports e)) lines) ≡ []
          → (breaks_from files w (k + 1) (c + 1) e i lines ≡ []
          → Every Ruled (classes_from files.classes files.exports (c + 1) e i lines))
          → (breaks_from files w (k + 1) c (e + 1) (i + size (slice_get files.exports e)) lines ≡ []
          → Every Ruled (classes_from files.classes files.exports c (e + 1) (i + size (slice_get files.exports e))
          lines))
          → Every Ruled (if b
          then of_class_file c (slice_get files.classes c) ++ classes_from files.classes files.exports (c + 1) e i lines
          else of_export_file i (slice_get files.exports e) ++ classes_from files.classes files.exports c (e + 1)
          (i + size (slice_get files.exports e)) lines)
      by true q r s =
          let here = class_file_breaks files (keys.Line k) line.name w c (slice_get files.classes c) in
          let rest = breaks_from files w (k + 1) (c + 1) e i lines in
          every-append Ruled (of_class_file c (slice_get files.classes c)) (classes_from files.classes files.exports
          (c + 1) e i lines)
          (ruled-class_file (keys.Line k) line.name c (slice_get files.classes c) (none_left here rest q))
          (r (none_right here rest q))
      by false q r s =
          let here = export_file_breaks files (keys.Line k) line.name w e i (slice_get files.exports e) in
          let rest = breaks_from files w (k + 1) c (e + 1) (i + size (slice_get files.exports e)) lines in
          every-append Ruled (of_export_file i (slice_get files.exports e)) (classes_from files.classes files.exports c
          (e + 1) (i + size (slice_get files.exports e)) lines)
          (ruled-export_file (keys.Line k) line.name e i (slice_get files.exports e) (none_left here rest q))
          (s (none_right here rest q))

-- ---- what each class keeps

pub any-false : (p : List ℕ → Bool) (xs : List (List ℕ)) (y : List ℕ) → list_any p xs ≡ false → Lists y xs → p y ≡ false
any-false p [] y e l = elim l [ ]
any-false p (x ∷ xs) y e foremost = by (p y) e
  where
    by : (b : Bool) → (b || list_any p xs) ≡ false → b ≡ false
    by true e = cc
    by false e = refl
any-false p (x ∷ xs) y e (after l) = any-false p xs y (by (p x) e) l
  where
    by : (b : Bool) → (b || list_any p xs) ≡ false → list_any p xs ≡ false
    by true e = cc
    by false e = e

record Rules (p : List ℕ) (w : List Class) (c : Class) : Type 0 where
  pub own_package : (not c.is_imported && not (is_of_package p c.name)) ≡ false
  pub kinds : lists_wrong w c ≡ false

rules-kept : (p : List ℕ) (w : List Class) (c : Class) → class_rules p w c ≡ [] → Rules p w c
unfolding class_rules
rules-kept p w c e =
    let A = when (not c.is_imported && not (is_of_package p c.name)) 201 in
    let B = when (is_second w c) 202 in
    let D = when (not c.is_imported && (lists_missing w c || gets_missing w c)) 203 in
    let E = when (is_own_super w c) 204 in
    let G = when (lists_wrong w c) 208 in
    record {
      own_package = not_when (not c.is_imported && not (is_of_package p c.name)) 201 (none_left A B (none_left (A
          ++ B) D (none_left (A ++ B ++ D) E (none_left (A ++ B ++ D ++ E) G e))));
      kinds = not_when (lists_wrong w c) 208 (none_right (A ++ B ++ D ++ E) G e);
    }

module _ (list : List ℕ) (files : Files) (unbroken : breaks list files ≡ []) where
  all-ruled : Every (Ruled files (all_classes files)) (all_classes files)
  unfolding breaks all_classes
  all-ruled =
      let w = all_classes files in
      ruled-lines files w 0 0 0 0 files.lines (none_right (map (λ rule. broken_at (list_spot list) rule)
      (when (not (has_language w files.exports)) 207)) (breaks_from files w 0 0 0 0 files.lines) unbroken)

  rules-of : (x : List ℕ) (c : Class) → class_named (all_classes files) x ≡ Some c
      → Rules files.package_name (all_classes files) c
  unfolding Ruled IsRuled
  rules-of x c e = rules-kept files.package_name (all_classes files) c (every-named (Ruled files (all_classes files))
      (all_classes files) x c all-ruled e)

  -- 201
  pub of-package : (x : List ℕ) (c : Class) → class_named (all_classes files) x ≡ Some c → c.is_imported ≡ false
      → is_of_package files.package_name c.name ≡ true
  of-package x c e im = by c.is_imported (is_of_package files.package_name c.name) im (rules-of x c e).own_package
    where
      by : (i b : Bool) → i ≡ false → (not i && not b) ≡ false → b ≡ true
      by false true f g = refl
      by false false f g = cc
      by true b f g = cc

  -- 208
  pub lists-interfaces : (x y : List ℕ) (c d : Class) → class_named (all_classes files) x ≡ Some c
      → Lists y c.interfaces → class_named (all_classes files) y ≡ Some d → is_interface d.flags ≡ true
  unfolding lists_wrong
  lists-interfaces x y c d e l f =
      let w = all_classes files in
      let off = second (list_any (λ z. is_interface_of (class_named w z)) c.supers)
      (list_any (λ z. is_class_of (class_named w z)) c.interfaces) (is_interface c.flags
      && list_any (λ z. not (bytes_eq z object)) c.supers) (c.is_imported
      && (list_any (λ z. is_of_class_file (class_named w z)) c.supers
      || list_any (λ z. is_of_class_file (class_named w z)) c.interfaces)) (rules-of x c e).kinds in
      by (is_interface d.flags) (ap is_class_of (sym f) ∙ any-false (λ z. is_class_of (class_named w z)) c.interfaces y
      off l)
    where
      second : (p q r s : Bool) → (p || q || r || s) ≡ false → q ≡ false
      second p false r s e = refl
      second true true r s e = cc
      second false true r s e = cc

      by : (b : Bool) → not b ≡ false → b ≡ true
      by true e = refl
      by false e = cc

  pub lists-classes : (x y : List ℕ) (c d : Class) → class_named (all_classes files) x ≡ Some c → Lists y c.supers
      → class_named (all_classes files) y ≡ Some d → is_interface d.flags ≡ false
  unfolding lists_wrong
  lists-classes x y c d e l f =
      let w = all_classes files in
      let off = front (list_any (λ z. is_interface_of (class_named w z)) c.supers)
      (list_any (λ z. is_class_of (class_named w z)) c.interfaces) (is_interface c.flags
      && list_any (λ z. not (bytes_eq z object)) c.supers) (c.is_imported
      && (list_any (λ z. is_of_class_file (class_named w z)) c.supers
      || list_any (λ z. is_of_class_file (class_named w z)) c.interfaces)) (rules-of x c e).kinds in
      ap is_interface_of (sym f) ∙ any-false (λ z. is_interface_of (class_named w z)) c.supers y off l
    where
      front : (p q r s : Bool) → (p || q || r || s) ≡ false → p ≡ false
      front false q r s e = refl
      front true q r s e = cc

  pub lists-imported : (x y : List ℕ) (c d : Class) → class_named (all_classes files) x ≡ Some c → c.is_imported ≡ true
      → Lists y c.supers → class_named (all_classes files) y ≡ Some d → d.is_imported ≡ true
  unfolding lists_wrong
  lists-imported x y c d e im l f =
      let w = all_classes files in
      let off = fourth (list_any (λ z. is_interface_of (class_named w z)) c.supers
      || list_any (λ z. is_class_of (class_named w z)) c.interfaces || (is_interface c.flags
      && list_any (λ z. not (bytes_eq z object)) c.supers)) c.is_imported
      (list_any (λ z. is_of_class_file (class_named w z)) c.supers)
      (list_any (λ z. is_of_class_file (class_named w z)) c.interfaces) im (rules-of x c e).kinds in
      by d.is_imported (ap is_of_class_file (sym f) ∙ any-false (λ z. is_of_class_file (class_named w z)) c.supers y off
      l)
    where
      fourth : (p i q r : Bool) → i ≡ true → (p || (i && (q || r))) ≡ false → q ≡ false
      fourth p i false r h e = refl
      fourth true i true r h e = cc
      fourth false true true r h e = cc
      fourth false false true r h e = cc

      by : (b : Bool) → not b ≡ false → b ≡ true
      by true e = refl
      by false e = cc
