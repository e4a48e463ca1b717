-- Where no rule is broken no class stands above itself.
use Rattle.std.proofs.Common.{◌≡◌, ℕ, ◌+◌, refl, sym, ap, ◌∙◌, Bool, true, false, List, [], ◌∷◌, ◌++◌}
use Rattle.std.specs.Prelude.{map, not, ◌&&◌, ◌||◌, Option, Some, None, slice_get, if◌then◌else◌}
use Rattle.std.specs.Str.{bytes_eq}
use Rattle.cjc_bytes.specs.Breaks.{broken_at, list_spot}
use Rattle.cjc_bytes.specs.declared.order.FileKey.{FileKey}
use Rattle.cjc_bytes.specs.declared.order.FileKey.TheVariants as keys
use Rattle.cjc_bytes.specs.declared.settings.FileLine.{FileLine}
use Rattle.cjc_bytes.proofs.Lists.{none_left, none_right}
use Rattle.cjc_classfile.specs.declared.tree.ClassTree.{ClassTree}
use Rattle.cjc_export.specs.declared.tree.ExportTree.{ExportTree}
use Rattle.cjc_world.specs.Files.{Files}
use Rattle.cjc_world.specs.Classes.{Class, declared, numbered, size, of_class_file, of_export_file, classes_from}
use Rattle.cjc_world.specs.Classes.{all_classes, class_named}
use Rattle.cjc_world.specs.Supertypes.{IsAcyclic, stands_above}
use Rattle.cjc_world.specs.Rules.{gets_missing, when, at_class, class_rules, members_from, class_breaks, classes_breaks}
use Rattle.cjc_world.specs.Rules.{class_file_breaks, export_file_breaks, breaks_from, breaks, is_of_package, is_second}
use Rattle.cjc_world.specs.Rules.{lists_missing, is_own_super, lists_wrong, is_second_package, has_language}
use Rattle.cjc_world.proofs.Cycles.{class_named-name, above-class, stands_where_above}

pub nil_of_map : {A B : Type 0} (f : A → B) (xs : List A) → map f xs ≡ [] → xs ≡ []
nil_of_map f [] e = refl
nil_of_map f (x ∷ xs) e = cc

pub not_when : (b : Bool) (rule : ℕ) → when b rule ≡ [] → b ≡ false
not_when true rule e = cc
not_when false rule e = refl

-- none of these classes stands above itself
Clear : List Class → List Class → Type 0
Clear w [] = Unit {0}
Clear w (c ∷ cs) = (is_own_super w c ≡ false) × Clear w cs

clear_append : (w cs ds : List Class) → Clear w cs → Clear w ds → Clear w (cs ++ ds)
unfolding Clear
clear_append w [] ds p q = q
clear_append w (c ∷ cs) ds p q = (p.0, clear_append w cs ds p.1 q)

clear_named : (w cs : List Class) (x : List ℕ) (d : Class) → Clear w cs → class_named cs x ≡ Some d
    → is_own_super w d ≡ false
unfolding Clear class_named
clear_named w [] x d p e = cc
clear_named w (c ∷ cs) x d p e = by (bytes_eq c.name x) e (clear_named w cs x d p.1)
  where
    by : (b : Bool) → (if b then Some c else class_named cs x) ≡ Some d → (class_named cs x ≡ Some d
        → is_own_super w d ≡ false) → is_own_super w d ≡ false
    by true e rest = let is : c ≡ d = cc in ap (λ v. is_own_super w v) (sym is) ∙ p.0
    by false e rest = rest e

class_clear : (package_name : List ℕ) (file : FileKey) (file_name : List ℕ) (k : ℕ) (w : List Class) (c : Class)
    → class_breaks package_name file file_name k w c ≡ [] → is_own_super w c ≡ false
unfolding class_breaks class_rules
class_clear p file fn k w c e =
    let A = when (not c.is_imported && not (is_of_package p c.name)) 201 in
    let B = when (is_second w c) 202 in
    let D = when (not c.is_imported && (lists_missing w c || gets_missing w c)) 203 in
    let E = when (is_own_super w c) 204 in
    let G = when (lists_wrong w c) 208 in
    let F = members_from file fn k w c true 0 c.fields in
    let M = members_from file fn k w c false 0 c.methods in
    let at = λ (rule : ℕ). at_class file fn k c.name rule in
    let R = map at (A ++ B ++ D ++ E ++ G) in
    not_when (is_own_super w c) 204 (none_right (A ++ B ++ D) E (none_left (A ++ B ++ D ++ E) G (nil_of_map at (A ++ B
    ++ D ++ E ++ G) (none_left R F (none_left (R ++ F) M e)))))

classes_clear : (package_name : List ℕ) (file : FileKey) (file_name : List ℕ) (k : ℕ) (w cs : List Class)
    → classes_breaks package_name file file_name k w cs ≡ [] → Clear w cs
unfolding Clear classes_breaks
classes_clear p file fn k w [] e = tt
classes_clear p file fn k w (c ∷ cs) e =
    let here = class_breaks p file fn k w c in
    let rest = classes_breaks p file fn (k + 1) w cs in
    (class_clear p file fn k w c (none_left here rest e), classes_clear p file fn (k + 1) w cs (none_right here rest e))

class_file_clear : (files : Files) (file : FileKey) (file_name : List ℕ) (w : List Class) (number : ℕ)
    (o : Option ClassTree) → class_file_breaks files file file_name w number o ≡ [] → Clear w (of_class_file number o)
unfolding Clear
class_file_clear files file fn w number None e = tt
class_file_clear files file fn w number (Some c) e = (
  class_clear files.package_name file fn 1 w (declared number c) e,
  tt,
)

export_file_clear : (files : Files) (file : FileKey) (file_name : List ℕ) (w : List Class) (export_file number : ℕ)
    (o : Option ExportTree) → export_file_breaks files file file_name w export_file number o ≡ []
    → Clear w (of_export_file number o)
unfolding Clear
export_file_clear files file fn w n number None e = tt
export_file_clear files file fn w n number (Some t) e =
    classes_clear files.package_name file fn 1 w (numbered number t.classes)
    (none_right (map (λ rule. at_class file fn 0 [] rule) (when (is_second_package files n t) 202))
    (classes_breaks files.package_name file fn 1 w (numbered number t.classes)) e)

lines_clear : (files : Files) (w : List Class) (k c e i : ℕ) (lines : List FileLine) → breaks_from files w k c e i lines
    ≡ [] → Clear w (classes_from files.classes files.exports c e i lines)
unfolding Clear breaks_from classes_from
lines_clear files w k c e i [] p = tt
lines_clear files w k c e i (line ∷ lines) p =
    by line.class_file p
    (lines_clear files w (k + 1) (c + 1) e i lines)
    (lines_clear files w (k + 1) c (e + 1) (i + size (slice_get files.exports e)) lines)
  where
    by : (b : Bool)
        → (if b
        then class_file_breaks files (keys.Line k) line.name w c (slice_get files.classes c)
        ++ breaks_from files w (k + 1) (c + 1) e i lines
        else export_file_breaks files (keys.Line k) line.name w e i (slice_get files.exports e)
        ++ breaks_from files w (k + 1) c (e + 1) (i + size (slice_get files.exports e)) lines) ≡ []
        → (breaks_from files w (k + 1) (c + 1) e i lines ≡ []
        → Clear w (classes_from files.classes files.exports (c + 1) e i lines))
        → (breaks_from files w (k + 1) c (e + 1) (i + size (slice_get files.exports e)) lines ≡ []
        → Clear w (classes_from files.classes files.exports c (e + 1) (i + size (slice_get files.exports e)) lines))
        → Clear w (if b
        then of_class_file c (slice_get files.classes c) ++ classes_from files.classes files.exports (c + 1) e i lines
        else of_export_file i (slice_get files.exports e) ++ classes_from files.classes files.exports c (e + 1)
        (i + size (slice_get files.exports e)) lines)
    by true q r s =
        let here = class_file_breaks files (keys.Line k) line.name w c (slice_get files.classes c) in
        let rest = breaks_from files w (k + 1) (c + 1) e i lines in
        clear_append w (of_class_file c (slice_get files.classes c)) (classes_from files.classes files.exports (c + 1) e
        i lines)
        (class_file_clear files (keys.Line k) line.name w c (slice_get files.classes c) (none_left here rest q))
        (r (none_right here rest q))
    by false q r s =
        let here = export_file_breaks files (keys.Line k) line.name w e i (slice_get files.exports e) in
        let rest = breaks_from files w (k + 1) c (e + 1) (i + size (slice_get files.exports e)) lines in
        clear_append w (of_export_file i (slice_get files.exports e)) (classes_from files.classes files.exports c
        (e + 1) (i + size (slice_get files.exports e)) lines)
        (export_file_clear files (keys.Line k) line.name w e i (slice_get files.exports e) (none_left here rest q))
        (s (none_right here rest q))

pub unbroken_is_acyclic : (list : List ℕ) (files : Files) → breaks list files ≡ [] → IsAcyclic (all_classes files)
unfolding breaks all_classes
unbroken_is_acyclic list files e x far =
    let w = all_classes files in
    let c = above-class w x x far in
    let clear = lines_clear files w 0 0 0 0 files.lines (none_right (map (λ rule. broken_at (list_spot list) rule)
    (when (not (has_language w files.exports)) 207)) (breaks_from files w 0 0 0 0 files.lines) e) in
    let not_above = clear_named w w x c.0 clear c.1 in
    let is = class_named-name w x c.0 c.1 in
    let above : stands_above w c.0.name c.0.name ≡ true = ap (λ v. stands_above w v v) is
    ∙ (stands_where_above w x x).1 far in
    cc
