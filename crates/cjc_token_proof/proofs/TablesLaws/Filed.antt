-- Which classes are in a world: those of the package's class files, and those of its export files.
use Rattle.std.proofs.Common.{◌≡◌, ℕ, zero, suc, ◌+◌, ◌≤◌, refl, sym, ap, subst, ◌∙◌, arith, Bool, true, false}
use Rattle.std.proofs.Common.{List, [], ◌∷◌, ◌++◌, length, drop}
use Rattle.std.specs.Prelude.{not, filter, cond, Option, Some, None, slice_get, if◌then◌else◌}
use Rattle.std.proofs.lemmas.List.Elements.{filter-append}
use Rattle.std.proofs.lemmas.List.Sums.{sum_by-cons}
use Rattle.cjc_bytes.specs.declared.settings.FileLine.{FileLine}
use Rattle.cjc_bytes.proofs.Gets.{drop_past, get_past, drop_at}
use Rattle.cjc_world.specs.ClassFile.declared.tree.ClassTree.{ClassTree}
use Rattle.cjc_world.specs.ExportFile.declared.tree.ExportClass.{ExportClass}
use Rattle.cjc_world.specs.ExportFile.declared.tree.ExportTree.{ExportTree}
use Rattle.cjc_world_proof.specs.Subset.Members.{imports}
use Rattle.cjc_world_proof.specs.ClassOrder.Classes.Numbers.{numbered_from, class_count}
use Rattle.cjc_vtable.proofs.Filed.{Has, at_front, behind}
use Rattle.cjc_world.specs.Files.{Files}
use Rattle.cjc_world.specs.Classes.{Class, declared, imported, numbered, size, of_class_file, of_export_file}
use Rattle.cjc_world.specs.Classes.{classes_from, all_classes}
use Rattle.cjc_token_proof.specs.Tables.Sound.{export_count}
use Rattle.cjc_vtable.proofs.ClassOrderStanding.{class_count-cons}

-- ---- lists

pub has-front : {A : Type 0} (x : A) (xs ys : List A) → Has x xs → Has x (xs ++ ys)
has-front x [] ys h = elim h [ ]
has-front x (y ∷ xs) ys at_front = at_front
has-front x (y ∷ xs) ys (behind h) = behind (has-front x xs ys h)

pub has-back : {A : Type 0} (x : A) (xs ys : List A) → Has x ys → Has x (xs ++ ys)
has-back x [] ys h = h
has-back x (y ∷ xs) ys h = behind (has-back x xs ys h)

has-other : {A : Type 0} (x y : A) (xs ys : List A) → (Has x xs → Has x ys) → Has x (y ∷ xs) → Has x (y ∷ ys)
has-other x y xs ys f at_front = at_front
has-other x y xs ys f (behind h) = behind (f h)

has-filtered : {A : Type 0} (p : A → Bool) (x : A) (xs : List A) → Has x (filter p xs) → Has x xs
has-filtered p x [] h = elim h [ ]
has-filtered p x (y ∷ xs) h = by (p y) h (has-filtered p x xs)
  where
    by : (b : Bool) → Has x (cond b (y ∷ filter p xs) (filter p xs)) → (Has x (filter p xs) → Has x xs) → Has x (y ∷ xs)
    by true g rest = has-other x y (filter p xs) xs rest g
    by false g rest = behind (rest g)

has-kept : {A : Type 0} (p : A → Bool) (x : A) (xs : List A) → Has x xs → p x ≡ true → Has x (filter p xs)
has-kept p x [] h e = elim h [ ]
has-kept p x (y ∷ xs) at_front e = subst (λ b. Has x (cond b (x ∷ filter p xs) (filter p xs))) (sym e) at_front
has-kept p x (y ∷ xs) (behind h) e = by (p y) (has-kept p x xs h e)
  where
    by : (b : Bool) → Has x (filter p xs) → Has x (cond b (y ∷ filter p xs) (filter p xs))
    by true r = behind r
    by false r = r

-- ---- the classes of the package among all, and those of export files

abbrev is_own : Class → Bool
is_own c = not c.is_imported

abbrev is_import : Class → Bool
is_import c = c.is_imported

pub export_count-cons : (line : FileLine) (lines : List FileLine) → export_count (line ∷ lines) ≡ cond
    (not line.class_file)
    1 0 + export_count lines
export_count-cons line lines = sum_by-cons (λ (l : FileLine). cond (not l.class_file) 1 0) line lines

no-own : (n : ℕ) (cs : List ExportClass) → filter is_own (numbered n cs) ≡ []
no-own n [] = refl
no-own n (c ∷ cs) = no-own (n + 1) cs

no-own-file : (n : ℕ) (o : Option ExportTree) → filter is_own (of_export_file n o) ≡ []
no-own-file n None = refl
no-own-file n (Some t) = no-own n t.classes

all-import : (n : ℕ) (cs : List ExportClass) → filter is_import (numbered n cs) ≡ numbered n cs
all-import n [] = refl
all-import n (c ∷ cs) = ap (λ ds. imported n c ∷ ds) (all-import (n + 1) cs)

no-import : (c : ℕ) (o : Option ClassTree) → filter is_import (of_class_file c o) ≡ []
no-import c None = refl
no-import c (Some t) = refl

numbered-append : (n : ℕ) (cs ds : List ExportClass) → numbered n (cs ++ ds) ≡ numbered n cs
    ++ numbered (n + length cs) ds
numbered-append n [] ds = let z : n ≡ n + 0 = omega arith in ap (λ k. numbered k ds) z
numbered-append n (c ∷ cs) ds = let s : n + 1 + length cs ≡ n + suc (length cs) = omega arith
    in ap (λ es. imported n c ∷ es) (numbered-append (n + 1) cs ds ∙ ap (λ k. numbered (n + 1) cs ++ numbered k ds) s)

module _ (trees : List ClassTree) (exports : List ExportTree) where
  own-lines : (c e i : ℕ) (lines : List FileLine) → length trees ≤ c + class_count lines
      → filter is_own (classes_from trees exports c e i lines) ≡ numbered_from c (drop c trees)
  unfolding classes_from
  own-lines c e i [] le = ap (numbered_from c) (sym (drop_past trees c (omega (arith, le))))
  own-lines c e i (line ∷ lines) le =
      by line.class_file (subst (λ q. length trees ≤ c + q) (class_count-cons line lines) le) (own-lines (c + 1) e i
      lines) (own-lines c (e + 1) (i + size (slice_get exports e)) lines)
    where
      at : (o : Option ClassTree) → slice_get trees c ≡ o → filter is_own (classes_from trees exports (c + 1) e i lines)
          ≡ numbered_from (c + 1) (drop (c + 1) trees)
          → filter is_own (of_class_file c o ++ classes_from trees exports (c + 1) e i lines)
          ≡ numbered_from c (drop c trees)
      at None f rest = let p = get_past trees c f in rest ∙ ap (numbered_from (c + 1)) p.1 ∙ ap (numbered_from c)
          (sym p.0)
      at (Some t) f rest = ap (λ q. declared c t ∷ q) rest ∙ ap (numbered_from c) (sym (drop_at trees c t f))

      by : (b : Bool) → length trees ≤ c + (cond b 1 0 + class_count lines)
          → (length trees ≤ c + 1 + class_count lines → filter is_own (classes_from trees exports (c + 1) e i lines)
          ≡ numbered_from (c + 1) (drop (c + 1) trees))
          → (length trees ≤ c + class_count lines
          → filter is_own (classes_from trees exports c (e + 1) (i + size (slice_get exports e)) lines)
          ≡ numbered_from c (drop c trees))
          → filter is_own (if b then of_class_file c (slice_get trees c) ++ classes_from trees exports (c + 1) e i lines
          else of_export_file i (slice_get exports e) ++ classes_from trees exports c (e + 1)
          (i + size (slice_get exports e)) lines)
          ≡ numbered_from c (drop c trees)
      by true h p q = at (slice_get trees c) refl (p (omega (arith, h)))
      by false h p q =
          filter-append is_own (of_export_file i (slice_get exports e)) (classes_from trees exports c (e + 1)
          (i + size (slice_get exports e)) lines)
          ∙ ap (λ r. r ++ filter is_own (classes_from trees exports c (e + 1) (i + size (slice_get exports e)) lines))
          (no-own-file i (slice_get exports e))
          ∙ q (omega (arith, h))

  import-lines : (c e i : ℕ) (lines : List FileLine) → length exports ≤ e + export_count lines
      → filter is_import (classes_from trees exports c e i lines) ≡ numbered i (imports (drop e exports))
  unfolding classes_from
  import-lines c e i [] le = ap (λ ts. numbered i (imports ts)) (sym (drop_past exports e (omega (arith, le))))
  import-lines c e i (line ∷ lines) le =
      by line.class_file (subst (λ q. length exports ≤ e + q) (export_count-cons line lines) le) (import-lines (c + 1) e
      i lines) (import-lines c (e + 1) (i + size (slice_get exports e)) lines)
    where
      at : (o : Option ExportTree) → slice_get exports e ≡ o
          → filter is_import (classes_from trees exports c (e + 1) (i + size o) lines)
          ≡ numbered (i + size o) (imports (drop (e + 1) exports))
          → filter is_import (of_export_file i o ++ classes_from trees exports c (e + 1) (i + size o) lines)
          ≡ numbered i (imports (drop e exports))
      at None f rest = let p = get_past exports e f in rest ∙ ap (λ ts. numbered (i + 0) (imports ts)) p.1
          ∙ ap (λ ts. numbered i (imports ts)) (sym p.0)
      at (Some t) f rest =
          filter-append is_import (numbered i t.classes) (classes_from trees exports c (e + 1) (i + length t.classes)
          lines)
          ∙ ap (λ r. r ++ filter is_import (classes_from trees exports c (e + 1) (i + length t.classes) lines))
          (all-import i t.classes)
          ∙ ap (λ r. numbered i t.classes ++ r) rest
          ∙ sym (numbered-append i t.classes (imports (drop (e + 1) exports)))
          ∙ ap (λ ts. numbered i (imports ts)) (sym (drop_at exports e t f))

      by : (b : Bool) → length exports ≤ e + (cond (not b) 1 0 + export_count lines)
          → (length exports ≤ e + export_count lines → filter is_import (classes_from trees exports (c + 1) e i lines)
          ≡ numbered i (imports (drop e exports)))
          → (length exports ≤ e + 1 + export_count lines
          → filter is_import (classes_from trees exports c (e + 1) (i + size (slice_get exports e)) lines)
          ≡ numbered (i + size (slice_get exports e)) (imports (drop (e + 1) exports)))
          → filter is_import (if b then of_class_file c (slice_get trees c) ++ classes_from trees exports (c + 1) e i
          lines else of_export_file i (slice_get exports e) ++ classes_from trees exports c (e + 1)
          (i + size (slice_get exports e)) lines)
          ≡ numbered i (imports (drop e exports))
      by true h p q =
          filter-append is_import (of_class_file c (slice_get trees c)) (classes_from trees exports (c + 1) e i lines)
          ∙ ap (λ r. r ++ filter is_import (classes_from trees exports (c + 1) e i lines))
          (no-import c (slice_get trees c))
          ∙ p (omega (arith, h))
      by false h p q = at (slice_get exports e) refl (q (omega (arith, h)))

-- ---- a class of a number

numbered-has : (n : ℕ) (cs : List ExportClass) (k : ℕ) (c : ExportClass) → slice_get cs k ≡ Some c
    → Has (imported (n + k) c) (numbered n cs)
numbered-has n [] k c e = cc
numbered-has n (d ∷ cs) zero c e = let is : d ≡ c = cc in let z : n + 0 ≡ n = omega arith
    in subst (λ (q : Class). Has q (numbered n (d ∷ cs))) (ap (λ (v : ExportClass). imported n v) is
    ∙ ap (λ m. imported m c) (sym z)) at_front
numbered-has n (d ∷ cs) (suc k) c e = let s : n + 1 + k ≡ n + suc k = omega arith
    in behind (subst (λ m. Has (imported m c) (numbered (n + 1) cs)) s (numbered-has (n + 1) cs k c e))

has-numbered : (n : ℕ) (cs : List ExportClass) (d : Class) → Has d (numbered n cs) → (k : ℕ) × (c : ExportClass)
    × (slice_get cs k ≡ Some c) × (d ≡ imported (n + k) c)
has-numbered n [] d h = elim h [ ]
has-numbered n (c ∷ cs) d at_front = let z : n ≡ n + 0 = omega arith in (0, c, refl, ap (λ m. imported m c) z)
has-numbered n (c ∷ cs) d (behind h) = let r = has-numbered (n + 1) cs d h in let s : n + 1 + r.0 ≡ n + suc r.0 =
    omega arith in (suc r.0, r.1, r.2, r.3 ∙ ap (λ m. imported m r.1) s)

declared-has : (n : ℕ) (ts : List ClassTree) (k : ℕ) (t : ClassTree) → slice_get ts k ≡ Some t
    → Has (declared (n + k) t) (numbered_from n ts)
declared-has n [] k t e = cc
declared-has n (d ∷ ts) zero t e = let is : d ≡ t = cc in let z : n + 0 ≡ n = omega arith
    in subst (λ (q : Class). Has q (numbered_from n (d ∷ ts))) (ap (λ (v : ClassTree). declared n v) is
    ∙ ap (λ m. declared m t) (sym z)) at_front
declared-has n (d ∷ ts) (suc k) t e = let s : n + 1 + k ≡ n + suc k = omega arith
    in behind (subst (λ m. Has (declared m t) (numbered_from (n + 1) ts)) s (declared-has (n + 1) ts k t e))

has-declared : (n : ℕ) (ts : List ClassTree) (d : Class) → Has d (numbered_from n ts) → (k : ℕ) × (t : ClassTree)
    × (slice_get ts k ≡ Some t) × (d ≡ declared (n + k) t)
has-declared n [] d h = elim h [ ]
has-declared n (t ∷ ts) d at_front = let z : n ≡ n + 0 = omega arith in (0, t, refl, ap (λ m. declared m t) z)
has-declared n (t ∷ ts) d (behind h) = let r = has-declared (n + 1) ts d h in let s : n + 1 + r.0 ≡ n + suc r.0 =
    omega arith in (suc r.0, r.1, r.2, r.3 ∙ ap (λ m. declared m r.1) s)

module _ (files : Files) (classes_listed : length files.classes ≤ class_count files.lines) (exports_listed :
    length files.exports ≤ export_count files.lines) where
  abbrev w : List Class
  w = all_classes files

  own-all : filter is_own w ≡ numbered_from 0 files.classes
  unfolding all_classes
  own-all = own-lines files.classes files.exports 0 0 0 files.lines (omega (arith, classes_listed))

  import-all : filter is_import w ≡ numbered 0 (imports files.exports)
  unfolding all_classes
  import-all = import-lines files.classes files.exports 0 0 0 files.lines (omega (arith, exports_listed))

  -- each class file's class is one of them
  pub own_in : (n : ℕ) (t : ClassTree) → slice_get files.classes n ≡ Some t → Has (declared n t) w
  own_in n t e = has-filtered is_own (declared n t) w (subst (Has (declared n t)) (sym own-all) (let z : 0 + n
      ≡ n = omega arith in subst (λ m. Has (declared m t) (numbered_from 0 files.classes)) z
      (declared-has 0 files.classes n t e)))

  -- each class of an export file is one of them
  pub import_in : (k : ℕ) (c : ExportClass) → slice_get (imports files.exports) k ≡ Some c → Has (imported k c) w
  import_in k c e = has-filtered is_import (imported k c) w (subst (Has (imported k c)) (sym import-all) (let z : 0 + k
      ≡ k = omega arith in subst (λ m. Has (imported m c) (numbered 0 (imports files.exports))) z
      (numbered-has 0 (imports files.exports) k c e)))

  -- a class of the package is one of a class file
  pub own_filed : (d : Class) → Has d w → d.is_imported ≡ false → (n : ℕ) × (t : ClassTree)
      × (slice_get files.classes n ≡ Some t) × (d ≡ declared n t)
  own_filed d h e =
      let r = has-declared 0 files.classes d (subst (Has d) own-all (has-kept is_own d w h (ap not e))) in
      let z : 0 + r.0 ≡ r.0 = omega arith in
      (r.0, r.1, r.2, r.3 ∙ ap (λ m. declared m r.1) z)

  -- any other is one of an export file
  pub import_filed : (d : Class) → Has d w → d.is_imported ≡ true → (k : ℕ) × (c : ExportClass)
      × (slice_get (imports files.exports) k ≡ Some c) × (d ≡ imported k c)
  import_filed d h e =
      let r = has-numbered 0 (imports files.exports) d (subst (Has d) import-all (has-kept is_import d w h e)) in
      let z : 0 + r.0 ≡ r.0 = omega arith in
      (r.0, r.1, r.2, r.3 ∙ ap (λ m. imported m r.1) z)

  -- one kind and number is one class
  pub one_class : (c d : Class) → Has c w → Has d w → c.is_imported ≡ d.is_imported → c.number ≡ d.number → c ≡ d
  one_class c d h g kind number = by c.is_imported refl
    where
      by : (b : Bool) → c.is_imported ≡ b → c ≡ d
      by false e =
          let r = own_filed c h e in
          let s = own_filed d g (sym kind ∙ e) in
          let m : r.0 ≡ s.0 = ap (λ (v : Class). v.number) (sym r.3) ∙ number ∙ ap (λ (v : Class). v.number) s.3 in
          let both : Some r.1 ≡ Some s.1 = sym r.2 ∙ ap (slice_get files.classes) m ∙ s.2 in
          let is : r.1 ≡ s.1 = cc in
          r.3 ∙ ap (λ (v : ClassTree). declared r.0 v) is ∙ ap (λ (k : ℕ). declared k s.1) m ∙ sym s.3
      by true e =
          let r = import_filed c h e in
          let s = import_filed d g (sym kind ∙ e) in
          let m : r.0 ≡ s.0 = ap (λ (v : Class). v.number) (sym r.3) ∙ number ∙ ap (λ (v : Class). v.number) s.3 in
          let both : Some r.1 ≡ Some s.1 = sym r.2 ∙ ap (slice_get (imports files.exports)) m ∙ s.2 in
          let is : r.1 ≡ s.1 = cc in
          r.3 ∙ ap (λ (v : ExportClass). imported r.0 v) is ∙ ap (λ (k : ℕ). imported k s.1) m ∙ sym s.3
