-- A class of the files is the one of its number: numbers of its kind ascend in the order of the list.
use Rattle.std.proofs.Common.{◌≡◌, ℕ, ◌+◌, ◌<◌, ◌≤◌, refl, sym, ap, subst, ◌∙◌, arith, Bool, true, false, List, [], ◌∷◌}
use Rattle.std.proofs.Common.{◌++◌, length}
use Rattle.std.specs.Prelude.{Option, Some, None, if◌then◌else◌, cond, option_map, slice_get, ◌==◌, ◌&&◌, not}
use Rattle.std.specs.Str.{bytes_eq}
use Rattle.std.proofs.lemmas.Bool.{eqb-true, eqb-false}
use Rattle.cjc_world.specs.Bytes.declared.settings.FileLine.{FileLine}
use Rattle.cjc_world.proofs.BytesNumbers.{like_number}
use Rattle.cjc_world.specs.ClassFile.declared.tree.ClassTree.{ClassTree}
use Rattle.cjc_world.specs.ExportFile.declared.tree.ExportClass.{ExportClass}
use Rattle.cjc_world.specs.ExportFile.declared.tree.ExportTree.{ExportTree}
use Rattle.cjc_world.specs.Files.{Files}
use Rattle.cjc_world.specs.Classes.{Class, declared, imported, numbered, size, of_class_file, of_export_file}
use Rattle.cjc_world.specs.Classes.{classes_from, all_classes, class_named, class_at, is_at}
use Rattle.cjc_order.specs.Classes.Numbers.{class_count}
use Rattle.cjc_order.proofs.ClassesLaws.Standing.{class_count-cons}

below_next : (n : ℕ) → n < n + 1
below_next n = omega arith

same_kind : (x y : Bool) (m n : ℕ) → ((if x then y else not y) && (m == n)) ≡ true → (x ≡ y) × (m ≡ n)
same_kind true true m n h = (refl, eqb-true m n h)
same_kind false false m n h = (refl, eqb-true m n h)
same_kind true false m n h = cc
same_kind false true m n h = cc

-- ---- what a class file adds has no number of an imported class, and the other way round

file-passed : (c n : ℕ) (o : Option ClassTree) (rest : List Class) → class_at (of_class_file c o ++ rest) true n
    ≡ class_at rest true n
unfolding class_at
file-passed c n None rest = refl
file-passed c n (Some t) rest = refl

numbered-passed : (i n : ℕ) (cs : List ExportClass) (rest : List Class) → class_at (numbered i cs ++ rest) false n
    ≡ class_at rest false n
unfolding class_at
numbered-passed i n [] rest = refl
numbered-passed i n (c ∷ cs) rest = numbered-passed (i + 1) n cs rest

export-passed : (i n : ℕ) (o : Option ExportTree) (rest : List Class) → class_at (of_export_file i o ++ rest) false n
    ≡ class_at rest false n
export-passed i n None rest = refl
export-passed i n (Some t) rest = numbered-passed i n t.classes rest

-- ---- numbers below the first are of no class

file-absent : (c n : ℕ) (o : Option ClassTree) (rest : List Class) → n < c → class_at rest false n ≡ None
    → class_at (of_class_file c o ++ rest) false n ≡ None
unfolding class_at
file-absent c n None rest lt e = e
file-absent c n (Some t) rest lt e = by (c == n) refl
  where
    by : (b : Bool) → (c == n) ≡ b → (if b then Some (declared c t) else class_at rest false n) ≡ None
    by true f = let is = eqb-true c n f in absurd (omega arith)
    by false f = e

numbered-absent : (i n : ℕ) (cs : List ExportClass) (rest : List Class) → n < i → ((k : ℕ) → k < i + length cs
    → class_at rest true k ≡ None) → class_at (numbered i cs ++ rest) true n ≡ None
unfolding class_at
numbered-absent i n [] rest lt none = none n (omega arith)
numbered-absent i n (c ∷ cs) rest lt none = by (i == n) refl (numbered-absent (i + 1) n cs rest (omega arith)
    (λ k h. none k (omega arith)))
  where
    by : (b : Bool) → (i == n) ≡ b → class_at (numbered (i + 1) cs ++ rest) true n ≡ None
        → (if b then Some (imported i c) else class_at (numbered (i + 1) cs ++ rest) true n) ≡ None
    by true f e = let is = eqb-true i n f in absurd (omega arith)
    by false f e = e

export-absent : (i n : ℕ) (o : Option ExportTree) (rest : List Class) → n < i → ((k : ℕ) → k < i + size o
    → class_at rest true k ≡ None) → class_at (of_export_file i o ++ rest) true n ≡ None
export-absent i n None rest lt none = none n (omega arith)
export-absent i n (Some t) rest lt none = numbered-absent i n t.classes rest lt none

pub absent-declared : (trees : List ClassTree) (exports : List ExportTree) (c e i : ℕ) (lines : List FileLine) (n : ℕ)
    → n < c → class_at (classes_from trees exports c e i lines) false n ≡ None
unfolding class_at classes_from
absent-declared trees exports c e i [] n lt = refl
absent-declared trees exports c e i (line ∷ lines) n lt = by line.class_file (absent-declared trees exports (c + 1) e i
    lines n (omega arith)) (absent-declared trees exports c (e + 1) (i + size (slice_get exports e)) lines n lt)
  where
    by : (b : Bool) → class_at (classes_from trees exports (c + 1) e i lines) false n ≡ None
        → class_at (classes_from trees exports c (e + 1) (i + size (slice_get exports e)) lines) false n ≡ None
        → class_at (if b then of_class_file c (slice_get trees c) ++ classes_from trees exports (c + 1) e i lines
        else of_export_file i (slice_get exports e) ++ classes_from trees exports c (e + 1)
        (i + size (slice_get exports e)) lines) false n ≡ None
    by true r s = file-absent c n (slice_get trees c) (classes_from trees exports (c + 1) e i lines) lt r
    by false r s = export-passed i n (slice_get exports e) (classes_from trees exports c (e + 1)
        (i + size (slice_get exports e)) lines) ∙ s

pub absent-imported : (trees : List ClassTree) (exports : List ExportTree) (c e i : ℕ) (lines : List FileLine) (n : ℕ)
    → n < i → class_at (classes_from trees exports c e i lines) true n ≡ None
unfolding class_at classes_from
absent-imported trees exports c e i [] n lt = refl
absent-imported trees exports c e i (line ∷ lines) n lt = by line.class_file (absent-imported trees exports (c + 1) e i
    lines n lt) (λ k h. absent-imported trees exports c (e + 1) (i + size (slice_get exports e)) lines k h)
  where
    by : (b : Bool) → class_at (classes_from trees exports (c + 1) e i lines) true n ≡ None
        → ((k : ℕ) → k < i + size (slice_get exports e)
        → class_at (classes_from trees exports c (e + 1) (i + size (slice_get exports e)) lines) true k ≡ None)
        → class_at (if b then of_class_file c (slice_get trees c) ++ classes_from trees exports (c + 1) e i lines
        else of_export_file i (slice_get exports e) ++ classes_from trees exports c (e + 1)
        (i + size (slice_get exports e)) lines) true n ≡ None
    by true r s = file-passed c n (slice_get trees c) (classes_from trees exports (c + 1) e i lines) ∙ r
    by false r s = export-absent i n (slice_get exports e) (classes_from trees exports c (e + 1)
        (i + size (slice_get exports e)) lines) lt s

-- ---- a class that a name finds is the class of its number

-- it is the class of its number
abbrev pub Numbered : List Class → Class → Type 0
Numbered cs d = class_at cs d.is_imported d.number ≡ Some d

of_kind : (cs : List Class) (d : Class) (b : Bool) → d.is_imported ≡ b → class_at cs b d.number ≡ Some d → Numbered cs d
of_kind cs d b im e = ap (λ q. class_at cs q d.number) im ∙ e

-- one class in front, which has another number
in_front : (b d : Class) (rest : List Class) → class_at rest b.is_imported b.number ≡ None → Numbered rest d
    → Numbered (b ∷ rest) d
unfolding class_at
in_front b d rest none e = by (is_at d.is_imported d.number b) refl
  where
    by : (q : Bool) → is_at d.is_imported d.number b ≡ q → (if q then Some b else class_at rest d.is_imported d.number)
        ≡ Some d
    by true h =
        let k = same_kind b.is_imported d.is_imported b.number d.number h in
        let other : class_at rest d.is_imported d.number ≡ None = ap (λ q. class_at rest q d.number) (sym k.0)
        ∙ ap (class_at rest b.is_imported) (sym k.1) ∙ none in
        cc
    by false h = e

in_head : (b : Class) (rest : List Class) → Numbered (b ∷ rest) b
unfolding class_at
in_head b rest = by b.is_imported (b.number == b.number) (like_number b.number)
  where
    by : (x y : Bool) → y ≡ true → (if (if x then x else not x) && y then Some b
        else class_at rest b.is_imported b.number) ≡ Some b
    by true true e = refl
    by false true e = refl
    by x false e = cc

-- where a name finds a class of these, it is the class of its number
abbrev pub AreNumbered : List Class → Type 0
AreNumbered cs = (x : List ℕ) (d : Class) → class_named cs x ≡ Some d → Numbered cs d

one-more : (b : Class) (rest : List Class) → class_at rest b.is_imported b.number ≡ None → AreNumbered rest
    → AreNumbered (b ∷ rest)
unfolding class_named
one-more b rest none all x d e = by (bytes_eq b.name x) e
  where
    by : (q : Bool) → (if q then Some b else class_named rest x) ≡ Some d → class_at (b ∷ rest) d.is_imported d.number
        ≡ Some d
    by true e = let is : b ≡ d = cc in subst (λ (q : Class). class_at (b ∷ rest) q.is_imported q.number ≡ Some q) is
        (in_head b rest)
    by false e = in_front b d rest none (all x d e)

file-numbered : (c : ℕ) (o : Option ClassTree) (rest : List Class) → class_at rest false c ≡ None → AreNumbered rest
    → AreNumbered (of_class_file c o ++ rest)
file-numbered c None rest none all = all
file-numbered c (Some t) rest none all = one-more (declared c t) rest none all

numbered-numbered : (i : ℕ) (cs : List ExportClass) (rest : List Class) → ((k : ℕ) → k < i + length cs
    → class_at rest true k ≡ None) → AreNumbered rest → AreNumbered (numbered i cs ++ rest)
numbered-numbered i [] rest none all = all
numbered-numbered i (c ∷ cs) rest none all =
    let later_ones = λ (k : ℕ) (h : k < i + 1 + length cs). none k (omega arith) in
    one-more (imported i c) (numbered (i + 1) cs ++ rest) (numbered-absent (i + 1) i cs rest (below_next i) later_ones)
    (numbered-numbered (i + 1) cs rest later_ones all)

export-numbered : (i : ℕ) (o : Option ExportTree) (rest : List Class) → ((k : ℕ) → k < i + size o → class_at rest true k
    ≡ None) → AreNumbered rest → AreNumbered (of_export_file i o ++ rest)
export-numbered i None rest none all = all
export-numbered i (Some t) rest none all = numbered-numbered i t.classes rest none all

from-numbered : (trees : List ClassTree) (exports : List ExportTree) (c e i : ℕ) (lines : List FileLine)
    → AreNumbered (classes_from trees exports c e i lines)
unfolding classes_from class_named
from-numbered trees exports c e i [] = λ x d f. cc
from-numbered trees exports c e i (line ∷ lines) = by line.class_file (from-numbered trees exports (c + 1) e i lines)
    (from-numbered trees exports c (e + 1) (i + size (slice_get exports e)) lines)
  where
    by : (b : Bool) → AreNumbered (classes_from trees exports (c + 1) e i lines)
        → AreNumbered (classes_from trees exports c (e + 1) (i + size (slice_get exports e)) lines)
        → AreNumbered (if b then of_class_file c (slice_get trees c) ++ classes_from trees exports (c + 1) e i lines
        else of_export_file i (slice_get exports e) ++ classes_from trees exports c (e + 1)
        (i + size (slice_get exports e)) lines)
    by true r s = file-numbered c (slice_get trees c) (classes_from trees exports (c + 1) e i lines)
        (absent-declared trees exports (c + 1) e i lines c (below_next c)) r
    by false r s = export-numbered i (slice_get exports e) (classes_from trees exports c (e + 1)
        (i + size (slice_get exports e)) lines) (λ k h. absent-imported trees exports c (e + 1)
        (i + size (slice_get exports e)) lines k h) s

pub named-number : (files : Files) → AreNumbered (all_classes files)
unfolding all_classes
named-number files = from-numbered files.classes files.exports 0 0 0 files.lines

-- ---- a class of a number is of its kind, and of the package it is the tree of that number

pub at-kind : (cs : List Class) (imported_one : Bool) (n : ℕ) (d : Class) → class_at cs imported_one n ≡ Some d
    → (d.is_imported ≡ imported_one) × (d.number ≡ n)
unfolding class_at
at-kind [] im n d e = cc
at-kind (b ∷ cs) im n d e = by (is_at im n b) refl e (at-kind cs im n d)
  where
    by : (q : Bool) → is_at im n b ≡ q → (if q then Some b else class_at cs im n) ≡ Some d → (class_at cs im n ≡ Some d
        → (d.is_imported ≡ im) × (d.number ≡ n)) → (d.is_imported ≡ im) × (d.number ≡ n)
    by true h e rest =
        let is : b ≡ d = cc in
        let k = same_kind b.is_imported im b.number n h in
        (ap (λ (q : Class). q.is_imported) (sym is) ∙ k.0, ap (λ (q : Class). q.number) (sym is) ∙ k.1)
    by false h e rest = rest e

Tree : List ClassTree → ℕ → Class → Type 0
Tree trees n d = (t : ClassTree) × (slice_get trees n ≡ Some t) × (d ≡ declared n t)

file-tree : (trees : List ClassTree) (c n : ℕ) (o : Option ClassTree) (rest : List Class) (d : Class)
    → slice_get trees c ≡ o → (class_at rest false n ≡ Some d → Tree trees n d)
    → class_at (of_class_file c o ++ rest) false n ≡ Some d → Tree trees n d
unfolding class_at Tree
file-tree trees c n None rest d at more e = more e
file-tree trees c n (Some t) rest d at more e = by (c == n) refl e
  where
    by : (q : Bool) → (c == n) ≡ q → (if q then Some (declared c t) else class_at rest false n) ≡ Some d
        → (t : ClassTree) × (slice_get trees n ≡ Some t) × (d ≡ declared n t)
    by true h e =
        let same_one = eqb-true c n h in
        let is : declared c t ≡ d = cc in
        (t, ap (slice_get trees) (sym same_one) ∙ at, sym is ∙ ap (λ k. declared k t) same_one)
    by false h e = more e

from-tree : (trees : List ClassTree) (exports : List ExportTree) (c e i : ℕ) (lines : List FileLine) (n : ℕ) (d : Class)
    → class_at (classes_from trees exports c e i lines) false n ≡ Some d → Tree trees n d
unfolding class_at classes_from Tree
from-tree trees exports c e i [] n d f = cc
from-tree trees exports c e i (line ∷ lines) n d f = by line.class_file f (from-tree trees exports (c + 1) e i lines n
    d) (from-tree trees exports c (e + 1) (i + size (slice_get exports e)) lines n d)
  where
    by : (b : Bool) → class_at (if b then of_class_file c (slice_get trees c) ++ classes_from trees exports (c + 1) e i
        lines else of_export_file i (slice_get exports e) ++ classes_from trees exports c (e + 1)
        (i + size (slice_get exports e)) lines) false n ≡ Some d
        → (class_at (classes_from trees exports (c + 1) e i lines) false n ≡ Some d → (t : ClassTree)
        × (slice_get trees n ≡ Some t) × (d ≡ declared n t))
        → (class_at (classes_from trees exports c (e + 1) (i + size (slice_get exports e)) lines) false n ≡ Some d
        → (t : ClassTree) × (slice_get trees n ≡ Some t) × (d ≡ declared n t))
        → (t : ClassTree) × (slice_get trees n ≡ Some t) × (d ≡ declared n t)
    by true f r s = file-tree trees c n (slice_get trees c) (classes_from trees exports (c + 1) e i lines) d refl r f
    by false f r s =
        s (sym (export-passed i n (slice_get exports e) (classes_from trees exports c (e + 1)
        (i + size (slice_get exports e)) lines)) ∙ f)

pub at-tree : (files : Files) (n : ℕ) (d : Class) → class_at (all_classes files) false n ≡ Some d → (t : ClassTree)
    × (slice_get files.classes n ≡ Some t) × (d ≡ declared n t)
unfolding all_classes Tree
at-tree files n d e = from-tree files.classes files.exports 0 0 0 files.lines n d e

-- ---- a number below that of the class files which the list names is of the tree at its place, and no other is of a
-- class of the package

file-other : (c n : ℕ) (o : Option ClassTree) (rest : List Class) → c < n → class_at (of_class_file c o ++ rest) false n
    ≡ class_at rest false n
unfolding class_at
file-other c n None rest lt = refl
file-other c n (Some t) rest lt = by (c == n) refl
  where
    by : (b : Bool) → (c == n) ≡ b → (if b then Some (declared c t) else class_at rest false n) ≡ class_at rest false n
    by true f = let is = eqb-true c n f in absurd (omega arith)
    by false f = refl

file-here : (c : ℕ) (o : Option ClassTree) (rest : List Class) → class_at rest false c ≡ None
    → class_at (of_class_file c o ++ rest) false c ≡ option_map (declared c) o
unfolding class_at
file-here c None rest none = none
file-here c (Some t) rest none = by (c == c) (like_number c)
  where
    by : (b : Bool) → b ≡ true → (if b then Some (declared c t) else class_at rest false c) ≡ Some (declared c t)
    by true f = refl
    by false f = cc

file-listed : (trees : List ClassTree) (c n : ℕ) (rest : List Class) → c ≤ n → class_at rest false c ≡ None
    → (c < n → class_at rest false n ≡ option_map (declared n) (slice_get trees n))
    → class_at (of_class_file c (slice_get trees c) ++ rest) false n ≡ option_map (declared n) (slice_get trees n)
file-listed trees c n rest le none later = by (c == n) refl
  where
    by : (b : Bool) → (c == n) ≡ b → class_at (of_class_file c (slice_get trees c) ++ rest) false n
        ≡ option_map (declared n) (slice_get trees n)
    by true f = subst (λ k. class_at (of_class_file c (slice_get trees c) ++ rest) false k ≡ option_map (declared k)
        (slice_get trees k)) (eqb-true c n f) (file-here c (slice_get trees c) rest none)
    by false f = let lt : c < n = omega (arith, eqb-false c n f) in file-other c n (slice_get trees c) rest lt
        ∙ later lt

from-listed : (trees : List ClassTree) (exports : List ExportTree) (c e i : ℕ) (lines : List FileLine) (n : ℕ) → c ≤ n
    → n < c + class_count lines → class_at (classes_from trees exports c e i lines) false n ≡ option_map (declared n)
    (slice_get trees n)
unfolding classes_from
from-listed trees exports c e i [] n le lt = absurd (omega arith)
from-listed trees exports c e i (line ∷ lines) n le lt =
    by line.class_file (subst (λ q. n < c + q) (class_count-cons line lines) lt) (from-listed trees exports (c + 1) e i
    lines n) (from-listed trees exports c (e + 1) (i + size (slice_get exports e)) lines n le)
  where
    by : (b : Bool) → n < c + (cond b 1 0 + class_count lines)
        → (c + 1 ≤ n → n < c + 1 + class_count lines → class_at (classes_from trees exports (c + 1) e i lines) false n
        ≡ option_map (declared n) (slice_get trees n))
        → (n < c + class_count lines → class_at (classes_from trees exports c (e + 1) (i + size (slice_get exports e))
        lines) false n ≡ option_map (declared n) (slice_get trees n))
        → class_at (if b then of_class_file c (slice_get trees c) ++ classes_from trees exports (c + 1) e i lines
        else of_export_file i (slice_get exports e) ++ classes_from trees exports c (e + 1)
        (i + size (slice_get exports e)) lines) false n ≡ option_map (declared n) (slice_get trees n)
    by true h r s = file-listed trees c n (classes_from trees exports (c + 1) e i lines) le (absent-declared trees
        exports (c + 1) e i lines c (below_next c)) (λ k. r (omega arith) (omega arith))
    by false h r s = export-passed i n (slice_get exports e) (classes_from trees exports c (e + 1)
        (i + size (slice_get exports e)) lines) ∙ s (omega arith)

from-unlisted : (trees : List ClassTree) (exports : List ExportTree) (c e i : ℕ) (lines : List FileLine) (n : ℕ)
    → c + class_count lines ≤ n → class_at (classes_from trees exports c e i lines) false n ≡ None
unfolding class_at classes_from
from-unlisted trees exports c e i [] n le = refl
from-unlisted trees exports c e i (line ∷ lines) n le =
    by line.class_file (subst (λ q. c + q ≤ n) (class_count-cons line lines) le) (from-unlisted trees exports (c + 1) e
    i lines n) (from-unlisted trees exports c (e + 1) (i + size (slice_get exports e)) lines n)
  where
    by : (b : Bool) → c + (cond b 1 0 + class_count lines) ≤ n
        → (c + 1 + class_count lines ≤ n → class_at (classes_from trees exports (c + 1) e i lines) false n ≡ None)
        → (c + class_count lines ≤ n → class_at (classes_from trees exports c (e + 1) (i + size (slice_get exports e))
        lines) false n ≡ None)
        → class_at (if b then of_class_file c (slice_get trees c) ++ classes_from trees exports (c + 1) e i lines
        else of_export_file i (slice_get exports e) ++ classes_from trees exports c (e + 1)
        (i + size (slice_get exports e)) lines) false n ≡ None
    by true h r s = file-other c n (slice_get trees c) (classes_from trees exports (c + 1) e i lines) (omega arith)
        ∙ r (omega arith)
    by false h r s = export-passed i n (slice_get exports e) (classes_from trees exports c (e + 1)
        (i + size (slice_get exports e)) lines) ∙ s (omega arith)

pub own_listed : (files : Files) (n : ℕ) → n < class_count files.lines → class_at (all_classes files) false n
    ≡ option_map (declared n) (slice_get files.classes n)
unfolding all_classes
own_listed files n lt = from-listed files.classes files.exports 0 0 0 files.lines n (omega arith) (omega arith)

pub own_unlisted : (files : Files) (n : ℕ) → class_count files.lines ≤ n → class_at (all_classes files) false n ≡ None
unfolding all_classes
own_unlisted files n le = from-unlisted files.classes files.exports 0 0 0 files.lines n (omega arith)
