-- The classes of a kind stand at their numbers.
use Rattle.std.proofs.Common.{◌≡◌, ℕ, zero, suc, ◌+◌, ◌≤◌, refl, sym, ap, ◌∙◌, arith, Bool, true, false, List, [], ◌∷◌}
use Rattle.std.proofs.Common.{◌++◌, length}
use Rattle.std.specs.Prelude.{Option, Some, None, if◌then◌else◌, not, filter, slice_get, ◌==◌, ◌&&◌}
use Rattle.cjc_world.specs.Bytes.declared.settings.FileLine.{FileLine}
use Rattle.cjc_world.specs.ClassFile.declared.tree.ClassTree.{ClassTree}
use Rattle.cjc_world.specs.ExportFile.declared.tree.ExportClass.{ExportClass}
use Rattle.cjc_world.specs.ExportFile.declared.tree.ExportTree.{ExportTree}
use Rattle.cjc_world.specs.Files.{Files}
use Rattle.cjc_world.specs.Classes.{Class, declared, imported, numbered, size, of_class_file, of_export_file}
use Rattle.cjc_world.specs.Classes.{classes_from, all_classes, class_at}
use Rattle.cjc_exported.specs.ExportFile.Working.Sources.{is_of_kind}

-- ---- imported classes

module _ (rest : List Class) where
  numbered-imported : (i n : ℕ) (cs : List ExportClass) → ((m : ℕ) → slice_get (filter (is_of_kind true) rest) m
      ≡ class_at rest true (i + length cs + m))
      → slice_get (filter (is_of_kind true) (numbered i cs ++ rest)) n ≡ class_at (numbered i cs ++ rest) true (i + n)
  unfolding class_at
  numbered-imported i n [] at = let s : i + 0 + n ≡ i + n = omega arith in at n ∙ ap (class_at rest true) s
  numbered-imported i zero (c ∷ cs) at = let e : (i == i + 0) ≡ true = grind arith
      in sym (ap (λ b. if b then Some (imported i c) else class_at (numbered (i + 1) cs ++ rest) true (i + 0)) e)
  numbered-imported i (suc n) (c ∷ cs) at =
      let e : (i == i + suc n) ≡ false = grind arith in
      let s : i + 1 + n ≡ i + suc n = omega arith in
      numbered-imported (i + 1) n cs (λ m. let t : i + suc (length cs) + m ≡ i + 1 + length cs + m = omega arith in at m
      ∙ ap (class_at rest true) t)
      ∙ ap (class_at (numbered (i + 1) cs ++ rest) true) s
      ∙ sym (ap (λ b. if b then Some (imported i c) else class_at (numbered (i + 1) cs ++ rest) true (i + suc n)) e)

  file-passed : (c n : ℕ) (o : Option ClassTree) → class_at (of_class_file c o ++ rest) true n ≡ class_at rest true n
  unfolding class_at
  file-passed c n None = refl
  file-passed c n (Some t) = refl

  file-left : (c : ℕ) (o : Option ClassTree) → filter (is_of_kind true) (of_class_file c o ++ rest)
      ≡ filter (is_of_kind true) rest
  file-left c None = refl
  file-left c (Some t) = refl

  export-imported : (i n : ℕ) (o : Option ExportTree) → ((m : ℕ) → slice_get (filter (is_of_kind true) rest) m
      ≡ class_at rest true (i + size o + m))
      → slice_get (filter (is_of_kind true) (of_export_file i o ++ rest)) n ≡ class_at (of_export_file i o
      ++ rest) true (i + n)
  export-imported i n None at = let s : i + 0 + n ≡ i + n = omega arith in at n ∙ ap (class_at rest true) s
  export-imported i n (Some t) at = numbered-imported i n t.classes at

imported-from : (trees : List ClassTree) (exports : List ExportTree) (c e i : ℕ) (lines : List FileLine) (n : ℕ)
    → slice_get (filter (is_of_kind true) (classes_from trees exports c e i lines)) n
    ≡ class_at (classes_from trees exports c e i lines) true (i + n)
unfolding class_at classes_from
imported-from trees exports c e i [] n = refl
imported-from trees exports c e i (line ∷ lines) n = by line.class_file (imported-from trees exports (c + 1) e i lines
    n) (imported-from trees exports c (e + 1) (i + size (slice_get exports e)) lines)
  where
    by : (b : Bool) → slice_get (filter (is_of_kind true) (classes_from trees exports (c + 1) e i lines)) n
        ≡ class_at (classes_from trees exports (c + 1) e i lines) true (i + n)
        → ((m : ℕ) → slice_get (filter (is_of_kind true) (classes_from trees exports c (e + 1)
        (i + size (slice_get exports e)) lines)) m ≡ class_at (classes_from trees exports c (e + 1)
        (i + size (slice_get exports e)) lines) true (i + size (slice_get exports e) + m))
        → slice_get (filter (is_of_kind true) (if b then of_class_file c (slice_get trees c)
        ++ classes_from trees exports (c + 1) e i lines else of_export_file i (slice_get exports e)
        ++ classes_from trees exports c (e + 1) (i + size (slice_get exports e)) lines)) n
        ≡ class_at (if b then of_class_file c (slice_get trees c) ++ classes_from trees exports (c + 1) e i lines
        else of_export_file i (slice_get exports e) ++ classes_from trees exports c (e + 1)
        (i + size (slice_get exports e)) lines) true (i + n)
    by true r s =
        ap (λ (xs : List Class). slice_get xs n) (file-left (classes_from trees exports (c + 1) e i lines) c
        (slice_get trees c)) ∙ r ∙ sym (file-passed (classes_from trees exports (c + 1) e i lines) c (i + n)
        (slice_get trees c))
    by false r s = export-imported (classes_from trees exports c (e + 1) (i + size (slice_get exports e)) lines) i n
        (slice_get exports e) s

-- ---- classes of the package

module _ (rest : List Class) where
  numbered-left : (i : ℕ) (cs : List ExportClass) → filter (is_of_kind false) (numbered i cs ++ rest)
      ≡ filter (is_of_kind false) rest
  numbered-left i [] = refl
  numbered-left i (c ∷ cs) = numbered-left (i + 1) cs

  export-left : (i : ℕ) (o : Option ExportTree) → filter (is_of_kind false) (of_export_file i o ++ rest)
      ≡ filter (is_of_kind false) rest
  export-left i None = refl
  export-left i (Some t) = numbered-left i t.classes

  numbered-passed : (i n : ℕ) (cs : List ExportClass) → class_at (numbered i cs ++ rest) false n ≡ class_at rest false n
  unfolding class_at
  numbered-passed i n [] = refl
  numbered-passed i n (c ∷ cs) = numbered-passed (i + 1) n cs

  export-passed : (i n : ℕ) (o : Option ExportTree) → class_at (of_export_file i o ++ rest) false n
      ≡ class_at rest false n
  export-passed i n None = refl
  export-passed i n (Some t) = numbered-passed i n t.classes

-- where none is kept, no number is of a class
none-left : (w : List Class) (n : ℕ) → filter (is_of_kind false) w ≡ [] → class_at w false n ≡ None
unfolding class_at
none-left [] n e = refl
none-left (c ∷ w) n e = by c.is_imported e (none-left w n)
  where
    by : (b : Bool) → (if not b then c ∷ filter (is_of_kind false) w else filter (is_of_kind false) w) ≡ []
        → (filter (is_of_kind false) w ≡ [] → class_at w false n ≡ None) → (if (if b then false else true)
        && (c.number == n) then Some c else class_at w false n) ≡ None
    by true e more = more e
    by false e more = cc

pub past : {A : Type 0} (xs : List A) (c d : ℕ) → slice_get xs c ≡ None → c ≤ d → slice_get xs d ≡ None
past [] c d e le = refl
past (x ∷ xs) zero d e le = cc
past (x ∷ xs) (suc c) zero e le = absurd (omega arith)
past (x ∷ xs) (suc c) (suc d) e le = past xs c d e (omega arith)

-- behind the last class file there is none
none-from : (trees : List ClassTree) (exports : List ExportTree) (c e i : ℕ) (lines : List FileLine)
    → slice_get trees c ≡ None → filter (is_of_kind false) (classes_from trees exports c e i lines) ≡ []
unfolding classes_from
none-from trees exports c e i [] gone = refl
none-from trees exports c e i (line ∷ lines) gone = by line.class_file (none-from trees exports (c + 1) e i lines
    (past trees c (c + 1) gone (omega arith))) (none-from trees exports c (e + 1) (i + size (slice_get exports e)) lines
    gone)
  where
    by : (b : Bool) → filter (is_of_kind false) (classes_from trees exports (c + 1) e i lines) ≡ []
        → filter (is_of_kind false) (classes_from trees exports c (e + 1) (i + size (slice_get exports e)) lines) ≡ []
        → filter (is_of_kind false) (if b then of_class_file c (slice_get trees c)
        ++ classes_from trees exports (c + 1) e i lines else of_export_file i (slice_get exports e)
        ++ classes_from trees exports c (e + 1) (i + size (slice_get exports e)) lines) ≡ []
    by true r s = ap (λ o. filter (is_of_kind false) (of_class_file c o ++ classes_from trees exports (c + 1) e i
        lines)) gone ∙ r
    by false r s = export-left (classes_from trees exports c (e + 1) (i + size (slice_get exports e)) lines) i
        (slice_get exports e) ∙ s

declared-from : (trees : List ClassTree) (exports : List ExportTree) (c e i : ℕ) (lines : List FileLine) (n : ℕ)
    → slice_get (filter (is_of_kind false) (classes_from trees exports c e i lines)) n
    ≡ class_at (classes_from trees exports c e i lines) false (c + n)
unfolding class_at classes_from
declared-from trees exports c e i [] n = refl
declared-from trees exports c e i (line ∷ lines) n = by line.class_file (declared-from trees exports (c + 1) e i lines)
    (declared-from trees exports c (e + 1) (i + size (slice_get exports e)) lines n)
  where
    file : (n : ℕ) (o : Option ClassTree) (rest : List Class) → slice_get trees c ≡ o → (slice_get trees c ≡ None
        → filter (is_of_kind false) rest ≡ []) → ((m : ℕ) → slice_get (filter (is_of_kind false) rest) m
        ≡ class_at rest false (c + 1 + m))
        → slice_get (filter (is_of_kind false) (of_class_file c o ++ rest)) n ≡ class_at (of_class_file c o
        ++ rest) false (c + n)
    file n None rest is none at = ap (λ (xs : List Class). slice_get xs n) (none is)
        ∙ sym (none-left rest (c + n) (none is))
    file zero (Some t) rest is none at = let e : (c == c + 0) ≡ true = grind arith
        in sym (ap (λ b. if b then Some (declared c t) else class_at rest false (c + 0)) e)
    file (suc n) (Some t) rest is none at =
        let e : (c == c + suc n) ≡ false = grind arith in
        let s : c + 1 + n ≡ c + suc n = omega arith in
        at n ∙ ap (class_at rest false) s ∙ sym (ap (λ b. if b then Some (declared c t)
        else class_at rest false (c + suc n)) e)

    by : (b : Bool) → ((m : ℕ) → slice_get (filter (is_of_kind false) (classes_from trees exports (c + 1) e i lines)) m
        ≡ class_at (classes_from trees exports (c + 1) e i lines) false (c + 1 + m))
        → slice_get (filter (is_of_kind false) (classes_from trees exports c (e + 1) (i + size (slice_get exports e))
        lines)) n ≡ class_at (classes_from trees exports c (e + 1) (i + size (slice_get exports e)) lines) false
        (c + n)
        → slice_get (filter (is_of_kind false) (if b then of_class_file c (slice_get trees c)
        ++ classes_from trees exports (c + 1) e i lines else of_export_file i (slice_get exports e)
        ++ classes_from trees exports c (e + 1) (i + size (slice_get exports e)) lines)) n
        ≡ class_at (if b then of_class_file c (slice_get trees c) ++ classes_from trees exports (c + 1) e i lines
        else of_export_file i (slice_get exports e) ++ classes_from trees exports c (e + 1)
        (i + size (slice_get exports e)) lines) false (c + n)
    by true r s = file n (slice_get trees c) (classes_from trees exports (c + 1) e i lines) refl
        (λ gone. none-from trees exports (c + 1) e i lines (past trees c (c + 1) gone (omega arith))) r
    by false r s =
        ap (λ (xs : List Class). slice_get xs n) (export-left (classes_from trees exports c (e + 1)
        (i + size (slice_get exports e)) lines) i (slice_get exports e)) ∙ s
        ∙ sym (export-passed (classes_from trees exports c (e + 1) (i + size (slice_get exports e)) lines) i (c + n)
        (slice_get exports e))

-- ---- all files

pub of-number : (files : Files) (kind : Bool) (n : ℕ) → slice_get (filter (is_of_kind kind) (all_classes files)) n
    ≡ class_at (all_classes files) kind n
unfolding all_classes
of-number files true n = let z : 0 + n ≡ n = omega arith in imported-from files.classes files.exports 0 0 0 files.lines
    n ∙ ap (class_at (classes_from files.classes files.exports 0 0 0 files.lines) true) z
of-number files false n = let z : 0 + n ≡ n = omega arith in declared-from files.classes files.exports 0 0 0 files.lines
    n ∙ ap (class_at (classes_from files.classes files.exports 0 0 0 files.lines) false) z
