-- The k-th of the exported classes, fields and methods of a package has the token k.
use Rattle.std.proofs.Common.{◌≡◌, ℕ, zero, suc, ◌+◌, ◌≤◌, refl, sym, ap, subst, ◌∙◌, arith, Bool, true, false, List}
use Rattle.std.proofs.Common.{[], ◌∷◌, ◌++◌, length, drop}
use Rattle.std.specs.Prelude.{not, ◌&&◌, cond, count_by, filter, take, Option, Some, None, slice_get}
use Rattle.std.specs.Prelude.{if◌then◌else◌}
use Rattle.std.proofs.lemmas.List.Elements.{filter-append}
use Rattle.std.proofs.lemmas.List.Sums.{sum_by-cons}
use Rattle.cjc_bytes.specs.declared.settings.FileLine.{FileLine}
use Rattle.cjc_bytes.proofs.Gets.{drop_past, get_past, drop_at}
use Rattle.cjc_world.specs.ClassFile.declared.tree.ClassTree.{ClassTree}
use Rattle.cjc_world.specs.ExportFile.declared.tree.ExportClass.{ExportClass}
use Rattle.cjc_world.specs.ExportFile.declared.tree.ExportTree.{ExportTree}
use Rattle.cjc_pool.specs.ClassOrder.Classes.Numbers.{numbered_from, class_count}
use Rattle.cjc_world.specs.Files.{Files}
use Rattle.cjc_world.specs.declared.found.Found.{Found}
use Rattle.cjc_world.specs.Classes.{Member, Class, declared, numbered, size, of_class_file, of_export_file, all_classes}
use Rattle.cjc_world.specs.Classes as worlds
use Rattle.cjc_world.specs.Exported.{is_exported}
use Rattle.cjc_world.specs.Lookup.{member_at}
use Rattle.cjc_tokens.specs.Methods.{is_open_bound}
use Rattle.cjc_tokens.specs.Tokens.{classes_from, of_class, one_more}
use Rattle.cjc_components.specs.Exports.{open_methods}
use Rattle.cjc_vtable.proofs.ClassOrderStanding.{class_count-cons}

-- ---- those of a list that pass, by how many pass before them

count_next : {A : Type 0} (test : A → Bool) (x : A) (xs : List A) (b : Bool) (n : ℕ) → test x ≡ b → count_by test xs ≡ n
    → count_by test (x ∷ xs) ≡ cond b 1 0 + n
count_next test x xs b n e f = sum_by-cons (λ y. cond (test y) 1 0) x xs ∙ ap (λ c. cond c 1 0 + count_by test xs) e
    ∙ ap (λ m. cond b 1 0 + m) f

count_yes : {A : Type 0} (test : A → Bool) (x : A) (xs : List A) (n : ℕ) → test x ≡ true → count_by test xs ≡ n
    → count_by test (x ∷ xs) ≡ suc n
count_yes test x xs n e f = let s : 1 + n ≡ suc n = omega arith in count_next test x xs true n e f ∙ s

count_no : {A : Type 0} (test : A → Bool) (x : A) (xs : List A) (n : ℕ) → test x ≡ false → count_by test xs ≡ n
    → count_by test (x ∷ xs) ≡ n
count_no test x xs n e f = let s : 0 + n ≡ n = omega arith in count_next test x xs false n e f ∙ s

abbrev KeptAt : {A : Type 0} → (A → Bool) → List A → ℕ → A → Type 0
KeptAt test xs n x = (i : ℕ) × (slice_get xs i ≡ Some x) × (test x ≡ true) × (count_by test (take i xs) ≡ n)

pub kept_at : {A : Type 0} (test : A → Bool) (xs : List A) (n : ℕ) (x : A) → slice_get (filter test xs) n ≡ Some x
    → (i : ℕ) × (slice_get xs i ≡ Some x) × (test x ≡ true) × (count_by test (take i xs) ≡ n)
kept_at test [] n x e = absurd (cc)
kept_at test (y ∷ xs) n x e = by (test y) refl n e (λ k h. kept_at test xs k x h)
  where
    by : (b : Bool) → test y ≡ b → (n : ℕ) → slice_get (cond b (y ∷ filter test xs) (filter test xs)) n ≡ Some x
        → ((k : ℕ) → slice_get (filter test xs) k ≡ Some x → KeptAt test xs k x) → KeptAt test (y ∷ xs) n x
    by true g zero h rest = let is : y ≡ x = cc in (0, h, ap test (sym is) ∙ g, refl)
    by true g (suc n) h rest = let r = rest n h in (suc r.0, r.1, r.2, count_yes test y (take r.0 xs) n g r.3)
    by false g n h rest = let r = rest n h in (suc r.0, r.1, r.2, count_no test y (take r.0 xs) n g r.3)

-- an open method, by its place
abbrev pub OpenAt : Class → (from : ℕ) → List Member → (n : ℕ) → Found → Type 0
OpenAt c from ms n f = (i : ℕ) × (m : Member) × (slice_get ms i ≡ Some m) × (is_open_bound m ≡ true)
    × (count_by is_open_bound (take i ms) ≡ n) × (f ≡ member_at c (from + i))

pub open_at : (c : Class) (from : ℕ) (ms : List Member) (n : ℕ) (f : Found) → slice_get (open_methods c from ms) n
    ≡ Some f → OpenAt c from ms n f
open_at c from [] n f e = absurd (cc)
open_at c from (m ∷ ms) n f e = by (is_open_bound m) refl n e (λ k h. open_at c (from + 1) ms k f h)
  where
    by : (b : Bool) → is_open_bound m ≡ b → (n : ℕ) → slice_get ((if b then member_at c from ∷ [] else [])
        ++ open_methods c (from + 1) ms) n ≡ Some f
        → ((k : ℕ) → slice_get (open_methods c (from + 1) ms) k ≡ Some f → OpenAt c (from + 1) ms k f)
        → OpenAt c from (m ∷ ms) n f
    by true g zero h rest =
        let is : member_at c from ≡ f = cc in
        let z : from ≡ from + 0 = omega arith in
        (0, m, refl, g, refl, sym is ∙ ap (member_at c) z)
    by true g (suc n) h rest =
        let r = rest n h in
        let s : from + 1 + r.0 ≡ from + suc r.0 = omega arith in
        (suc r.0, r.1, r.2, r.3, count_yes is_open_bound m (take r.0 ms) n g r.4, r.5 ∙ ap (member_at c) s)
    by false g n h rest =
        let r = rest n h in
        let s : from + 1 + r.0 ≡ from + suc r.0 = omega arith in
        (suc r.0, r.1, r.2, r.3, count_no is_open_bound m (take r.0 ms) n g r.4, r.5 ∙ ap (member_at c) s)

-- ---- classes

module _ (w : List Class) (applets : Bool) where
  abbrev Row : (before k : ℕ) → List ClassTree → (n : ℕ) → Class → Type 0
  Row before k ts n c =
      (j : ℕ) × (t : ClassTree) × (slice_get ts j ≡ Some t) × (c ≡ declared (k + j) t)
      × (is_exported w applets c ≡ true) × (slice_get (classes_from w applets before k ts) j
      ≡ Some (of_class w applets (before + n) (k + j) t))

  exported_row : (before k : ℕ) (ts : List ClassTree) (n : ℕ) (c : Class)
      → slice_get (filter (is_exported w applets) (numbered_from k ts)) n ≡ Some c → Row before k ts n c
  unfolding classes_from
  exported_row before k [] n c e = absurd (cc)
  exported_row before k (t ∷ ts) n c e = by (is_exported w applets (declared k t)) refl n e (λ b m h. exported_row b
      (k + 1) ts m c h)
    where
      -- from one behind the first
      later : (b m n : ℕ) → one_more (is_exported w applets (declared k t)) before ≡ b → b + m ≡ before + n
          → Row b (k + 1) ts m c → Row before k (t ∷ ts) n c
      later b m n e f r =
          let s : k + 1 + r.0 ≡ k + suc r.0 = omega arith in (
            suc r.0,
            r.1,
            r.2,
            r.3 ∙ ap (λ q. declared q r.1) s,
            r.4,
            ap (λ q. slice_get (classes_from w applets q (k + 1) ts) r.0) e ∙ r.5
                ∙ ap (λ q. Some (of_class w applets q (k + 1 + r.0) r.1)) f
                ∙ ap (λ q. Some (of_class w applets (before + n) q r.1)) s,
          )

      by : (b : Bool) → is_exported w applets (declared k t) ≡ b → (n : ℕ)
          → slice_get (cond b (declared k t ∷ filter (is_exported w applets) (numbered_from (k + 1) ts))
          (filter (is_exported w applets) (numbered_from (k + 1) ts))) n ≡ Some c
          → ((b m : ℕ) → slice_get (filter (is_exported w applets) (numbered_from (k + 1) ts)) m ≡ Some c
          → Row b (k + 1) ts m c) → Row before k (t ∷ ts) n c
      by true g zero h rest =
          let is : declared k t ≡ c = cc in
          let z : k ≡ k + 0 = omega arith in
          let zb : before ≡ before + 0 = omega arith in (
            0,
            t,
            refl,
            sym is ∙ ap (λ q. declared q t) z,
            ap (is_exported w applets) (sym is)
                ∙ g,
            ap (λ q. Some (of_class w applets q k t)) zb ∙ ap (λ q. Some (of_class w applets (before + 0) q t))
                z,
          )
      by true g (suc n) h rest = later (before + 1) n (suc n) (ap (λ b. one_more b before) g) (omega arith)
          (rest (before + 1) n h)
      by false g n h rest = later before n n (ap (λ b. one_more b before) g) refl (rest before n h)

-- ---- the classes of the package among all

abbrev is_own : Class → Bool
is_own c = not c.is_imported

filter_both : {A : Type 0} (p q : A → Bool) (xs : List A) → filter (λ x. p x && q x) xs ≡ filter q (filter p xs)
filter_both p q [] = refl
filter_both p q (x ∷ xs) = by (p x) (filter_both p q xs)
  where
    by : (b : Bool) → filter (λ y. p y && q y) xs ≡ filter q (filter p xs)
        → cond (b && q x) (x ∷ filter (λ y. p y && q y) xs) (filter (λ y. p y && q y) xs)
        ≡ filter q (cond b (x ∷ filter p xs) (filter p xs))
    by true h = ap (λ ys. cond (q x) (x ∷ ys) ys) h
    by false h = h

no-own : (n : ℕ) (cs : List ExportClass) → filter is_own (numbered n cs) ≡ []
no-own n [] = refl
no-own n (c ∷ cs) = no-own (n + 1) cs

no-own-file : (n : ℕ) (o : Option ExportTree) → filter is_own (of_export_file n o) ≡ []
no-own-file n None = refl
no-own-file n (Some t) = no-own n t.classes

module _ (trees : List ClassTree) (exports : List ExportTree) where
  abbrev from_lines : (c e i : ℕ) → List FileLine → List Class
  from_lines c e i lines = worlds.classes_from trees exports c e i lines

  own-lines : (c e i : ℕ) (lines : List FileLine) → length trees ≤ c + class_count lines
      → filter is_own (from_lines c e i lines) ≡ numbered_from c (drop c trees)
  unfolding worlds.classes_from
  own-lines c e i [] le = ap (numbered_from c) (sym (drop_past trees c (omega (arith, le))))
  own-lines c e i (line ∷ lines) le =
      by line.class_file (subst (λ q. length trees ≤ c + q) (class_count-cons line lines) le) (own-lines (c + 1) e i
      lines) (own-lines c (e + 1) (i + size (slice_get exports e)) lines)
    where
      at : (o : Option ClassTree) → slice_get trees c ≡ o → filter is_own (from_lines (c + 1) e i lines)
          ≡ numbered_from (c + 1) (drop (c + 1) trees) → filter is_own (of_class_file c o
          ++ from_lines (c + 1) e i lines) ≡ numbered_from c (drop c trees)
      at None f rest = let q = get_past trees c f in rest ∙ ap (numbered_from (c + 1)) q.1 ∙ ap (numbered_from c)
          (sym q.0)
      at (Some t) f rest = ap (λ q. declared c t ∷ q) rest ∙ ap (numbered_from c) (sym (drop_at trees c t f))

      by : (b : Bool) → length trees ≤ c + (cond b 1 0 + class_count lines)
          → (length trees ≤ c + 1 + class_count lines → filter is_own (from_lines (c + 1) e i lines)
          ≡ numbered_from (c + 1) (drop (c + 1) trees))
          → (length trees ≤ c + class_count lines → filter is_own (from_lines c (e + 1) (i + size (slice_get exports e))
          lines) ≡ numbered_from c (drop c trees))
          → filter is_own (if b then of_class_file c (slice_get trees c) ++ from_lines (c + 1) e i lines
          else of_export_file i (slice_get exports e) ++ from_lines c (e + 1) (i + size (slice_get exports e))
          lines) ≡ numbered_from c (drop c trees)
      by true h f g = at (slice_get trees c) refl (f (omega (arith, h)))
      by false h f g =
          filter-append is_own (of_export_file i (slice_get exports e))
          (from_lines c (e + 1) (i + size (slice_get exports e)) lines)
          ∙ ap (λ r. r ++ filter is_own (from_lines c (e + 1) (i + size (slice_get exports e)) lines))
          (no-own-file i (slice_get exports e))
          ∙ g (omega (arith, h))

-- an exported class by its place among them
pub exported_at : (files : Files) (applets : Bool) (n : ℕ) (c : Class) → length files.classes ≤ class_count files.lines
    → slice_get (filter (λ (d : Class). not d.is_imported && is_exported (all_classes files) applets d)
    (all_classes files)) n ≡ Some c
    → (j : ℕ) × (t : ClassTree) × (slice_get files.classes j ≡ Some t) × (c ≡ declared j t)
    × (is_exported (all_classes files) applets (declared j t) ≡ true)
    × (slice_get (classes_from (all_classes files) applets 0 0 files.classes) j
    ≡ Some (of_class (all_classes files) applets n j t))
unfolding all_classes
exported_at files applets n c listed e =
    let w = all_classes files in
    let own : filter is_own w ≡ numbered_from 0 files.classes = own-lines files.classes files.exports 0 0 0 files.lines
    (omega (arith, listed)) in
    let all = filter_both is_own (is_exported w applets) w ∙ ap (filter (is_exported w applets)) own in
    let r = exported_row w applets 0 0 files.classes n c (ap (λ cs. slice_get cs n) (sym all) ∙ e) in
    let z : 0 + r.0 ≡ r.0 = omega arith in
    let zn : 0 + n ≡ n = omega arith in
    let is = r.3 ∙ ap (λ q. declared q r.1) z in (
      r.0,
      r.1,
      r.2,
      is,
      ap (is_exported w applets) (sym is) ∙ r.4,
      r.5
          ∙ ap (λ q. Some (of_class w applets q (0 + r.0) r.1)) zn ∙ ap (λ q. Some (of_class w applets n q r.1)) z,
    )
