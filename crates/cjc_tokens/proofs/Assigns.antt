-- Walks over the classes of a package and of its export files, one further.
use Rattle.std.proofs.Common.{◌≡◌, ℕ, zero, suc, ◌+◌, ◌<◌, ◌≤◌, refl, sym, ap, subst, ◌∙◌, inl, inr, ⊎_elim, Bool, true}
use Rattle.std.proofs.Common.{false, List, [], ◌∷◌, ◌++◌, length, drop, get_or, arith, append_assoc, append-nil}
use Rattle.std.specs.Prelude.{map, Option, Some, None, All, if◌then◌else◌}
use Rattle.std.proofs.lemmas.Bool.{cases_lt}
use Rattle.std.proofs.lemmas.Option.{get_or_from_slice_get}
use Rattle.cjc_bytes.specs.Order.{NotAfter, FilePlace, file_from, file_number, file_of}
use Rattle.cjc_bytes.specs.declared.order.FileKey.TheVariants as keys
use Rattle.cjc_bytes.specs.declared.settings.FileLine.{FileLine}
use Rattle.cjc_world.specs.ClassFile.declared.tree.ClassTree.{ClassTree}
use Rattle.cjc_world.specs.ExportFile.declared.tree.ExportTree.{ExportTree}
use Rattle.cjc_world.specs.Classes.{Class, declared}
use Rattle.cjc_world.specs.Files.{Files}
use Rattle.cjc_bytes.specs.Breaks.{Break, Among, foremost, after, IsFirst}
use Rattle.cjc_bytes.proofs.Gets.{drop_next, drop_past}
use Rattle.cjc_tokens.specs.declared.slot.Rows.{Rows}
use Rattle.cjc_world.specs.Exported.{is_exported}
use Rattle.cjc_tokens.specs.Tokens.{OfClass, of_class, one_more, classes_from, of_import, imports_of}
use Rattle.cjc_tokens.specs.Rules.{count_exported, has_high_token, at_class, breaks_where, breaks_from, is_few}
use Rattle.cjc_tokens.specs.Rules.{tested_breaks, token_breaks}
use Rattle.cjc_tokens.specs.Working.{IsKept}

-- ---- the file of a class

abbrev placed : ℕ → FileLine → FilePlace
placed n line = record { key = keys.Line n; name = line.name }

file-none : (n k : ℕ) → file_from n [] k ≡ record { key = keys.Line n; name = [] }
file-none n zero = refl
file-none n (suc k) = refl

-- Files of later classes don't stand before those of earlier ones.
lower-if : (b : Bool) (n : ℕ) (x y : FilePlace) → n < file_number x.key → n < file_number y.key
    → n < file_number (if b then x else y).key
lower-if true n x y h k = h
lower-if false n x y h k = k

upto-if : (b : Bool) (x y x' y' : FilePlace) → file_number x.key ≤ file_number x'.key
    → file_number y.key ≤ file_number y'.key → file_number (if b then x else y).key ≤ file_number (if b then x'
    else y').key
upto-if true x y x' y' h k = h
upto-if false x y x' y' h k = k

behind : (n : ℕ) (lines : List FileLine) (k : ℕ) → n < file_number (file_from n lines k).key
behind n [] zero = omega arith
behind n [] (suc k) = omega arith
behind n (line ∷ lines) zero =
    let h : n + 1 < file_number (file_from (n + 1) lines zero).key = behind (n + 1) lines zero in
    lower-if line.class_file n (placed n line) (file_from (n + 1) lines zero) (omega arith) (omega (arith, h))
behind n (line ∷ lines) (suc k) =
    let h : n + 1 < file_number (file_from (n + 1) lines k).key = behind (n + 1) lines k in
    let g : n + 1 < file_number (file_from (n + 1) lines (suc k)).key = behind (n + 1) lines (suc k) in
    lower-if line.class_file n (file_from (n + 1) lines k) (file_from (n + 1) lines (suc k)) (omega (arith, h))
    (omega (arith, g))

upwards : (n : ℕ) (lines : List FileLine) (k j : ℕ) → k ≤ j → file_number (file_from n lines k).key ≤ file_number
    (file_from n lines j).key
upwards n [] k j le = subst (λ m. m ≤ file_number (file_from n [] j).key)
    (sym (ap (λ (p : FilePlace). file_number p.key) (file-none n k))) (subst (λ m. n + 1 ≤ m)
    (sym (ap (λ (p : FilePlace). file_number p.key) (file-none n j))) (omega arith))
upwards n (line ∷ lines) zero zero le = omega arith
upwards n (line ∷ lines) zero (suc j) le =
    let h : n + 1 < file_number (file_from (n + 1) lines j).key = behind (n + 1) lines j in
    upto-if line.class_file (placed n line) (file_from (n + 1) lines zero) (file_from (n + 1) lines j)
    (file_from (n + 1) lines (suc j)) (omega (arith, h)) (upwards (n + 1) lines zero (suc j) (omega arith))
upwards n (line ∷ lines) (suc k) zero le = absurd (omega arith)
upwards n (line ∷ lines) (suc k) (suc j) le =
    upto-if line.class_file (file_from (n + 1) lines k) (file_from (n + 1) lines (suc k)) (file_from (n + 1) lines j)
    (file_from (n + 1) lines (suc j)) (upwards (n + 1) lines k j (omega arith)) (upwards (n + 1) lines (suc k)
    (suc j) le)

-- ---- rows of slots

pub kept-none : (w : List Class) (trees : List ClassTree) (kept : List (Option Rows)) → All (λ r. r ≡ None) kept
    → IsKept w trees kept
kept-none w trees kept all n c r there e = absurd (no (get_or_from_slice_get kept n (Some r) None e)
    (all-at kept n all))
  where
    all-at : (rows : List (Option Rows)) (i : ℕ) → All (λ r. r ≡ None) rows → get_or rows i None ≡ None
    all-at [] i a = refl
    all-at (x ∷ xs) zero a = a 0 None (omega arith)
    all-at (x ∷ xs) (suc i) a = all-at xs i (λ j d lt. a (suc j) d (omega arith))

    no : get_or kept n None ≡ Some r → get_or kept n None ≡ None → ⊥
    no a b = cc

-- ---- tokens of export files

pub imports-next : (ts : List ExportTree) (i : ℕ) (t : ExportTree) (old new rows : List (List (Option ℕ)))
    → i < length ts → t ≡ get_or ts i t → new ≡ old ++ map of_import t.classes → old ++ imports_of (drop i ts) ≡ rows
    → new ++ imports_of (drop (i + 1) ts) ≡ rows
imports-next ts i t old new rows lt is e inv =
    ap (λ q. q ++ imports_of (drop (i + 1) ts)) e
    ∙ append_assoc old (map of_import t.classes) (imports_of (drop (i + 1) ts))
    ∙ ap (λ q. old ++ imports_of q) (sym (drop_next ts i t lt is)) ∙ inv

pub imports-end : (ts : List ExportTree) (i : ℕ) (old rows : List (List (Option ℕ))) → length ts ≤ i
    → old ++ imports_of (drop i ts) ≡ rows → old ≡ rows
imports-end ts i old rows le inv = sym (append-nil old) ∙ ap (λ q. old ++ imports_of q) (sym (drop_past ts i le)) ∙ inv

-- ---- tokens of the package

module _ (w : List Class) (applets : Bool) (cs : List ClassTree) (k : ℕ) where
  pub classes-next : (c : ClassTree) (before : ℕ) (exported : Bool) (t : OfClass) (old new all : List OfClass)
      → k < length cs → c ≡ get_or cs k c → is_exported w applets (declared k c) ≡ exported
      → t ≡ of_class w applets before k c → new ≡ old ++ t ∷ [] → old ++ classes_from w applets before k (drop k cs)
      ≡ all
      → new ++ classes_from w applets (one_more exported before) (k + 1) (drop (k + 1) cs) ≡ all
  unfolding classes_from
  classes-next c before exported t old new all lt is x e n inv =
      ap (λ q. q ++ classes_from w applets (one_more exported before) (k + 1) (drop (k + 1) cs)) n
      ∙ append_assoc old (t ∷ []) (classes_from w applets (one_more exported before) (k + 1) (drop (k + 1) cs))
      ∙ ap (λ b. old ++ t ∷ classes_from w applets (one_more b before) (k + 1) (drop (k + 1) cs)) (sym x)
      ∙ ap (λ q. old ++ q ∷ classes_from w applets (one_more (is_exported w applets (declared k c)) before) (k + 1)
      (drop (k + 1) cs)) e
      ∙ ap (λ q. old ++ classes_from w applets before k q) (sym (drop_next cs k c lt is)) ∙ inv

  pub classes-end : (before : ℕ) (old all : List OfClass) → length cs ≤ k
      → old ++ classes_from w applets before k (drop k cs) ≡ all → old ≡ all
  unfolding classes_from
  classes-end before old all le inv = sym (append-nil old) ∙ ap (λ q. old ++ classes_from w applets before k q)
      (sym (drop_past cs k le)) ∙ inv

  pub exported-next : (c : ClassTree) (before all : ℕ) (exported : Bool) → k < length cs → c ≡ get_or cs k c
      → is_exported w applets (declared k c) ≡ exported
      → before + count_exported w applets k (drop k cs) ≡ all → one_more exported before + count_exported w applets
      (k + 1) (drop (k + 1) cs) ≡ all
  exported-next c before all exported lt is x inv =
      more exported before (count_exported w applets (k + 1) (drop (k + 1) cs))
      ∙ ap (λ b. before + one_more b (count_exported w applets (k + 1) (drop (k + 1) cs))) (sym x)
      ∙ ap (λ q. before + count_exported w applets k q) (sym (drop_next cs k c lt is)) ∙ inv
    where
      more : (b : Bool) (n m : ℕ) → one_more b n + m ≡ n + one_more b m
      more true n m = omega arith
      more false n m = refl

  pub exported-few : (c : ClassTree) (before all : ℕ) → k < length cs → c ≡ get_or cs k c
      → is_exported w applets (declared k c) ≡ true
      → before + count_exported w applets k (drop k cs) ≡ all → all ≤ 255 → before < 255
  exported-few c before all lt is x inv few =
      let e : before + 1 + count_exported w applets (k + 1) (drop (k + 1) cs) ≡ all = exported-next c before all true lt
      is x inv in
      omega (arith, e, few)

  module _ (lines : List FileLine) where
    pub breaks-next : (c : ClassTree) (all : List Break) → k < length cs → c ≡ get_or cs k c
        → has_high_token w (is_exported w applets (declared k c)) k c ≡ false
        → breaks_from w applets lines k (drop k cs) ≡ all → breaks_from w applets lines (k + 1) (drop (k + 1) cs) ≡ all
    unfolding breaks_from
    breaks-next c all lt is none inv =
        ap (λ b. breaks_where b (at_class (file_of lines k) c.name) ++ breaks_from w applets lines (k + 1)
        (drop (k + 1) cs)) (sym none)
        ∙ ap (breaks_from w applets lines k) (sym (drop_next cs k c lt is)) ∙ inv

    pub breaks-end : (all : List Break) → length cs ≤ k → breaks_from w applets lines k (drop k cs) ≡ all → all ≡ []
    unfolding breaks_from
    breaks-end all le inv = sym inv ∙ ap (breaks_from w applets lines k) (drop_past cs k le)

    order : (x y : ℕ) → x ≤ y → NotAfter (record {
      family = 4;
      file = x;
      class = 1;
      member = 0;
      offset = 0;
      rule = 413;
    }) (record { family = 4; file = y; class = 1; member = 0; offset = 0; rule = 413 })
    order x y h =
        inr (
          refl,
          ⊎_elim (λ lt. inl lt) (λ ge. inr (
            omega (arith, h, ge),
            inr (refl, inr (refl, inr (refl, inr (refl, tt)))),
          )) (cases_lt x y),
        )

    or-later : (x a b : Break) (bs : List Break) (h : Bool) → NotAfter x.rank b.rank
        → (Among a bs → NotAfter x.rank a.rank) → Among a (breaks_where h b ++ bs) → NotAfter x.rank a.rank
    or-later x a b bs true now later foremost = now
    or-later x a b bs true now later (after among) = later among
    or-later x a b bs false now later among = later among

    not-after : (name : List ℕ) (j : ℕ) (rest : List ClassTree) → k ≤ j → (a : Break)
        → Among a (breaks_from w applets lines j rest) → NotAfter (at_class (file_of lines k) name).rank a.rank
    unfolding breaks_from
    not-after name j [] le a among = elim among [ ]
    not-after name j (c ∷ rest) le a among =
        or-later (at_class (file_of lines k) name) a (at_class (file_of lines j) c.name) (breaks_from w applets lines
        (j + 1) rest) (has_high_token w (is_exported w applets (declared j c)) j c)
        (order (file_number (file_of lines k).key) (file_number (file_of lines j).key) (upwards 0 lines k j le))
        (not-after name (j + 1) rest (omega arith) a) among

    pub breaks-first : (c : ClassTree) (all : List Break) → k < length cs → c ≡ get_or cs k c
        → has_high_token w (is_exported w applets (declared k c)) k c ≡ true
        → breaks_from w applets lines k (drop k cs) ≡ all → IsFirst (at_class (file_of lines k) c.name) all
    unfolding breaks_from
    breaks-first c all lt is high inv = subst (IsFirst b) whole first
      where
        b : Break
        b = at_class (file_of lines k) c.name

        rest : List Break
        rest = breaks_from w applets lines (k + 1) (drop (k + 1) cs)

        whole : b ∷ rest ≡ all
        whole = ap (λ q. breaks_where q b ++ rest) (sym high)
            ∙ ap (breaks_from w applets lines k) (sym (drop_next cs k c lt is)) ∙ inv

        first : IsFirst b (b ∷ rest)
        first = record {
          among = foremost;
          least = λ a. or-later b a b rest true (order (file_number (file_of lines k).key)
              (file_number (file_of lines k).key) (omega arith)) (not-after c.name (k + 1) (drop (k + 1) cs)
              (omega arith) a);
        }

-- ---- where 401 or 406 is broken, 413 is not tested

pub tested-few : (applets : Bool) (files : Files) → is_few applets files ≡ true → tested_breaks applets files
    ≡ token_breaks applets files
unfolding tested_breaks
tested-few applets files e = ap (λ b. if b then token_breaks applets files else []) e

pub tested-many : (applets : Bool) (files : Files) → is_few applets files ≡ false → tested_breaks applets files ≡ []
unfolding tested_breaks
tested-many applets files e = ap (λ b. if b then token_breaks applets files else []) e
