-- Reading one class file after the other.
use Rattle.std.proofs.Common.{◌≡◌, ℕ, ◌+◌, ◌<◌, ◌≤◌, true, false, List, [], ◌∷◌, ◌++◌, Bool, Some, Err, inl, inr, length, drop, get_or, refl, sym, ap, subst, ◌∙◌, append_assoc, append-nil, add-one, arith}
use Rattle.std.specs.Prelude.{slice_get}
use Rattle.std.proofs.Math.Seq.{drop-cons}
use Rattle.std.proofs.lemmas.List.{drop_all}
use Rattle.std.proofs.lemmas.Option.{slice_get-get_or}
use borrow.Author.Count.{below_more}
use Rattle.cjc_bytes.specs.Refused.{IsBreak}
use Rattle.cjc_bytes.specs.declared.fault.Fault.{Fault}
use Rattle.cjc_bytes.specs.Format.{FileSpells}
use Rattle.cjc_bytes.specs.declared.settings.FileLine.{FileLine}
use Rattle.cjc_classfile.specs.ClassFile.{class_file, refusal_at}
use Rattle.cjc_classfile.specs.declared.tree.ClassTree.{ClassTree}
use Rattle.cjc_convert.specs.Conversion.{AllSpelt, SpeltStep, IsFine, ReadsClasses}

-- Whatever the files that are left spell, all spell with what was read before.
abbrev pub GoesBack : List FileLine → List (List ℕ) → List ClassTree → ℕ → Type 0
GoesBack lines files trees i = (more : List ClassTree) → AllSpelt (drop i lines) (drop i files) more → AllSpelt lines files (trees ++ more)

step_class : (line : FileLine) (lines : List FileLine) (bytes : List ℕ) (files : List (List ℕ)) (tree : ClassTree) (trees : List ClassTree)
    → line.class_file ≡ true → FileSpells class_file tree bytes → AllSpelt lines files trees → AllSpelt (line ∷ lines) (bytes ∷ files) (tree ∷ trees)
step_class line lines bytes files tree trees is spelt rest = subst (λ (b : Bool). SpeltStep b bytes (AllSpelt lines files) (tree ∷ trees)) (sym is) (spelt, rest)

step_other : (line : FileLine) (lines : List FileLine) (bytes : List ℕ) (files : List (List ℕ)) (trees : List ClassTree)
    → line.class_file ≡ false → AllSpelt lines files trees → AllSpelt (line ∷ lines) (bytes ∷ files) trees
step_other line lines bytes files trees is rest = subst (λ (b : Bool). SpeltStep b bytes (AllSpelt lines files) trees) (sym is) rest

next : {A : Type 0} (xs : List A) (i : ℕ) (d : A) → i < length xs → drop i xs ≡ get_or xs i d ∷ drop (i + 1) xs
next xs i d lt = rw add-one (drop-cons xs i d lt)

pub back_class : (lines : List FileLine) (files : List (List ℕ)) (trees : List ClassTree) (i : ℕ) (line : FileLine) (bytes : List ℕ) (tree : ClassTree)
    → i < length lines → i < length files → line ≡ get_or lines i line → bytes ≡ get_or files i bytes → line.class_file ≡ true → FileSpells class_file tree bytes
    → GoesBack lines files trees i → GoesBack lines files (trees ++ tree ∷ []) (i + 1)
back_class lines files trees i line bytes tree a b is_line is_file is spelt back more h =
    let l : drop i lines ≡ line ∷ drop (i + 1) lines = next lines i line a ∙ ap (λ x. x ∷ drop (i + 1) lines) (sym is_line) in
    let f : drop i files ≡ bytes ∷ drop (i + 1) files = next files i bytes b ∙ ap (λ x. x ∷ drop (i + 1) files) (sym is_file) in
    let all = step_class line (drop (i + 1) lines) bytes (drop (i + 1) files) tree more is spelt h in
    let here = subst (λ (ls : List FileLine). AllSpelt ls (drop i files) (tree ∷ more)) (sym l) (subst (λ (fs : List (List ℕ)). AllSpelt (line ∷ drop (i + 1) lines) fs (tree ∷ more)) (sym f) all) in
    subst (λ (ts : List ClassTree). AllSpelt lines files ts) (sym (append_assoc trees (tree ∷ []) more)) (back (tree ∷ more) here)

pub back_other : (lines : List FileLine) (files : List (List ℕ)) (trees : List ClassTree) (i : ℕ) (line : FileLine)
    → i < length lines → length files ≡ length lines → line ≡ get_or lines i line → line.class_file ≡ false
    → GoesBack lines files trees i → GoesBack lines files trees (i + 1)
back_other lines files trees i line a count is_line is back more h =
    let bytes = get_or files i [] in
    let l : drop i lines ≡ line ∷ drop (i + 1) lines = next lines i line a ∙ ap (λ x. x ∷ drop (i + 1) lines) (sym is_line) in
    let f : drop i files ≡ bytes ∷ drop (i + 1) files = next files i [] (omega arith) in
    let all = step_other line (drop (i + 1) lines) bytes (drop (i + 1) files) more is h in
    back more (subst (λ (ls : List FileLine). AllSpelt ls (drop i files) more) (sym l) (subst (λ (fs : List (List ℕ)). AllSpelt (line ∷ drop (i + 1) lines) fs more) (sym f) all))

pub back_end : (lines : List FileLine) (files : List (List ℕ)) (trees : List ClassTree) (i : ℕ) → length lines ≤ i → GoesBack lines files trees i → AllSpelt lines files trees
back_end lines files trees i le back =
    let h : AllSpelt (drop i lines) (drop i files) [] = rw (drop_all i lines le) refl in
    subst (λ (ts : List ClassTree). AllSpelt lines files ts) (append-nil trees) (back [] h)

pub fine_class : (lines : List FileLine) (files : List (List ℕ)) (i : ℕ) (line : FileLine) (bytes : List ℕ) (tree : ClassTree)
    → slice_get files i ≡ Some bytes → FileSpells class_file tree bytes → IsFine lines files i
fine_class lines files i line bytes tree is_file spelt other more e f c =
    let same : bytes ≡ more = cc in
    (tree, subst (λ (b : List ℕ). FileSpells class_file tree b) same spelt)

pub fine_other : (lines : List FileLine) (files : List (List ℕ)) (i : ℕ) (line : FileLine) → slice_get lines i ≡ Some line → line.class_file ≡ false → IsFine lines files i
fine_other lines files i line is_line is other bytes e f c =
    let same : line ≡ other = cc in
    let no : false ≡ true = sym is ∙ ap (λ (l : FileLine). l.class_file) same ∙ c in
    absurd cc

pub stops_at : (lines : List FileLine) (files : List (List ℕ)) (i : ℕ) (line : FileLine) (bytes : List ℕ) (e : Fault)
    → slice_get lines i ≡ Some line → slice_get files i ≡ Some bytes → line.class_file ≡ true → ((j : ℕ) → j < i → IsFine lines files j)
    → IsBreak class_file bytes (refusal_at line.name bytes) e → ReadsClasses lines files (Err e)
stops_at lines files i line bytes e is_line is_file is fine stop = elim stop [
  | inl memory ↦ subst (λ (f : Fault). ReadsClasses lines files (Err f)) (sym memory) tt
  | inr (k, breaks, refused) ↦ subst (λ (f : Fault). ReadsClasses lines files (Err f)) (sym refused) (record {
    index = i;
    place = k;
    broken = record { line = line; bytes = bytes; is_line = is_line; is_class = is; is_file = is_file; breaks = breaks };
    is = refl;
    before = fine;
  })
]

-- the item at an index below the length
pub item_at : {A : Type 0} (xs : List A) (i : ℕ) (x : A) → i < length xs → x ≡ get_or xs i x → slice_get xs i ≡ Some x
item_at xs i x lt is = slice_get-get_or xs i x lt ∙ ap Some (sym is)

pub fine_more : (lines : List FileLine) (files : List (List ℕ)) (i : ℕ) → ((j : ℕ) → j < i → IsFine lines files j) → IsFine lines files i → (j : ℕ) → j < i + 1 → IsFine lines files j
fine_more lines files i below here = below_more (IsFine lines files) i below here
