-- Reading one file after the other.
use Rattle.std.proofs.Common.{◌≡◌, Ok, ℕ, zero, suc, ◌+◌, ◌<◌, ◌≤◌, ◌⊎◌, ⊎_elim, Bool, true, false, List, [], ◌∷◌, ◌++◌}
use Rattle.std.proofs.Common.{Result, Err, inl, inr, length, take, get_or, refl, sym, ap, subst, ◌∙◌}
use Rattle.std.proofs.Common.{append_assoc, append-nil, add-zero, length-append, arith, Fits, w8}
use Rattle.std.specs.Prelude.{slice_get}
use Rattle.std.proofs.lemmas.Bool.{cases_lt}
use Rattle.std.proofs.lemmas.List.{take_all}
use Rattle.cjc_bytes.specs.Refused.{IsBreak, refusal}
use Rattle.cjc_bytes.specs.declared.fault.Fault.{Fault}
use Rattle.cjc_bytes.specs.declared.fault.Fault.TheVariants as faults
use Rattle.cjc_bytes.specs.declared.fault.Refusal.{Refusal}
use Rattle.cjc_bytes.specs.Format.{FileSpells, FileBreaks}
use Rattle.cjc_bytes.specs.declared.settings.FileLine.{FileLine}
use Rattle.cjc_bytes.proofs.Laws.{one_value, one_place, spelt_or_broken}
use Rattle.cjc_bytes.proofs.Inverse.{InBytes}
use Rattle.cjc_world.specs.ClassFile.ClassFile.{class_file, refusal_at}
use Rattle.cjc_world.specs.ClassFile.Fits.{ClassFits}
use Rattle.cjc_world.specs.ClassFile.declared.tree.ClassTree.{ClassTree}
use Rattle.cjc_world.proofs.ClassFileFitting.{spelt_fits}
use Rattle.cjc_bytes.specs.declared.breaks.BrokenAt.{BrokenAt}
use Rattle.cjc_clinit.specs.Bytecode.declared.method_code.MethodCode.{MethodCode}
use Rattle.cjc_world.specs.ExportFile.ExportFile.{export_file}
use Rattle.cjc_world.specs.ExportFile.Writable.{IsWritable}
use Rattle.cjc_world.specs.ExportFile.declared.tree.ExportTree.{ExportTree}
use Rattle.cjc_clinit.specs.Bytecode.declared.insn.JInsn.{JInsn}
use Rattle.cjc_clinit.specs.Bytecode.PackageCodes.{code_with, of_methods, of_classes}
use Rattle.cjc_judge.specs.Codes.{unsupported_with}
use Rattle.cjc_judge.specs.declared.reading.UnsupportedInsn.{UnsupportedInsn}
use Rattle.cjc_bytes.specs.Order.{NotAfter}
use Rattle.cjc_bytes.specs.Breaks.{Break}
use Rattle.cjc_bytes.proofs.Plain.{the_same, no_true}
use Rattle.cjc_bytes.proofs.Gets.{slice_get_at}
use Rattle.cjc_judge.specs.Spelt.{FileTree, of_class, of_export, classes_of, exports_of}
use Rattle.cjc_judge.specs.Rules.{CodeBreaks, method_rank, FileBreach, no_class_file, no_instructions, no_export_file}
use Rattle.cjc_judge.specs.Rules.{file_rank, file_break, FileAt, BreaksFile, IsFirstRefused}
use Rattle.cjc_judge.specs.declared.reading.Trees.{Trees}
use Rattle.cjc_judge.specs.Trees.{FileIs, AllSpelt}
use Rattle.cjc_judge.specs.Working.Reading.{IsReadAs, FirstIn, DecodesClass, IsFirstInFile, ReadsFile, ReadsFiles}
use Rattle.cjc_judge.proofs.Items.{front_more}

-- ---- one file

-- a file that is read breaks no rule of the first hundred
pub fine : (line : FileLine) (bytes : List ℕ) (tree : FileTree) → FileIs line bytes tree → FileBreach line bytes → ⊥
fine line bytes (of_class tree) (is, spelt, whole, fits) (no_class_file place c breaks) =
    spelt_or_broken class_file bytes tree place spelt breaks
fine line bytes (of_class tree) (is, spelt, whole, fits) (no_instructions other method offset c again breaks) =
    let same : other ≡ tree = one_value class_file bytes other tree again spelt in
    whole method offset (subst (λ (t : ClassTree). CodeBreaks t method 103 offset) same breaks)
fine line bytes (of_class tree) (is, spelt, whole, fits) (no_export_file place c breaks) = no_true line is c
fine line bytes (of_export tree) (is, spelt, fits) (no_class_file place c breaks) = no_true line c is
fine line bytes (of_export tree) (is, spelt, fits) (no_instructions other method offset c again breaks) =
    no_true line c is
fine line bytes (of_export tree) (is, spelt, fits) (no_export_file place c breaks) =
    spelt_or_broken export_file bytes tree place spelt breaks

-- an answer that memory ran out, or that the first rule of the file is broken
stops : (line : FileLine) (bytes : List ℕ) (old new : Trees) (e : Fault) → (e ≡ faults.NoMemory)
    ⊎ ((r : Refusal) × (e ≡ faults.Refused r) × IsFirstInFile line bytes r) → ReadsFile line bytes old new (Err e)
stops line bytes old new e (inl memory) = subst (λ (f : Fault). ReadsFile line bytes old new (Err f)) (sym memory) tt
stops line bytes old new e (inr (r, is, first)) = subst (λ (f : Fault). ReadsFile line bytes old new (Err f)) (sym is)
    first

class_first : (line : FileLine) (bytes : List ℕ) (k : ℕ) (is : line.class_file ≡ true) (breaks : FileBreaks class_file
    bytes k) (index : ℕ) (other : FileBreach line bytes)
    → NotAfter (file_rank index line bytes (no_class_file k is breaks)) (file_rank index line bytes other)
class_first line bytes k is breaks index (no_class_file place c other) =
    let same : k ≡ place = one_place class_file bytes k place breaks other in
    inr (
      refl,
      inr (
        refl,
        inr (
          refl,
          inr (
            refl,
            inr (
              same,
              inr (
                ap (λ n. (refusal_at line.name bytes n).rule.0) same,
                tt,
              ),
            ),
          ),
        ),
      ),
    )
class_first line bytes k is breaks index (no_instructions tree method offset c spelt other) =
    absurd (spelt_or_broken class_file bytes tree k spelt breaks)
class_first line bytes k is breaks index (no_export_file place c other) = no_true line is c

export_first : (line : FileLine) (bytes : List ℕ) (k : ℕ) (is : line.class_file ≡ false)
    (breaks : FileBreaks export_file bytes k) (index : ℕ) (other : FileBreach line bytes)
    → NotAfter (file_rank index line bytes (no_export_file k is breaks)) (file_rank index line bytes other)
export_first line bytes k is breaks index (no_class_file place c other) = no_true line c is
export_first line bytes k is breaks index (no_instructions tree method offset c spelt other) = no_true line c is
export_first line bytes k is breaks index (no_export_file place c other) =
    let same : k ≡ place = one_place export_file bytes k place breaks other in
    inr (refl, inr (refl, inr (refl, inr (refl, inr (same, inr (refl, tt))))))

same_offset : (tree : ClassTree) (method rule a b : ℕ) → CodeBreaks tree method rule a → CodeBreaks tree method rule b
    → a ≡ b
same_offset tree method rule a b e f =
    let same : record { rule = rule; offset = a } ≡ record { rule = rule; offset = b } = (let g = sym e ∙ f in cc) in
    ap (λ (x : BrokenAt). x.offset) same

compared : (a b : ℕ) → (b < a) ⊎ ((a ≡ b) ⊎ (a < b))
compared a b = ⊎_elim (λ before. inl before) (λ not. ⊎_elim (λ later. inr (inr later)) (λ no. inr (inl (omega arith)))
    (cases_lt a b)) (cases_lt b a)

-- of two methods the earlier one decides, and of one the one offset that it has
method_first : (file : List ℕ) (tree : ClassTree) (rule : ℕ) (r : Refusal) (f : FirstIn file tree rule r) (k other : ℕ)
    → CodeBreaks tree k rule other
    → (f.method < k) ⊎ ((f.method ≡ k) × (f.breaks.0 ≡ other))
method_first file tree rule r f k other breaks = by (compared f.method k)
  where
    by : (k < f.method) ⊎ ((f.method ≡ k) ⊎ (f.method < k)) → (f.method < k) ⊎ ((f.method ≡ k) × (f.breaks.0 ≡ other))
    by (inl before) = absurd (f.first k other before breaks)
    by (inr (inl same)) =
        inr (
          same,
          same_offset tree k rule f.breaks.0 other (subst (λ n. CodeBreaks tree n rule f.breaks.0) same
              f.breaks.1) breaks,
        )
    by (inr (inr later)) = inl later

code_first : (line : FileLine) (bytes : List ℕ) (tree : ClassTree) (r : Refusal) (is : line.class_file ≡ true)
    (spelt : FileSpells class_file tree bytes) (f : FirstIn line.name tree 103 r) (index : ℕ) (other : FileBreach line
    bytes)
    → NotAfter (file_rank index line bytes (no_instructions tree f.method f.breaks.0 is spelt f.breaks.1))
    (file_rank index line bytes other)
code_first line bytes tree r is spelt f index (no_class_file place c breaks) =
    absurd (spelt_or_broken class_file bytes tree place spelt breaks)
code_first line bytes tree r is spelt f index (no_instructions again k other c spelt_too breaks) =
    let same : again ≡ tree = one_value class_file bytes again tree spelt_too spelt in
    let here = subst (λ (t : ClassTree). CodeBreaks t k 103 other) same breaks in
    elim (method_first line.name tree 103 r f k other here) [
      | inl later ↦ (
          let fields = ap (λ (t : ClassTree). length t.fields) same in
          inr (refl, inr (refl, inr (refl, inl (omega (arith, fields))))))
      | inr (at, offset) ↦ (
          let fields = ap (λ (t : ClassTree). length t.fields) same in
          let member : method_rank tree f.method ≡ method_rank again k = omega (arith, fields, at) in
          inr (refl, inr (refl, inr (refl, inr (member, inr (offset, inr (refl, tt)))))))
    ]
code_first line bytes tree r is spelt f index (no_export_file place c breaks) = no_true line is c

pub class_stops : (line : FileLine) (bytes : List ℕ) (old new : Trees) (e : Fault) → line.class_file ≡ true
    → IsBreak class_file bytes (refusal_at line.name bytes) e → ReadsFile line bytes old new (Err e)
class_stops line bytes old new e is stop = stops line bytes old new e (elim stop [
  | inl memory ↦ inl memory
  | inr (k, breaks, refused) ↦ inr (
    refusal_at line.name bytes k,
    refused,
    record {
      breach = no_class_file k is breaks;
      is = refl;
      first = class_first line bytes k is breaks;
    },
  )
])

pub code_stops : (line : FileLine) (bytes : List ℕ) (old new : Trees) (number : ℕ) (tree : ClassTree)
    (from to : List MethodCode) (before behind : List UnsupportedInsn) (e : Fault) → line.class_file ≡ true
    → FileSpells class_file tree bytes
    → DecodesClass line.name number tree from to before behind (Err e) → ReadsFile line bytes old new (Err e)
code_stops line bytes old new number tree from to before behind (faults.Refused r) is spelt f =
    record {
      breach = no_instructions tree f.method f.breaks.0 is spelt f.breaks.1;
      is = f.breaks.2;
      first = code_first line bytes tree r is spelt f;
    }
code_stops line bytes old new number tree from to before behind faults.NoMemory is spelt f = tt

pub export_stops : (line : FileLine) (bytes : List ℕ) (old new : Trees) (e : Fault) → line.class_file ≡ false
    → IsBreak export_file bytes (refusal line.name 104) e → ReadsFile line bytes old new (Err e)
export_stops line bytes old new e is stop = stops line bytes old new e (elim stop [
  | inl memory ↦ inl memory
  | inr (k, breaks, refused) ↦ inr (
    refusal line.name 104 k,
    refused,
    record {
      breach = no_export_file k is breaks;
      is = refl;
      first = export_first line bytes k is breaks;
    },
  )
])

-- a class that is read keeps to the widths of its fields
pub class_fits : (bytes : List ℕ) (tree : ClassTree) → ((i : ℕ) → Fits w8 (get_or bytes i 0))
    → FileSpells class_file tree bytes → ClassFits tree
class_fits bytes tree small spelt = spelt_fits tree bytes (in_bytes bytes small) spelt
  where
    in_bytes : (bytes : List ℕ) → ((i : ℕ) → Fits w8 (get_or bytes i 0)) → InBytes bytes
    in_bytes [] small = tt
    in_bytes (b ∷ bs) small = (let e = small 0 in omega arith, in_bytes bs (λ i. small (suc i)))

-- ---- all files

one_spelt : (lines : List FileLine) (files : List (List ℕ)) (trees : List FileTree) (line : FileLine) (bytes : List ℕ)
    (tree : FileTree)
    → AllSpelt lines files trees → FileIs line bytes tree → AllSpelt (lines ++ line ∷ []) (files ++ bytes ∷ []) (trees
    ++ tree ∷ [])
one_spelt [] [] [] line bytes tree all is = (is, (refl, refl))
one_spelt [] (b ∷ bs) trees line bytes tree all is = absurd (let e = all.0 in cc)
one_spelt [] [] (t ∷ ts) line bytes tree all is = absurd (let e = all.1 in cc)
one_spelt (l ∷ ls) [] trees line bytes tree all is = absurd all
one_spelt (l ∷ ls) (b ∷ bs) [] line bytes tree all is = absurd all
one_spelt (l ∷ ls) (b ∷ bs) (t ∷ ts) line bytes tree all is = (all.0, one_spelt ls bs ts line bytes tree all.1 is)

pub classes_more : (trees : List FileTree) (tree : FileTree) → classes_of (trees ++ tree ∷ []) ≡ classes_of trees
    ++ classes_of (tree ∷ [])
classes_more [] tree = refl
classes_more (of_class t ∷ ts) tree = ap (λ xs. t ∷ xs) (classes_more ts tree)
classes_more (of_export t ∷ ts) tree = classes_more ts tree

pub exports_more : (trees : List FileTree) (tree : FileTree) → exports_of (trees ++ tree ∷ []) ≡ exports_of trees
    ++ exports_of (tree ∷ [])
exports_more [] tree = refl
exports_more (of_class t ∷ ts) tree = exports_more ts tree
exports_more (of_export t ∷ ts) tree = ap (λ xs. t ∷ xs) (exports_more ts tree)

-- the file at an index spells its tree
spelt_at : (lines : List FileLine) (files : List (List ℕ)) (trees : List FileTree) → AllSpelt lines files trees
    → (i : ℕ) (at : FileAt lines files i)
    → (tree : FileTree) × FileIs at.line at.bytes tree
spelt_at [] files trees all i at = absurd (let e = at.is_line in cc)
spelt_at (l ∷ ls) [] trees all i at = absurd all
spelt_at (l ∷ ls) (b ∷ bs) [] all i at = absurd all
spelt_at (l ∷ ls) (b ∷ bs) (t ∷ ts) all zero at =
    let line : l ≡ at.line = (let e = at.is_line in cc) in
    let bytes : b ≡ at.bytes = (let e = at.is_file in cc) in
    (t, subst (λ (x : FileLine). FileIs x at.bytes t) line (subst (λ (x : List ℕ). FileIs l x t) bytes all.0))
spelt_at (l ∷ ls) (b ∷ bs) (t ∷ ts) all (suc i) at = spelt_at ls bs ts all.1 i (record {
  line = at.line;
  bytes = at.bytes;
  is_line = at.is_line;
  is_file = at.is_file;
})

-- files that are all read break no rule of the first hundred
file_fine : (lines : List FileLine) (files : List (List ℕ)) (trees : List FileTree) → AllSpelt lines files trees
    → (i : ℕ) (at : FileAt lines files i) → FileBreach at.line at.bytes → ⊥
file_fine lines files trees all i at breach = let t = spelt_at lines files trees all i at
    in fine at.line at.bytes t.0 t.1 breach

-- files that are all read break none of these rules
pub files_fine : (lines : List FileLine) (files : List (List ℕ)) (trees : List FileTree) → AllSpelt lines files trees
    → (b : Break) → BreaksFile lines files b → ⊥
files_fine lines files trees all b (i, at, breach, is) = file_fine lines files trees all i at breach

slice_get-front : {A : Type 0} (n : ℕ) (xs : List A) (i : ℕ) → i < n → slice_get (take n xs) i ≡ slice_get xs i
slice_get-front zero xs i lt = absurd (omega arith)
slice_get-front (suc n) [] i lt = refl
slice_get-front (suc n) (x ∷ xs) zero lt = refl
slice_get-front (suc n) (x ∷ xs) (suc i) lt = slice_get-front n xs i (omega arith)

-- the file at an earlier index breaks no rule
before_fine : (lines : List FileLine) (files : List (List ℕ)) (trees : List FileTree) (i : ℕ)
    → AllSpelt (take i lines) (take i files) trees
    → (j : ℕ) (at : FileAt lines files j) → j < i → FileBreach at.line at.bytes → ⊥
before_fine lines files trees i all j at lt breach =
    let here : FileAt (take i lines) (take i files) j = record {
      line = at.line;
      bytes = at.bytes;
      is_line = slice_get-front i lines j lt ∙ at.is_line;
      is_file = slice_get-front i files j lt ∙ at.is_file;
    } in
    file_fine (take i lines) (take i files) trees all j here breach

-- of two files the earlier one decides
file_number : (i : ℕ) (line : FileLine) (bytes : List ℕ) (b : FileBreach line bytes)
    → ((file_rank i line bytes b).family ≡ 1) × ((file_rank i line bytes b).file ≡ i + 1)
file_number i line bytes (no_class_file p x h) = (refl, refl)
file_number i line bytes (no_instructions t m o x s h) = (refl, refl)
file_number i line bytes (no_export_file p x h) = (refl, refl)

file_earlier : (i j : ℕ) (line other : FileLine) (bytes more : List ℕ) (b : FileBreach line bytes)
    (c : FileBreach other more) → i < j → NotAfter (file_rank i line bytes b) (file_rank j other more c)
file_earlier i j line other bytes more b c lt =
    let x = file_number i line bytes b in
    let y = file_number j other more c in
    inr (x.0 ∙ sym y.0, inl (omega (arith, x.1, y.1)))

-- the first rule that a file breaks, where the files before it break none, is the first that any file breaks
pub first_of_all : (lines : List FileLine) (files : List (List ℕ)) (trees : List FileTree) (i : ℕ)
    (at : FileAt lines files i) (r : Refusal)
    → AllSpelt (take i lines) (take i files) trees → IsFirstInFile at.line at.bytes r
    → IsFirstRefused (BreaksFile lines files) r
first_of_all lines files trees i at r all here = record {
  broken = file_break i at.line at.bytes here.breach;
  first = record { breaks = (i, at, here.breach, refl); least = least };
  is = here.is;
}
  where
    by : (j : ℕ) (other : FileAt lines files j) (c : FileBreach other.line other.bytes) → (j < i) ⊎ ((i ≡ j) ⊎ (i < j))
        → NotAfter (file_rank i at.line at.bytes here.breach) (file_rank j other.line other.bytes c)
    by j other c (inl before) = absurd (before_fine lines files trees i all j other before c)
    by j other c (inr (inl same)) =
        let line : at.line ≡ other.line = the_same at.line other.line (sym at.is_line ∙ ap (λ k. slice_get lines k) same
        ∙ other.is_line) in
        let bytes : at.bytes ≡ other.bytes = the_same at.bytes other.bytes (sym at.is_file
        ∙ ap (λ k. slice_get files k) same ∙ other.is_file) in
        let P : FileLine → List ℕ → Type 0 = λ l b. (x : FileBreach l b)
        → NotAfter (file_rank i at.line at.bytes here.breach) (file_rank j l b x) in
        let start : P at.line at.bytes = subst (λ (k : ℕ). (x : FileBreach at.line at.bytes)
        → NotAfter (file_rank i at.line at.bytes here.breach) (file_rank k at.line at.bytes x)) same (here.first i)
        in
        subst (λ (l : FileLine). P l other.bytes) line (subst (λ (b : List ℕ). P at.line b) bytes start) c
    by j other c (inr (inr later)) = file_earlier i j at.line other.line at.bytes other.bytes here.breach c later

    least : (a : Break) → BreaksFile lines files a → NotAfter (file_rank i at.line at.bytes here.breach) a.rank
    least a (j, other, c, is) = subst (λ (x : Break). NotAfter (file_rank i at.line at.bytes here.breach) x.rank)
        (sym is) (by j other c (compared i j))

-- ---- in the order of the list

-- What is known of the trees that were read, where so many files have been.
pub record ReadSoFar (lines : List FileLine) (files : List (List ℕ)) (i : ℕ) (read : Trees) : Type 0 where
  pub are_read : IsReadAs (take i lines) (take i files) read
  pub count : length read.classes ≤ i

classes_put : {A : Type 0} (f : ℕ → ℕ → Result (List JInsn) BrokenAt → List A) (n : ℕ) (trees : List ClassTree)
    (tree : ClassTree) → of_classes f n (trees ++ tree ∷ []) ≡ of_classes f n trees
    ++ of_methods f (n + length trees) 0 tree tree.methods
classes_put f n [] tree = append-nil (of_methods f n 0 tree tree.methods) ∙ ap (λ k. of_methods f k 0 tree tree.methods)
    (sym (add-zero n))
classes_put f n (t ∷ ts) tree =
    let at : n + 1 + length ts ≡ n + suc (length ts) = omega arith in
    ap (λ cs. of_methods f n 0 t t.methods ++ cs) (classes_put f (n + 1) ts tree)
    ∙ sym (append_assoc (of_methods f n 0 t t.methods) (of_classes f (n + 1) ts) (of_methods f (n + 1 + length ts) 0
    tree tree.methods))
    ∙ ap (λ k. (of_methods f n 0 t t.methods ++ of_classes f (n + 1) ts) ++ of_methods f k 0 tree tree.methods) at

class_put : {A : Type 0} (f : ℕ → ℕ → Result (List JInsn) BrokenAt → List A) (trees : List ClassTree) (tree : ClassTree)
    → of_classes f 0 (trees ++ tree ∷ []) ≡ of_classes f 0 trees ++ of_methods f (length trees) 0 tree tree.methods
class_put f trees tree =
    let at : 0 + length trees ≡ length trees = omega arith in
    classes_put f 0 trees tree ∙ ap (λ k. of_classes f 0 trees ++ of_methods f k 0 tree tree.methods) at

pub none_read : (lines : List FileLine) (files : List (List ℕ)) (read : Trees) → read ≡ record {
  classes = [];
  exports = [];
  codes = [];
  unsupported_insns = [];
} → ReadSoFar lines files 0 read
none_read lines files read is = rw is (record {
  are_read = record {
    trees = [];
    spelt = (refl, refl);
    classes = refl;
    exports = refl;
    codes = refl;
    unsupported_insns = refl;
  };
  count = omega arith;
})

spelt_more : (lines : List FileLine) (files : List (List ℕ)) (trees : List FileTree) (i : ℕ) (line : FileLine)
    (bytes : List ℕ) (tree : FileTree)
    → i < length lines → i < length files → line ≡ get_or lines i line → bytes ≡ get_or files i bytes
    → FileIs line bytes tree
    → AllSpelt (take i lines) (take i files) trees → AllSpelt (take (i + 1) lines) (take (i + 1) files) (trees
    ++ tree ∷ [])
spelt_more lines files trees i line bytes tree a b is_line is_file is all =
    let more = one_spelt (take i lines) (take i files) trees line bytes tree all is in
    rw (front_more lines i line a is_line, front_more files i bytes b is_file) more

pub read_more : (lines : List FileLine) (files : List (List ℕ)) (old new : Trees) (i : ℕ) (line : FileLine)
    (bytes lent : List ℕ)
    → i < length lines → i < length files → line ≡ get_or lines i line → bytes ≡ get_or files i bytes → lent ≡ bytes
    → ReadSoFar lines files i old → ReadsFile line lent old new (Ok tt) → ReadSoFar lines files (i + 1) new
read_more lines files old new i line bytes lent a b is_line is_file same read (of_export tree, is, puts) =
    let here = subst (λ (x : List ℕ). FileIs line x (of_export tree)) same is in
    let at : FileAt lines files i = record {
      line = line;
      bytes = bytes;
      is_line = slice_get_at lines i line a is_line;
      is_file = slice_get_at files i bytes b is_file;
    } in
    rw puts (record {
      are_read = record {
        trees = read.are_read.trees ++ of_export tree ∷ [];
        spelt = spelt_more lines files read.are_read.trees i line bytes (of_export tree) a b is_line is_file here
            read.are_read.spelt;
        classes = read.are_read.classes ∙ sym (append-nil (classes_of read.are_read.trees))
            ∙ sym (classes_more read.are_read.trees (of_export tree));
        exports = ap (λ es. es ++ tree ∷ []) read.are_read.exports
            ∙ sym (exports_more read.are_read.trees (of_export tree));
        codes = read.are_read.codes;
        unsupported_insns = read.are_read.unsupported_insns;
      };
      count = let few = read.count in omega arith;
    })
read_more lines files old new i line bytes lent a b is_line is_file same read (of_class tree, is, puts) =
    let here = subst (λ (x : List ℕ). FileIs line x (of_class tree)) same is in
    let at : FileAt lines files i = record {
      line = line;
      bytes = bytes;
      is_line = slice_get_at lines i line a is_line;
      is_file = slice_get_at files i bytes b is_file;
    } in
    rw puts (record {
      are_read = record {
        trees = read.are_read.trees ++ of_class tree ∷ [];
        spelt = spelt_more lines files read.are_read.trees i line bytes (of_class tree) a b is_line is_file here
            read.are_read.spelt;
        classes = ap (λ cs. cs ++ tree ∷ []) read.are_read.classes
            ∙ sym (classes_more read.are_read.trees (of_class tree));
        exports = read.are_read.exports ∙ sym (append-nil (exports_of read.are_read.trees))
            ∙ sym (exports_more read.are_read.trees (of_class tree));
        codes = ap (λ cs. cs ++ of_methods code_with (length old.classes) 0 tree tree.methods) read.are_read.codes
            ∙ sym (class_put code_with old.classes tree);
        unsupported_insns = ap (λ xs. xs ++ of_methods unsupported_with (length old.classes) 0 tree tree.methods)
            read.are_read.unsupported_insns ∙ sym (class_put unsupported_with old.classes tree);
      };
      count = let few = read.count in let size = length-append old.classes (tree ∷ []) in omega (arith, size);
    })

pub read_stops : (lines : List FileLine) (files : List (List ℕ)) (old new : Trees) (i : ℕ) (line : FileLine)
    (bytes lent : List ℕ) (e : Fault)
    → i < length lines → i < length files → line ≡ get_or lines i line → bytes ≡ get_or files i bytes → lent ≡ bytes
    → ReadSoFar lines files i old → ReadsFile line lent old new (Err e) → ReadsFiles lines files (Err e)
read_stops lines files old new i line bytes lent (faults.Refused r) a b is_line is_file is read first =
    let here = subst (λ (x : List ℕ). IsFirstInFile line x r) is first in
    first_of_all lines files read.are_read.trees i (record {
      line = line;
      bytes = bytes;
      is_line = slice_get_at lines i line a is_line;
      is_file = slice_get_at files i bytes b is_file;
    }) r read.are_read.spelt
    here
read_stops lines files old new i line bytes lent faults.NoMemory a b is_line is_file is read first = tt

pub all_read : (lines : List FileLine) (files : List (List ℕ)) (read : Trees) (i : ℕ) → length lines ≤ i
    → i ≤ length lines → length files ≡ length lines → ReadSoFar lines files i read → IsReadAs lines files read
all_read lines files read i low high count r =
    let same : i ≡ length lines = omega arith in
    let ls : take i lines ≡ lines = take_all i lines low in
    let fs : take i files ≡ files = take_all i files (omega arith) in
    subst (λ (l : List FileLine). IsReadAs l files read) ls (subst (λ (f : List (List ℕ)). IsReadAs (take i lines) f
    read) fs r.are_read)

-- the line of a class file
pub as_class : (line : FileLine) (bytes : List ℕ) (old new : Trees) (result : Result Unit Fault)
    → line.class_file ≡ true → (name : List ℕ) → name ≡ line.name
    → ReadsFile (record { class_file = true; name = name }) bytes old new result → ReadsFile line bytes old new result
as_class line bytes old new result is name same h =
    let here = subst (λ (n : List ℕ). ReadsFile (record { class_file = true; name = n }) bytes old new result) same h in
    subst (λ (b : Bool). ReadsFile (record { class_file = b; name = line.name }) bytes old new result) (sym is) here

-- a class file that is read, with what its methods are decoded to
pub class_read : (name bytes : List ℕ) (old : Trees) (tree : ClassTree) (items classes : List ClassTree)
    (codes : List MethodCode) (unsupported_insns : List UnsupportedInsn) → FileSpells class_file tree bytes
    → ClassFits tree → items ≡ old.classes
    → DecodesClass name (length items) tree old.codes codes old.unsupported_insns unsupported_insns (Ok tt)
    → classes ≡ old.classes ++ tree ∷ []
    → ReadsFile (record { class_file = true; name = name }) bytes old (record {
      classes = classes;
      exports = old.exports;
      codes = codes;
      unsupported_insns = unsupported_insns;
    }) (Ok tt)
class_read name bytes old tree items classes codes unsupported_insns spelt fits same decoded pushed =
    let with : List ClassTree → List MethodCode → List UnsupportedInsn → Trees = λ cs ms xs. record {
      classes = cs;
      exports = old.exports;
      codes = ms;
      unsupported_insns = xs;
    } in
    let put = old.classes ++ tree ∷ [] in
    let own = old.codes ++ of_methods code_with (length old.classes) 0 tree tree.methods in
    let numbered = decoded.0 ∙ ap (λ (ts : List ClassTree). old.codes ++ of_methods code_with (length ts) 0 tree
    tree.methods) same in
    let placed = decoded.1 ∙ ap (λ (ts : List ClassTree). old.unsupported_insns
    ++ of_methods unsupported_with (length ts) 0 tree tree.methods) same in (
      of_class tree,
      (refl, spelt, decoded.2, fits),
      ap (λ cs. with cs codes unsupported_insns) pushed ∙ ap (λ ms. with put ms unsupported_insns) numbered
          ∙ ap (λ xs. with put own xs) placed,
    )

pub export_read : (line : FileLine) (bytes : List ℕ) (old : Trees) (tree : ExportTree) (exports : List ExportTree)
    → line.class_file ≡ false → FileSpells export_file tree bytes → IsWritable tree → exports ≡ old.exports ++ tree ∷ []
    → ReadsFile line bytes old (record {
      classes = old.classes;
      exports = exports;
      codes = old.codes;
      unsupported_insns = old.unsupported_insns;
    }) (Ok tt)
export_read line bytes old tree exports is spelt fits pushed = (
  of_export tree,
  (is, spelt, fits),
  ap (λ (es : List ExportTree). let t : Trees = record {
    classes = old.classes;
    exports = es;
    codes = old.codes;
    unsupported_insns = old.unsupported_insns;
  } in t) pushed,
)
