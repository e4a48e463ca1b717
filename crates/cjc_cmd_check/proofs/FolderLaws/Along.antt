-- Names and tags, in loops over lines and sizes.
use Rattle.std.proofs.Common.{◌≡◌, ℕ, ◌+◌, ◌-◌, ◌<◌, ◌≤◌, List, [], ◌∷◌, ◌++◌, Bool, true, false, length, get_or, map}
use Rattle.std.proofs.Common.{filter, drop, refl, sym, ap, ◌∙◌, arith, append-nil, append_assoc}
use Rattle.std.specs.Prelude.{zero, suc}
use Rattle.std.specs.List.{range_with_len}
use Rattle.std.proofs.lemmas.List.{drop_more, drop_all}
use Rattle.cjc_bytes.specs.Order.{FilePlace}
use Rattle.cjc_bytes.specs.declared.order.FileKey.TheVariants as keys
use Rattle.cjc_bytes.specs.declared.settings.FileLine.{FileLine}
use Rattle.cjc_cmd_check.specs.Folder.Reads.{export_places, has_size, tags_with_size}

abbrev pub names_from : (i : ℕ) → List FileLine → List (List ℕ)
names_from i lines = map (λ (f : FilePlace). f.name) (export_places i (drop i lines))

here : (i : ℕ) (line : FileLine) (lines : List FileLine) → i < length lines → line ≡ get_or lines i line
    → drop i lines ≡ line ∷ drop (i + 1) lines
here i line lines lt is = drop_more lines i line lt ∙ ap (λ (l : FileLine). l ∷ drop (i + 1) lines) (sym is)

pub passed : (i : ℕ) (line : FileLine) (rest : List FileLine) → line.class_file ≡ true → export_places i (line ∷ rest)
    ≡ export_places (i + 1) rest
unfolding export_places
passed i line rest e = rw e refl

pub kept_place : (i : ℕ) (line : FileLine) (rest : List FileLine) → line.class_file ≡ false
    → export_places i (line ∷ rest) ≡ record { key = keys.Line i; name = line.name } ∷ export_places (i + 1) rest
unfolding export_places
kept_place i line rest e = rw e refl

taken : (i : ℕ) (line : FileLine) (rest : List FileLine) → line.class_file ≡ false
    → map (λ (f : FilePlace). f.name) (export_places i (line ∷ rest)) ≡ line.name ∷ map (λ (f : FilePlace). f.name)
    (export_places (i + 1) rest)
unfolding export_places
taken i line rest e = rw e refl

-- a class file's line is passed by
pub names_passed : (i : ℕ) (line : FileLine) (lines : List FileLine) (names total : List (List ℕ)) → i < length lines
    → line ≡ get_or lines i line → line.class_file ≡ true
    → names ++ names_from i lines ≡ total → names ++ names_from (i + 1) lines ≡ total
names_passed i line lines names total lt is e so_far =
    let one = ap (export_places i) (here i line lines lt is) ∙ passed i line (drop (i + 1) lines) e in
    ap (λ (fs : List FilePlace). names ++ map (λ (f : FilePlace). f.name) fs) (sym one) ∙ so_far

-- an export file's name is put behind those that are there
pub names_taken : (i : ℕ) (line : FileLine) (lines : List FileLine) (names total : List (List ℕ)) → i < length lines
    → line ≡ get_or lines i line → line.class_file ≡ false
    → names ++ names_from i lines ≡ total → (names ++ line.name ∷ []) ++ names_from (i + 1) lines ≡ total
names_taken i line lines names total lt is e so_far =
    let one = ap (λ (ls : List FileLine). map (λ (f : FilePlace). f.name) (export_places i ls))
    (here i line lines lt is) ∙ taken i line (drop (i + 1) lines) e in
    append_assoc names (line.name ∷ []) (names_from (i + 1) lines) ∙ ap (λ (ns : List (List ℕ)). names ++ ns) (sym one)
    ∙ so_far

no_place : (i : ℕ) (lines : List FileLine) → lines ≡ [] → map (λ (f : FilePlace). f.name) (export_places i lines) ≡ []
unfolding export_places
no_place i lines e = rw e refl

pub names_all : (i : ℕ) (lines : List FileLine) (names total : List (List ℕ)) → length lines ≤ i
    → names ++ names_from i lines ≡ total → names ≡ total
names_all i lines names total le so_far =
    sym (append-nil names) ∙ ap (λ (ns : List (List ℕ)). names
    ++ ns) (sym (no_place i (drop i lines) (drop_all i lines le))) ∙ so_far

-- ---- tags

abbrev pub tags_from : List ℕ → (tag : ℕ) → List ℕ
tags_from sizes tag = filter (has_size sizes) (range_with_len tag (12 - tag))

one_more : (tag : ℕ) → tag < 12 → range_with_len tag (12 - tag) ≡ tag ∷ range_with_len (tag + 1) (12 - (tag + 1))
one_more tag lt = let e : 12 - tag ≡ suc (12 - (tag + 1)) = omega arith in ap (range_with_len tag) e

filter_true : (p : ℕ → Bool) (x : ℕ) (xs : List ℕ) → p x ≡ true → filter p (x ∷ xs) ≡ x ∷ filter p xs
filter_true p x xs e = rw e refl

filter_false : (p : ℕ → Bool) (x : ℕ) (xs : List ℕ) → p x ≡ false → filter p (x ∷ xs) ≡ filter p xs
filter_false p x xs e = rw e refl

pub tags_taken : (sizes : List ℕ) (tag : ℕ) (tags total : List ℕ) → tag < 12 → has_size sizes tag ≡ true
    → tags ++ tags_from sizes tag ≡ total → (tags ++ tag ∷ []) ++ tags_from sizes (tag + 1) ≡ total
tags_taken sizes tag tags total lt e so_far =
    let one = ap (filter (has_size sizes)) (one_more tag lt) ∙ filter_true (has_size sizes) tag _ e in
    append_assoc tags (tag ∷ []) (tags_from sizes (tag + 1)) ∙ ap (λ (ts : List ℕ). tags ++ ts) (sym one) ∙ so_far

pub tags_passed : (sizes : List ℕ) (tag : ℕ) (tags total : List ℕ) → tag < 12 → has_size sizes tag ≡ false
    → tags ++ tags_from sizes tag ≡ total → tags ++ tags_from sizes (tag + 1) ≡ total
tags_passed sizes tag tags total lt e so_far =
    let one = ap (filter (has_size sizes)) (one_more tag lt) ∙ filter_false (has_size sizes) tag _ e in
    ap (λ (ts : List ℕ). tags ++ ts) (sym one) ∙ so_far

pub tags_all : (sizes : List ℕ) (tag : ℕ) (tags total : List ℕ) → 12 ≤ tag → tags ++ tags_from sizes tag ≡ total
    → tags ≡ total
tags_all sizes tag tags total le so_far =
    let none : 12 - tag ≡ zero = omega arith in
    sym (append-nil tags) ∙ ap (λ (n : ℕ). tags ++ filter (has_size sizes) (range_with_len tag n)) (sym none) ∙ so_far

pub tags_start : (sizes : List ℕ) → [] ++ tags_from sizes 3 ≡ tags_with_size sizes
unfolding tags_with_size
tags_start sizes = refl
