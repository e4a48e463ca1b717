-- The classes of all files one behind the other.
use Rattle.std.proofs.Common.{◌≡◌, ℕ, zero, suc, ◌+◌, ◌-◌, ◌<◌, ◌≤◌, List, [], ◌∷◌, ◌++◌, length, get_or, drop, refl}
use Rattle.std.proofs.Common.{sym, ap, ◌∙◌, arith, append_assoc, append-nil, length-append, slice_get}
use Rattle.std.proofs.lemmas.List.{drop_more, drop_all}
use Rattle.cjc_check_rules.specs.ExportFile.declared.tree.ExportClass.{ExportClass}
use Rattle.cjc_check_rules.specs.ExportFile.declared.tree.ExportTree.{ExportTree}
use Rattle.cjc_check_rules.specs.ExportFile.Supers.{classes_of}
use Rattle.cjc_check_index.specs.Imported.Tokens.{file_starts}

-- ---- loops

front : (i : ℕ) (t : ExportTree) (exports : List ExportTree) → i < length exports → t ≡ get_or exports i t
    → drop i exports ≡ t ∷ drop (i + 1) exports
front i t exports lt is = drop_more exports i t lt ∙ ap (λ (x : ExportTree). x ∷ drop (i + 1) exports) (sym is)

pub classes_more : (i : ℕ) (t : ExportTree) (exports : List ExportTree) (done next total : List ExportClass)
    → i < length exports → t ≡ get_or exports i t → next ≡ done ++ t.classes
    → done ++ classes_of (drop i exports) ≡ total → next ++ classes_of (drop (i + 1) exports) ≡ total
classes_more i t exports done next total lt is n so_far =
    ap (λ (cs : List ExportClass). cs ++ classes_of (drop (i + 1) exports)) n
    ∙ append_assoc done t.classes (classes_of (drop (i + 1) exports))
    ∙ ap (λ (ts : List ExportTree). done ++ classes_of ts) (sym (front i t exports lt is)) ∙ so_far

pub classes_all : (i : ℕ) (exports : List ExportTree) (done total : List ExportClass) → length exports ≤ i
    → done ++ classes_of (drop i exports) ≡ total → done ≡ total
classes_all i exports done total le so_far = sym (append-nil done) ∙ ap (λ (ts : List ExportTree). done
    ++ classes_of ts) (sym (drop_all i exports le)) ∙ so_far

pub starts_more : (i at after : ℕ) (t : ExportTree) (exports : List ExportTree) (done next total : List ℕ)
    → i < length exports → t ≡ get_or exports i t → next ≡ done ++ at ∷ [] → after ≡ at + length t.classes
    → done ++ file_starts at (drop i exports) ≡ total → next ++ file_starts after (drop (i + 1) exports) ≡ total
starts_more i at after t exports done next total lt is n a so_far =
    ap (λ (k : ℕ). next ++ file_starts k (drop (i + 1) exports)) a
    ∙ ap (λ (ns : List ℕ). ns ++ file_starts (at + length t.classes) (drop (i + 1) exports)) n
    ∙ append_assoc done (at ∷ []) (file_starts (at + length t.classes) (drop (i + 1) exports))
    ∙ ap (λ (ts : List ExportTree). done ++ file_starts at ts) (sym (front i t exports lt is)) ∙ so_far

pub starts_all : (i at : ℕ) (exports : List ExportTree) (done total : List ℕ) → length exports ≤ i
    → done ++ file_starts at (drop i exports) ≡ total → done ≡ total
starts_all i at exports done total le so_far = sym (append-nil done) ∙ ap (λ (ts : List ExportTree). done
    ++ file_starts at ts) (sym (drop_all i exports le)) ∙ so_far

-- ---- a class among those of all files

in_front : (xs ys : List ExportClass) (k : ℕ) → k < length xs → slice_get (xs ++ ys) k ≡ slice_get xs k
in_front [] ys k lt = absurd (omega (arith, lt))
in_front (x ∷ xs) ys zero lt = refl
in_front (x ∷ xs) ys (suc k) lt = in_front xs ys k (omega (arith, lt))

behind : (xs ys : List ExportClass) (k : ℕ) → slice_get (xs ++ ys) (length xs + k) ≡ slice_get ys k
behind [] ys k = let z : 0 + k ≡ k = omega arith in ap (λ (n : ℕ). slice_get ys n) z
behind (x ∷ xs) ys k = let z : suc (length xs) + k ≡ suc (length xs + k) = omega arith
    in ap (λ (n : ℕ). slice_get (x ∷ (xs ++ ys)) n) z ∙ behind xs ys k

pub starts_up : (from : ℕ) (exports : List ExportTree) (i : ℕ) → i < length exports
    → from ≤ get_or (file_starts from exports) i 0
starts_up from [] i lt = absurd (omega (arith, lt))
starts_up from (t ∷ exports) zero lt = omega arith
starts_up from (t ∷ exports) (suc i) lt = let h = starts_up (from + length t.classes) exports i (omega (arith, lt))
    in omega (arith, h)

pub flat_bound : (from : ℕ) (exports : List ExportTree) (i at : ℕ) (t : ExportTree) → i < length exports
    → t ≡ get_or exports i t → at < length t.classes
    → get_or (file_starts from exports) i 0 + at < from + length (classes_of exports)
flat_bound from [] i at t lt is inside = absurd (omega (arith, lt))
flat_bound from (x ∷ exports) zero at t lt is inside =
    let l = length-append x.classes (classes_of exports) in
    let n : length t.classes ≡ length x.classes = ap (λ (y : ExportTree). length y.classes) is in
    omega (arith, l, n, inside)
flat_bound from (x ∷ exports) (suc i) at t lt is inside =
    let h = flat_bound (from + length x.classes) exports i at t (omega (arith, lt)) is inside in
    let l = length-append x.classes (classes_of exports) in
    omega (arith, h, l)

pub flat_at : (from : ℕ) (exports : List ExportTree) (i at k : ℕ) (t : ExportTree) → i < length exports
    → t ≡ get_or exports i t → at < length t.classes → from + k ≡ get_or (file_starts from exports) i 0 + at
    → slice_get (classes_of exports) k ≡ slice_get t.classes at
flat_at from [] i at k t lt is inside e = absurd (omega (arith, lt))
flat_at from (x ∷ exports) zero at k t lt is inside e =
    let n : k ≡ at = omega (arith, e) in
    let same : t.classes ≡ x.classes = ap (λ (y : ExportTree). y.classes) is in
    let less : at < length x.classes = let m = ap (λ (y : List ExportClass). length y) same in omega (arith, m, inside)
    in
    ap (λ (m : ℕ). slice_get (x.classes ++ classes_of exports) m) n ∙ in_front x.classes (classes_of exports) at less
    ∙ ap (λ (cs : List ExportClass). slice_get cs at) (sym same)
flat_at from (x ∷ exports) (suc i) at k t lt is inside e =
    let g = get_or (file_starts (from + length x.classes) exports) i 0 in
    let up = starts_up (from + length x.classes) exports i (omega (arith, lt)) in
    let n : k ≡ length x.classes + (k - length x.classes) = omega (arith, e, up) in
    let m : from + length x.classes + (k - length x.classes) ≡ g + at = omega (arith, e, up) in
    ap (λ (j : ℕ). slice_get (x.classes ++ classes_of exports) j) n ∙ behind x.classes (classes_of exports)
    (k - length x.classes)
    ∙ flat_at (from + length x.classes) exports i at (k - length x.classes) t (omega (arith, lt)) is inside m

pub length-file_starts : (from : ℕ) (exports : List ExportTree) → length (file_starts from exports) ≡ length exports
length-file_starts from [] = refl
length-file_starts from (t ∷ exports) = let h = length-file_starts (from + length t.classes) exports in omega (arith, h)
