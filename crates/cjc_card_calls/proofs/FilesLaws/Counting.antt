-- Supers are counted file by file.
use Rattle.std.proofs.Common.{◌≡◌, ℕ, ◌+◌, ◌<◌, List, [], ◌∷◌, ◌++◌, length, get_or, drop, ap, arith}
use Rattle.std.proofs.lemmas.List.{at_drop_more}
use Rattle.cjc_card_semantics.specs.ExportFile.declared.tree.ExportClass.{ExportClass}
use Rattle.cjc_card_semantics.specs.ExportFile.declared.tree.ExportTree.{ExportTree}
use Rattle.cjc_card_semantics.specs.ExportFile.Supers.{classes_of, super_count}

super_count-append : (xs ys : List ExportClass) → super_count (xs ++ ys) ≡ super_count xs + super_count ys
super_count-append [] ys = omega arith
super_count-append (x ∷ xs) ys = let h = super_count-append xs ys in omega (arith, h)

one_file : (t : ExportTree) (ts : List ExportTree) → super_count (classes_of (t ∷ ts)) ≡ super_count t.classes +
    super_count (classes_of ts)
one_file t ts = super_count-append t.classes (classes_of ts)

-- One more file is counted.
pub count_more : (i : ℕ) (t : ExportTree) (ts : List ExportTree) (classes : List ExportClass) (old count new total : ℕ)
    → i < length ts → t ≡ get_or ts i t → classes ≡ t.classes → count ≡ super_count classes → new ≡ old + count
    → old + super_count (classes_of (drop i ts)) ≡ total → new + super_count (classes_of (drop (i + 1) ts)) ≡ total
count_more i t ts classes old count new total lt is listed counted n so_far =
    let e = at_drop_more (λ us. super_count (classes_of us)) ts i t lt in
    let s = one_file (get_or ts i t) (drop (i + 1) ts) in
    let same : super_count t.classes ≡ (let u = get_or ts i t in super_count u.classes) =
    ap (λ (u : ExportTree). super_count u.classes) is in
    let here : super_count classes ≡ super_count t.classes = ap super_count listed in
    omega (arith, e, s, same, here, counted, n, so_far)
