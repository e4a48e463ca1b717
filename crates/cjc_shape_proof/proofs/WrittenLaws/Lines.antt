-- The lines of a list, and the files that they name.
use Rattle.std.proofs.Common.{◌≡◌, ℕ, ◌≤◌, sym, subst, arith, List, [], ◌∷◌, length}
use Rattle.cjc_bytes.specs.declared.settings.FileLine.{FileLine}
use Rattle.cjc_bytes.proofs.Numbers.{one_file}
use Rattle.cjc_shape.specs.LowerJudge.Spelt.{FileTree, exports_of}
use Rattle.cjc_shape.specs.LowerJudge.Spelt as spelt_files
use Rattle.cjc_shape.specs.LowerJudge.Trees.{AllSpelt}
use Rattle.cjc_check_proof.specs.TokenProof.Tables.Sound.{export_count}
use Rattle.cjc_check_proof.proofs.TokenProofFiled.{export_count-cons}

-- there are no more export files than lines of export files
pub exports_few : (lines : List FileLine) (files : List (List ℕ)) (trees : List FileTree) → AllSpelt lines files trees
    → length (exports_of trees) ≤ export_count lines
exports_few [] files trees h = let none : trees ≡ [] = h.1 in subst (λ ts. length (exports_of ts) ≤ 0) (sym none)
    (omega arith)
exports_few (line ∷ lines) [] trees h = absurd h
exports_few (line ∷ lines) (bytes ∷ files) [] h = absurd h
exports_few (line ∷ lines) (bytes ∷ files) (spelt_files.of_class tree ∷ trees) h =
    let rest = exports_few lines files trees h.1 in
    let all = export_count-cons line lines in
    omega (arith, rest, all)
exports_few (line ∷ lines) (bytes ∷ files) (spelt_files.of_export tree ∷ trees) h =
    let rest = exports_few lines files trees h.1 in
    let one = one_file line.class_file h.0.0 in
    let all = export_count-cons line lines in
    omega (arith, rest, one, all)
