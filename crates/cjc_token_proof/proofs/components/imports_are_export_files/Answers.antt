use Rattle.std.proofs.Common.{◌≡◌, ℕ, ◌+◌, ◌==◌, List, [], ◌∷◌, length, refl, ap, ◌∙◌}
use Rattle.std.specs.Prelude.{map}
use Rattle.std.proofs.lemmas.List.{length-map}
use Rattle.cjc_world.specs.ExportFile.declared.tree.ExportTree.{ExportTree}
use Rattle.cjc_components.specs.LowerCheckRules.Spots.{in_info, beside, bytes_differ}
use Rattle.cjc_components.specs.LowerCheckRules.Complete.{package_size}
use Rattle.cjc_components.specs.LowerCheckRules.Imports.{packages_agree}
use Rattle.cjc_components.specs.Components.{imported_package}
use Rattle.cjc_token_proof.proofs.ComponentsLaws.Tests.{passes, none_in_both}
use Rattle.cjc_bytes.proofs.Numbers.{like_number}
use Rattle.cjc_token_proof.proofs.components.imports_are_export_files.Goals as goal

none_differ : (at : ℕ) (bytes : List ℕ) → bytes_differ 4 at bytes bytes ≡ []
unfolding beside
none_differ at [] = refl
none_differ at (b ∷ bytes) = none_in_both (passes _ (in_info 4 at) (like_number b)) (none_differ (at + 1) bytes)

all_agree : (at : ℕ) (exports : List ExportTree) → packages_agree at (map imported_package exports) exports ≡ []
unfolding beside
all_agree at [] = refl
all_agree at (t ∷ exports) =
    let length_is = passes _ (in_info 4 (at + 2)) (like_number (length t.aid)) in
    let aid_is = none_in_both length_is (none_differ (at + 2 + 1) t.aid) in
    none_in_both (none_in_both (passes _ (in_info 4 (at + 1)) (like_number t.major)) aid_is)
    (all_agree (at + package_size (imported_package t)) exports)

pub returns : goal.returns
returns c p =
    let files = p.files in
    none_in_both (passes _ (in_info 4 0) (ap (λ n. n == length files.exports) (length-map files.exports
    imported_package) ∙ like_number (length files.exports)))
    (all_agree 1 files.exports)
