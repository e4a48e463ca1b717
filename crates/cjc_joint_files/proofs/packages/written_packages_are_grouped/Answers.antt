use Rattle.std.specs.Prelude.{◌≡◌, ℕ, List, Some, slice_get}
use Rattle.cjc_components.specs.Package.{Package, world}
use Rattle.cjc_joint_whole.specs.Above.{FindsAbove}
use Rattle.cjc_joint_whole.specs.Faces.{FacesSelect}
use Rattle.cjc_joint_whole.specs.Grouped.{AreGrouped}
use Rattle.cjc_joint_whole.specs.Selected.{SelectsAlone}
use Rattle.cjc_shape_proof.proofs.WrittenLaws.Files.{files_sound, is_checked}
use Rattle.cjc_shape_proof.proofs.WrittenLaws.OfFiles.{is_of_files}
use Rattle.cjc_shape_proof.specs.LowerJudge.Rules.{settings_of}
use Rattle.cjc_vtable.specs.Meant.{HaveOneAccess}
use Rattle.cjc_joint_files.specs.Fair.{AreFairTogether}
use Rattle.cjc_joint_files.specs.Written.{AreWrittenTogether, IsWritten}
use Rattle.cjc_joint_files.proofs.FilesLaws.Grouping.{are_grouped}
use Rattle.cjc_joint_files.proofs.packages.written_packages_are_grouped.Goals as goal

alone : goal.After-written_packages_know_interfaces → (p : Package) → IsWritten p → SelectsAlone p
alone c p w =
    let checked = is_checked w.list w.files w.judged p w.converted in
    c.converted_packages_select_alone.ensures w.list w.files w.judged p w.converted
    (c.fair_exports_are_sound.ensures.send (let l = w.list in l.name) p (let j = w.judged in j.codes)
    (settings_of w.list) (files_sound w.list w.files w.judged p w.converted) checked.checks)

above : goal.After-written_packages_know_interfaces → (packages : List Package) → AreWrittenTogether packages
    → AreFairTogether packages → (q : ℕ) (p : Package) → slice_get packages q ≡ Some p → FindsAbove p
above c packages are fair q p here =
    let w = are.each q p here in
    c.converted_packages_find_above.ensures w.list w.files w.judged p w.converted (fair.kinds q p here)

faces : goal.After-written_packages_know_interfaces → (p : Package) → IsWritten p → FacesSelect p
faces c p w = c.packages_of_files_name_faces.ensures.faces w.list (let j = w.judged in j.codes) p
    (is_of_files w.list w.files w.judged p w.converted)

access : goal.After-written_packages_know_interfaces → (p : Package) → IsWritten p → HaveOneAccess (world p)
access c p w = c.packages_of_files_name_faces.ensures.access w.list (let j = w.judged in j.codes) p
    (is_of_files w.list w.files w.judged p w.converted)

grouped : goal.After-written_packages_know_interfaces → (packages : List Package) → AreWrittenTogether packages
    → AreFairTogether packages → AreGrouped packages
grouped c packages are fair = are_grouped packages are fair (alone c) (faces c) (access c)
    (above c packages are fair) (c.written_packages_know_interfaces.ensures packages are fair)

pub returns-clause-grouped : goal.returns-clause-grouped
returns-clause-grouped c = grouped c

pub returns-clause-together : goal.returns-clause-together
returns-clause-together c = λ packages are fair. c.grouped_packages_select_together.ensures packages (grouped c packages
    are fair)
