use Rattle.std.proofs.Common.{◌≡◌, ℕ, List, [], sym, subst, ◌∙◌}
use Rattle.cjc_accepted_files.proofs.FolderLaws.{cap_read, parts_fine}
use Rattle.cjc_accepted_files.proofs.LengthsLaws.{AreShort, files_short}
use Rattle.cjc_accepted_files.proofs.ReadsLaws.{parts_read, parts_short}
use Rattle.cjc_accepted_files.proofs.folder.written_files_are_read_back.Goals as goal
use Rattle.cjc_components.specs.Limits.{size_breaks}
use Rattle.cjc_components.specs.LowerCapWrite.Files.{files_of}
use Rattle.cjc_components.specs.LowerCapWrite.declared.files.CapFiles.{CapFiles}
use Rattle.cjc_components.specs.LowerList.Listed.{ListTree}
use Rattle.cjc_components.specs.Package.{Package}
use Rattle.cjc_convert.proofs.ConversionLaws.Flags.{same_limit}
use Rattle.cjc_int_theorem.specs.Components.{components_by_modes}
use Rattle.cjc_shape_proof.specs.LowerIntPackage.Modes.{Tables}
use Rattle.cjc_shape_proof.proofs.WritingLaws.Sizes.{limit_kept, widest_kept}
use Rattle.cjc_shape_proof.specs.LowerJudge.declared.judged.Judged.{Judged}
use Rattle.cjc_shape_proof.specs.Written.LaidOut.{IsLaidOut}

each_short : goal.After-laid_out_packages_fit → (list : ListTree) (files : List (List ℕ)) (judged : Judged)
    (p : Package) → IsLaidOut list files judged p → size_breaks p ≡ [] → (t : Tables) (caps : CapFiles)
    → caps ≡ files_of (components_by_modes t p) → AreShort caps
each_short c list files judged p laid sizes t caps same =
    subst AreShort (sym same) (files_short (components_by_modes t p) (same_limit t p ∙ limit_kept p sizes)
    (c.laid_out_packages_fit.ensures.method list files judged p laid (widest_kept p sizes)))

pub returns-clause-read : goal.returns-clause-read
returns-clause-read c = λ list files judged p laid sizes t caps same spelt told dir name export stand.
    parts_read told dir t p caps spelt (each_short c list files judged p laid sizes t caps same) name export stand

pub returns-clause-short : goal.returns-clause-short
returns-clause-short c = λ list files judged p laid sizes t caps same. parts_short caps
    (each_short c list files judged p laid sizes t caps same)

pub returns-clause-unbroken : goal.returns-clause-unbroken
returns-clause-unbroken c = parts_fine

pub returns-clause-components : goal.returns-clause-components
returns-clause-components c = cap_read
