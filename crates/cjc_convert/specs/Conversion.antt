-- What a conversion makes of a list and the files that it names.
use Rattle.std.specs.Prelude.{◌≡◌, ℕ, List, []}
use Rattle.cjc_captree.specs.Bytes.Breaks.{Break}
use Rattle.cjc_captree.specs.Bytes.Format.{FileSpells}
use Rattle.cjc_captree.specs.CapWrite.Files.{files_of}
use Rattle.cjc_captree.specs.CapWrite.Writable.{IsSpelt}
use Rattle.cjc_shape_proof.specs.Components.Components.{components_of}
use Rattle.cjc_shape_proof.specs.Components.ExportFile.{export_of}
use Rattle.cjc_shape_proof.specs.Components.Limits.{limit_breaks}
use Rattle.cjc_shape_proof.specs.Components.Package.{Package}
use Rattle.cjc_convert.specs.declared.conversion.Converted.{Converted}
use Rattle.cjc_captree.specs.ExportFile.ExportFile.{export_file}
use Rattle.cjc_captree.specs.ExportFile.Written.{written}
use Rattle.cjc_shape_proof.specs.LowerIntPackage.Components.{components_by_modes}
use Rattle.cjc_shape_proof.specs.LowerIntPackage.Limits.{limit_breaks_by_modes}
use Rattle.cjc_shape_proof.specs.LowerJudge.Rules.{Breach}
use Rattle.cjc_shape_proof.specs.LowerJudge.declared.judged.Judged.{Judged}
use Rattle.cjc_captree.specs.List.Listed.{ListTree}
use Rattle.cjc_shape_proof.specs.LowerShape.Prepared.{IsSound, tested}
use Rattle.cjc_shape_proof.specs.LowerShape.Whole.Conversion.{IsPackageByModesOf, IsPackageOf}

-- ---- by the modes of methods

-- The files break no rule, nor does what is written for them, each method by its mode; and these are the component files
-- and the export file of their package. They spell its components, which have ACC_INT where a method is in int mode, and
-- its export file.
pub record IsConvertedByModes (list : ListTree) (files : List (List ℕ)) (made : Converted) : Type 0 where
  pub unbroken : (b : Break) → Breach list files tested b → ⊥
  pub whole : Package
  pub is_package : IsPackageByModesOf list files whole
  pub limits : limit_breaks_by_modes is_package.tables whole ≡ []
  pub caps : made.caps ≡ files_of (components_by_modes is_package.tables whole)
  pub caps_spelt : IsSpelt (components_by_modes is_package.tables whole) made.caps
  pub export : made.export ≡ written (export_of whole)
  pub export_spelt : FileSpells export_file (export_of whole) made.export
  -- what was read of the files, by which the laws of converted packages go
  pub judged : Judged
  pub sound : IsSound list files judged

-- ---- without int mode

-- The same of a package none of whose methods is in int mode, told without modes.
pub record IsConverted (list : ListTree) (files : List (List ℕ)) (made : Converted) : Type 0 where
  pub unbroken : (b : Break) → Breach list files tested b → ⊥
  pub whole : Package
  pub is_package : IsPackageOf list files whole
  pub limits : limit_breaks whole ≡ []
  pub caps : made.caps ≡ files_of (components_of whole)
  pub caps_spelt : IsSpelt (components_of whole) made.caps
  pub export : made.export ≡ written (export_of whole)
  pub export_spelt : FileSpells export_file (export_of whole) made.export
  -- what was read of the files, by which the laws of converted packages go
  pub judged : Judged
  pub sound : IsSound list files judged
