-- What is read of a group is what was converted.
use Rattle.std.specs.Prelude.{◌≡◌, List, [], ◌∷◌, Some}
use Rattle.cjc_cmd_card.specs.CmdCheck.Folder.Breaks.{cap_in}
use Rattle.cjc_cmd_card.specs.declared.running.input.Input.{Input}
use Rattle.cjc_components.specs.Components.{components_of}
use Rattle.cjc_components.specs.Package.{Package}
use Rattle.cjc_shape_proof.specs.LowerJudge.declared.judged.Judged.{Judged}
use Rattle.cjc_shape_proof.specs.Written.Converted.{IsConverted}

-- The package was converted of the list and the files that were read, and the folder's components are the ones that are
-- written for it.
pub record IsReadOf (input : Input) (p : Package) : Type 0 where
  pub judged : Judged
  pub converted : IsConverted input.list input.files judged p
  pub cap : cap_in input.parts ≡ Some (components_of p)

-- So it is of each, in order.
abbrev pub AreReadOf : List Input → List Package → Type 0
AreReadOf [] [] = Unit {0}
AreReadOf (i ∷ inputs) (p ∷ packages) = IsReadOf i p × AreReadOf inputs packages
AreReadOf inputs packages = ⊥
