-- Packages of a group as files have them: each was converted, and nothing that is tested of all together is broken.
use Rattle.std.specs.Prelude.{◌≡◌, ℕ, List, [], Some, false, map, slice_get}
use Rattle.cjc_components.specs.Package.{Package}
use Rattle.cjc_group.specs.Missing.{missing}
use Rattle.cjc_group.specs.Rules.{breaks}
use Rattle.cjc_joint_proof.specs.JointTables.{world_together}
use Rattle.cjc_joint_whole.specs.Linking.{linked_as}
use Rattle.cjc_shape_proof.specs.LowerJudge.declared.judged.Judged.{Judged}
use Rattle.cjc_shape_proof.specs.Written.Converted.{IsConverted}
use Rattle.cjc_token_proof.specs.List.Listed.{ListTree}
use Rattle.cjc_world.specs.Rules.{has_cycle}

-- A package that was converted, by its list and the bytes of the list's files; none of its methods is in int mode.
pub record IsWritten (p : Package) : Type 0 where
  pub list : ListTree
  pub files : List (List ℕ)
  pub judged : Judged
  pub converted : IsConverted list files judged p

-- Such packages, in the order in which a group names them. Together they break none of 731 to 735, no class implements
-- an interface below one that its package misses (203), and no class stands above itself among the classes of all (204).
pub record AreWrittenTogether (packages : List Package) : Type 0 where
  pub each : (q : ℕ) (p : Package) → slice_get packages q ≡ Some p → IsWritten p
  pub unbroken : breaks (map linked_as packages) ≡ []
  pub known : missing (map linked_as packages) ≡ []
  pub free : has_cycle (world_together packages) ≡ false
