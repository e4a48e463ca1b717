-- Packages that a group links: what is tested of each and of all together.
use Rattle.std.specs.Prelude.{◌≡◌, ℕ, List, [], Some, false, map, slice_get}
use Rattle.cjc_components.specs.ExportFile.{export_of}
use Rattle.cjc_components.specs.Package.{Package}
use Rattle.cjc_group.specs.Members.{Member as Linked}
use Rattle.cjc_group.specs.Rules.{breaks}
use Rattle.cjc_joint_proof.specs.JointPackages.{files_together}
use Rattle.cjc_joint_proof.specs.JointTables.{world_together}
use Rattle.cjc_joint_proof.specs.Sound.{IsSoundPackage}
use Rattle.cjc_joint_proof.specs.Worlds.{AreApartFromOutside}
use Rattle.cjc_world.specs.Rules.{has_cycle}

-- a package as it is linked: its list, its files, and the export file that is written for it
abbrev pub linked_as : Package → Linked
linked_as p = record { list = p.list; files = p.files; written = export_of p }

-- Packages that by themselves break no rule of classes and names, each of the name that its list gives. Together they
-- break none of 731 to 735, and no class stands above itself. Of the classes of export files from outside none has the
-- name of another or of a class of a package: no rule keeps two packages outside from listing one class.
pub record KeepGroupRules (packages : List Package) : Type 0 where
  pub each : (q : ℕ) (p : Package) → slice_get packages q ≡ Some p → IsSoundPackage p.files
  pub names : (q : ℕ) (p : Package) → slice_get packages q ≡ Some p → (let list = p.list in list.«package»)
      ≡ (let files = p.files in files.package_name)
  pub unbroken : breaks (map linked_as packages) ≡ []
  pub free : has_cycle (world_together packages) ≡ false
  pub outside : AreApartFromOutside (files_together packages)
