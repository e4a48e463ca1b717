-- What is asked of the files of packages of a group holds of the files of their members, which are the same.
use Rattle.std.proofs.Common.{◌≡◌, ℕ, subst, List, Some}
use Rattle.std.specs.Prelude.{◌++◌, slice_get}
use Rattle.cjc_components.specs.Package.{Package}
use Rattle.cjc_joint_proof.specs.JointPackages.{files_together}
use Rattle.cjc_joint_proof.specs.JointTables.{world_together}
use Rattle.cjc_joint_proof.specs.Worlds.{outside_classes}
use Rattle.cjc_joint_theorem.specs.Members.{Member, files_of}
use Rattle.cjc_joint_whole.specs.Selected.{SelectTogether}
use Rattle.cjc_joint_whole.specs.Told.{AboveIsKnown, AbstractsKeepKinds, FacesDeclareAgain, IsToldAbove}
use Rattle.cjc_joint_whole.specs.Told.{OutsideKeepsKinds}
use Rattle.cjc_joint_whole.specs.Told.{OutsideListsAbove}
use Rattle.cjc_world.specs.Classes.{Class, all_classes, class_named}
use Rattle.cjc_world.specs.ExportFile.declared.tree.ExportClass.{ExportClass}
use Rattle.cjc_world.specs.Files.{Files}
use Rattle.cjc_world.specs.Supertypes.{Lists}
use Rattle.cjc_joint_files.specs.Fair.{AreFairTogether}
use Rattle.cjc_joint_files.specs.Members.{AreMembersOf}
use Rattle.cjc_joint_files.proofs.FilesLaws.ToldKinds.{outside_keeps_kinds}
use Rattle.cjc_joint_files.proofs.FilesLaws.ToldPackages.{files_are, package_at}

module _ (packages : List Package) (fair : AreFairTogether packages) where
  -- what stands above classes from outside is known to a package of these files
  abbrev IsKnownTo : Files → Type 0
  IsKnownTo p = (k : ℕ) (e : ExportClass) (c d : Class) (y : List ℕ)
      → slice_get (outside_classes (files_together packages)) k ≡ Some e → class_named (all_classes p) e.name ≡ Some c
      → Lists y (e.supers ++ e.interfaces) → class_named (world_together packages) y ≡ Some d → (b : Class)
      × (class_named (all_classes p) y ≡ Some b)

  above_known : AboveIsKnown (files_together packages)
  above_known q k p e c d y at =
      let x = package_at packages q p at in
      subst IsKnownTo x.2 (λ k e c d y. fair.told q k x.0 e c d y x.1) k e c d y

  module _ (members : List Member) (is : SelectTogether packages) (of : AreMembersOf packages members) where
    same : files_together packages ≡ files_of members
    same = files_are packages members of

    pub told_above : IsToldAbove members
    told_above = record {
      asked = subst OutsideListsAbove same fair.inherited;
      known = subst AboveIsKnown same above_known;
      outside = subst OutsideKeepsKinds same (outside_keeps_kinds packages is fair);
      abstracts = subst AbstractsKeepKinds same fair.abstracts;
      objects = subst FacesDeclareAgain same fair.objects;
    }
