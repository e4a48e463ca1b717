-- The classes of several packages together, and what their export files keep of what stands above classes.
use Rattle.std.specs.Prelude.{◌≡◌, ℕ, Bool, List, ◌++◌, Option, None, Some, false, map, slice_get, true}
use Rattle.cjc_card_semantics.specs.Bytecode.Effects.{Letter}
use Rattle.cjc_card_semantics.specs.Bytes.declared.fault.MemberId.{MemberId}
use Rattle.cjc_card_semantics.specs.ExportFile.declared.tree.ExportClass.{ExportClass}
use Rattle.cjc_card_semantics.specs.ExportFile.declared.tree.ExportTree.{ExportTree}
use Rattle.cjc_exported.specs.World.Classes.{Class, all_classes, class_named}
use Rattle.cjc_exported.specs.World.Supertypes.{IsAcyclic, Lists}
use Rattle.cjc_link_semantics.specs.Components.Package.{Package, world}
use Rattle.cjc_link_semantics.specs.JvmSemantics.Group.{joint, joint_exports}
use Rattle.cjc_token_proof.specs.ByToken.Cells.{are_cells, may_access}
use Rattle.cjc_token_proof.specs.ByToken.Objects.{slots_of}
use Rattle.cjc_token_proof.specs.ByToken.Supers.{has_class}
use Rattle.cjc_token_proof.specs.NCode.Lowering.Agreement.{KnownNames, Memories}
use Rattle.cjc_token_proof.specs.Tables.Known.{may_hold, may_name, order_of}
use Rattle.cjc_joint_proof.specs.Begun.{statics_in}
use Rattle.cjc_joint_proof.specs.Cells.{all_fields, images_of}
use Rattle.cjc_joint_proof.specs.Imports.{AreImports}
use Rattle.cjc_joint_proof.specs.JointAlike.{naming_at}
use Rattle.cjc_joint_proof.specs.JointPackages.{files_together}
use Rattle.cjc_joint_proof.specs.JointTogether.{naming_together, place_together}

-- the classes of all packages, and those of the export files from outside
abbrev pub world_together : List Package → List Class
world_together packages = all_classes (joint (files_together packages))

-- What a package imports says of a class what stands above it in the world of its package, no class from outside lists
-- a class of a package, and no class stands above itself.
pub record KeepSupers (packages : List Package) : Type 0 where
  pub imports : AreImports (files_together packages)
  pub outside : (j k q : ℕ) (t : ExportTree) (e : ExportClass) (p : Package) (c : Class) (y : List ℕ)
      → slice_get (joint_exports (files_together packages)) j ≡ Some t → slice_get t.classes k ≡ Some e
      → Lists y (e.supers ++ e.interfaces) → slice_get packages q ≡ Some p → class_named (world p) y ≡ Some c
      → c.is_imported ≡ true
  pub acyclic : IsAcyclic (world_together packages)

-- ---- the names that code, objects and scripts may have

-- an instruction of this letter may access a static field of the package
abbrev pub may_access_by : Option Package → Letter → MemberId → Bool
may_access_by None k f = false
may_access_by (Some p) k f = may_access (order_of p.image) k f

-- Of which classes, fields and static cells the tables speak: those of all packages and of the export files from
-- outside.
abbrev pub known_together : List Package → KnownNames
known_together packages = let w = world_together packages in record {
  class = has_class w;
  field = may_name w;
  cell = λ k f. may_access_by (slice_get packages (place_together packages f)) k f;
  statics = are_cells (all_fields (map statics_in packages));
  object = may_hold w;
  call = λ m. true;
}

-- objects by their slots, and static fields by the images of all packages
abbrev pub memories_together : List Package → Memories
memories_together packages = record {
  slots = slots_of (naming_at (naming_together packages) 0);
  statics = images_of (map statics_in packages);
}
