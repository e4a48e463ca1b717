-- The components of several packages as one group for the machine by token: an import is another package of the group,
-- by its number, or an export file from outside, each of which stands once.
use Rattle.std.specs.Prelude.{ℕ, suc, List, [], ◌∷◌, map, Bool, if◌then◌else◌, Option, Some, None, option_map}
use Rattle.std.specs.Str.{bytes_eq}
use Rattle.cjc_components.specs.LowerCardSemantics.Machine.Loaded.{Import, OfGroup, OfFile, Part, Loaded}
use Rattle.cjc_components.specs.LowerCheckRules.Complete.{Complete}
use Rattle.cjc_components.specs.LowerJvmSemantics.Group.{joint_exports}
use Rattle.cjc_components.specs.Paired.Naming.{part_of}
use Rattle.cjc_components.specs.LowerExportFile.declared.tree.ExportTree.{ExportTree}
use Rattle.cjc_components.specs.World.Files.{Files}
use Rattle.cjc_components.specs.World.declared.image.StaticImage.{StaticImage}

-- A package of the group: whether it has applets, its files, what its static cells hold at first, and its components.
pub record Member : Type 0 where
  pub applets : Bool
  pub files : Files
  pub image : StaticImage
  pub components : Complete

-- the number of the package of a name
abbrev pub package_number : List Member → (name : List ℕ) → Option ℕ
package_number [] name = None
package_number (m ∷ group) name = let files = m.files in if bytes_eq files.package_name name then Some 0
    else option_map suc (package_number group name)

-- the number of the export file of a name; how many there are where none has it
abbrev pub tree_number : List ExportTree → (name : List ℕ) → ℕ
tree_number [] name = 0
tree_number (t ∷ trees) name = if bytes_eq t.name name then 0 else suc (tree_number trees name)

-- a package of the group, or one outside
abbrev pub import_as : List ExportTree → (name : List ℕ) → Option ℕ → Import
import_as outside name (Some q) = OfGroup q
import_as outside name None = OfFile (tree_number outside name)

-- what an export file of a package stands for
abbrev pub import_by : List Member → List ExportTree → ExportTree → Import
import_by group outside t = import_as outside t.name (package_number group t.name)

-- a package with its imports
abbrev pub part_in : List Member → List ExportTree → Member → Part
part_in group outside m =
    let files = m.files in
    record (part_of m.applets m.files m.image m.components) { imports = map (import_by group outside) files.exports }

-- the files of all packages
abbrev pub files_of : List Member → List Files
files_of group = map (λ (m : Member). m.files) group

-- The packages, and the export files of what is outside.
abbrev pub group_loaded : List Member → Loaded
group_loaded group =
    let outside = joint_exports (files_of group) in
    record { parts = map (part_in group outside) group; trees = outside }
