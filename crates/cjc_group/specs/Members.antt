-- A package of a group, as it is linked: its list, its files, and the export file that is written for it.
use Rattle.cjc_list.specs.Listed.{ListTree}
use Rattle.cjc_world.specs.Files.{Files}
use Rattle.cjc_world.specs.ExportFile.declared.tree.ExportTree.{ExportTree}

-- Its name, AID and version are those of its list; its export files are in the order of the list.
pub record Member : Type 0 where
  pub list : ListTree
  pub files : Files
  pub written : ExportTree
