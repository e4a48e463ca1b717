-- The input of a world: the package's name, lines, class files and export files, of which all that is said of
-- look-up speaks.
use Rattle.std.specs.Prelude.{ℕ, List}
use Rattle.cjc_bytes.specs.declared.settings.FileLine.{FileLine}
use Rattle.cjc_classfile.specs.declared.tree.ClassTree.{ClassTree}
use Rattle.cjc_export.specs.declared.tree.ExportTree.{ExportTree}

-- The package's name, the lines of the list that name files, the class files and the export files, each in
-- the order of the list.
pub record Files : Type 0 where
  pub package_name : List ℕ
  pub lines : List FileLine
  pub classes : List ClassTree
  pub exports : List ExportTree

-- what a world is made of, from its four parts
abbrev pub files_of : (package_name : List ℕ) → List FileLine → List ClassTree → List ExportTree → Files
files_of package_name lines classes exports = record {
  package_name = package_name;
  lines = lines;
  classes = classes;
  exports = exports;
}
