-- What the files of a list are, as a world and its codes.
use Rattle.std.specs.Prelude.{◌≡◌, ℕ, List, [], ◌∷◌, true, false}
use Rattle.cjc_bytes.specs.Format.{FileSpells}
use Rattle.cjc_bytes.specs.declared.settings.FileLine.{FileLine}
use Rattle.cjc_world.specs.ClassFile.ClassFile.{class_file}
use Rattle.cjc_world.specs.ClassFile.Fits.{ClassFits}
use Rattle.cjc_world.specs.ClassFile.declared.tree.ClassTree.{ClassTree}
use Rattle.cjc_clinit.specs.Bytecode.declared.method_code.MethodCode.{MethodCode}
use Rattle.cjc_world.specs.ExportFile.ExportFile.{export_file}
use Rattle.cjc_world.specs.ExportFile.Writable.{IsWritable}
use Rattle.cjc_clinit.specs.Bytecode.PackageCodes.{all_codes}
use Rattle.cjc_judge.specs.Rules.{CodeBreaks}
use Rattle.cjc_judge.specs.Spelt.{FileTree, of_class, of_export, classes_of, exports_of}
use Rattle.cjc_world.specs.Files.{Files}

-- The code of no method breaks rule 103.
abbrev pub AreInstructions : ClassTree → Type 0
AreInstructions tree = (method offset : ℕ) → CodeBreaks tree method 103 offset → ⊥

-- The file of the line spells this, and breaks no rule of the first hundred. A class that was read keeps to the widths
-- of
-- its fields, and an export tree that was read can be written.
abbrev pub FileIs : FileLine → List ℕ → FileTree → Type 0
FileIs line bytes (of_class tree) = (line.class_file ≡ true) × FileSpells class_file tree bytes × AreInstructions tree
    × ClassFits tree
FileIs line bytes (of_export tree) = (line.class_file ≡ false) × FileSpells export_file tree bytes × IsWritable tree

-- The files of the lines are these, in list order.
abbrev pub AllSpelt : List FileLine → List (List ℕ) → List FileTree → Type 0
AllSpelt [] files trees = (files ≡ []) × (trees ≡ [])
AllSpelt (line ∷ lines) [] trees = ⊥
AllSpelt (line ∷ lines) (bytes ∷ files) [] = ⊥
AllSpelt (line ∷ lines) (bytes ∷ files) (tree ∷ trees) = FileIs line bytes tree × AllSpelt lines files trees

-- The files spell the classes and export files of this world, each in list order, and these are the instructions of all
-- methods
-- that break neither 103 nor 303, in the order of the classes and of their methods.
pub record AreRead (lines : List FileLine) (files : List (List ℕ)) (world : Files) (codes : List MethodCode) :
    Type 0 where
  pub trees : List FileTree
  pub spelt : AllSpelt lines files trees
  pub classes : world.classes ≡ classes_of trees
  pub exports : world.exports ≡ exports_of trees
  pub codes_are : codes ≡ all_codes world.classes
