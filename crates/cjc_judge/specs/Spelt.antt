-- Which class files and export files the bytes of a list's files spell, in the order of its lines.
use Rattle.std.specs.Prelude.{◌≡◌, ℕ, ◌<◌, List, [], ◌∷◌, length, All, true, false}
use Rattle.cjc_bytes.specs.Format.{FileSpells}
use Rattle.cjc_bytes.specs.declared.settings.FileLine.{FileLine}
use Rattle.cjc_world.specs.ClassFile.ClassFile.{class_file}
use Rattle.cjc_world.specs.ClassFile.declared.tree.ClassTree.{ClassTree}
use Rattle.cjc_world.specs.ExportFile.ExportFile.{export_file}
use Rattle.cjc_world.specs.ExportFile.declared.tree.ExportTree.{ExportTree}
use Rattle.cjc_list.specs.Listed.{ListTree}
use Rattle.cjc_list.specs.Spelling.{IsSpelt as IsListSpelt}

-- what one file spells
pub data FileTree : Type 0 where
  of_class : ClassTree → FileTree
  of_export : ExportTree → FileTree

-- The file of the line spells this.
abbrev pub SpellsTree : FileLine → List ℕ → FileTree → Type 0
SpellsTree line bytes (of_class tree) = (line.class_file ≡ true) × FileSpells class_file tree bytes
SpellsTree line bytes (of_export tree) = (line.class_file ≡ false) × FileSpells export_file tree bytes

-- The files of the lines spell these, in list order.
abbrev pub SpellTrees : List FileLine → List (List ℕ) → List FileTree → Type 0
SpellTrees [] files trees = (files ≡ []) × (trees ≡ [])
SpellTrees (line ∷ lines) [] trees = ⊥
SpellTrees (line ∷ lines) (bytes ∷ files) [] = ⊥
SpellTrees (line ∷ lines) (bytes ∷ files) (tree ∷ trees) = SpellsTree line bytes tree × SpellTrees lines files trees

-- the classes, in list order
abbrev pub classes_of : List FileTree → List ClassTree
classes_of [] = []
classes_of (of_class tree ∷ trees) = tree ∷ classes_of trees
classes_of (of_export tree ∷ trees) = classes_of trees

-- the export files, in list order
abbrev pub exports_of : List FileTree → List ExportTree
exports_of [] = []
exports_of (of_class tree ∷ trees) = exports_of trees
exports_of (of_export tree ∷ trees) = tree ∷ exports_of trees

-- ---- what is given

-- Some text of fewer than 2^32 bytes spells this list.
abbrev pub IsRead : ListTree → Type 0
IsRead list = (text : List ℕ) × (length text < 4294967296) × IsListSpelt list.name list text

-- Each file has a length of four bytes.
abbrev pub AreFiles : List (List ℕ) → Type 0
AreFiles files = All (λ bytes. length bytes < 4294967296) files
