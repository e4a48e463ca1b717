-- The files of a shelf that has a made package alone.
use Rattle.std.specs.Prelude.{ℕ, ◌+◌, List, [], ◌∷◌, ◌++◌, codes, decimal}
use Rattle.std.specs.FinMap.{empty}
use Rattle.cjc_cmd_card.specs.Shelf.Command.Publish.{written_files}
use Rattle.cjc_cmd_card.specs.Shelf.declared.command.status.File.{File}
use Rattle.cjc_cmd_make.specs.Package.Package.{package_of}
use Rattle.cjc_cmd_make.specs.declared.package.made.Made.{Made}
use Rattle.cjc_cmd_convert.specs.Publication.{named}
use Rattle.cjc_cmd_card.specs.Shelf.Shelf.{Files}

-- the name of the list
abbrev pub list_name : List ℕ
list_name = codes "list"

-- the name of the script
abbrev pub script_name : List ℕ
script_name = codes "script"

-- the folder that components are written into
abbrev pub folder : List ℕ
folder = codes "out"

-- the name that the list has for the file of a class
abbrev pub class_file_name : ℕ → List ℕ
class_file_name i = codes "C" ++ decimal i ++ codes ".class"

-- class files under their names, numbered from this number on
abbrev pub named_classes : ℕ → List (List ℕ) → List File
named_classes i [] = []
named_classes i (bytes ∷ classes) = named (class_file_name i) bytes ∷ named_classes (i + 1) classes

-- the export file of java/lang and the class files, under the names that the list has for them
abbrev pub named_files : List (List ℕ) → List File
named_files [] = []
named_files (lang ∷ classes) = named (codes "lang.exp") lang ∷ named_classes 0 classes

-- the list, the files that it names, and the script
abbrev pub package_files : Made → List File
package_files made = named list_name made.list ∷ (named_files made.files ++ named script_name made.script ∷ [])

-- the files of a shelf that has the package of this number and size alone
abbrev pub made_files : (number size : ℕ) → Files
made_files number size = written_files (package_files (package_of number size)) empty
