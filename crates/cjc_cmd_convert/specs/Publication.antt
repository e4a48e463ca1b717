-- The files of a conversion below a folder, and the lines that are printed of them.
use Rattle.std.specs.Prelude.{◌==◌, ℕ, List, [], ◌∷◌, ◌++◌, length, map, codes, decimal, if◌then◌else◌, Option, Some}
use Rattle.std.specs.Prelude.{None}
use Rattle.cjc_convert.specs.CapWrite.declared.files.CapFiles.{CapFiles}
use Rattle.cjc_shelf.specs.declared.command.status.File.{File}
use Rattle.cjc_shelf.specs.declared.command.status.Todo.{Todo}

-- what stands behind the last slash (47) of the second text; the first where that has none
abbrev pub behind_slash : List ℕ → List ℕ → List ℕ
behind_slash part [] = part
behind_slash part (c ∷ rest) = if c == 47 then behind_slash rest rest else behind_slash part rest

-- the last part of a name whose parts are joined by slashes
abbrev pub last_part : List ℕ → List ℕ
last_part name = behind_slash name name

-- a file with this name and these bytes
abbrev pub named : List ℕ → List ℕ → File
named name bytes = record { name = name; bytes = bytes }

-- a file that may be absent
abbrev pub where_there : List ℕ → Option (List ℕ) → List File
where_there name None = []
where_there name (Some bytes) = named name bytes ∷ []

-- the components in the order of their tags
abbrev pub components_of : CapFiles → List File
components_of caps =
    (named (codes "Header.cap") caps.header ∷ named (codes "Directory.cap") caps.directory ∷ [])
    ++ where_there (codes "Applet.cap") caps.applet
    ++ (named (codes "Import.cap") caps.import ∷ named (codes "ConstantPool.cap") caps.pool
    ∷ named (codes "Class.cap") caps.class ∷ [])
    ++ (named (codes "Method.cap") caps.method ∷ named (codes "StaticField.cap") caps.statics
    ∷ named (codes "RefLocation.cap") caps.locations ∷ [])
    ++ where_there (codes "Export.cap") caps.export
    ++ (named (codes "Descriptor.cap") caps.descriptor ∷ [])

-- the components, and the export file under the last part of the package's name
abbrev pub files_made : (package_name : List ℕ) → CapFiles → (export : List ℕ) → List File
files_made package_name caps export = components_of caps ++ named (last_part package_name ++ codes ".exp") export ∷ []

-- the file in the folder
abbrev pub below : List ℕ → File → File
below dir file = named (dir ++ codes "/" ++ file.name) file.bytes

-- its name without the folder, a blank and how many bytes it has
abbrev pub file_line : File → List ℕ
file_line file = file.name ++ codes " " ++ decimal (length file.bytes) ++ 10 ∷ []

-- all files, and a line for each
abbrev pub publication : List ℕ → List File → Todo
publication dir files = record { files = map (below dir) files; lines = map file_line files }

-- these files and their lines behind what is to be done already
abbrev pub with_files : List ℕ → Todo → List File → Todo
with_files dir todo files = record {
  files = todo.files ++ map (below dir) files;
  lines = todo.lines
      ++ map file_line files;
}
