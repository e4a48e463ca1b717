-- What is read where components in a folder are to be looked at: a list, its export files, and the components of the
-- folder.
use Rattle.std.specs.Prelude.{ℕ, ◌+◌, ◌-◌, Bool, not, List, [], ◌∷◌, ◌++◌, length, map, filter, get_or, codes, ◌==◌}
use Rattle.std.specs.Prelude.{if◌then◌else◌, Result, Ok, Err}
use Rattle.std.specs.List.{range_with_len}
use Rattle.cjc_bytes.specs.Order.{FilePlace}
use Rattle.cjc_bytes.specs.Reading.{read_file}
use Rattle.cjc_bytes.specs.declared.order.FileKey.TheVariants as keys
use Rattle.cjc_bytes.specs.declared.settings.FileLine.{FileLine}
use Rattle.cjc_capread.specs.Component.{component}
use Rattle.cjc_capread.specs.declared.tree.Component.{Component}
use Rattle.cjc_capread.specs.declared.tree.Component.TheVariants as components
use Rattle.cjc_capread.specs.declared.tree.Directory.{Directory}
use Rattle.cjc_shelf.specs.Command.Plan.{Plan, has, ◌>>=◌, read, read_each, unless_refused}
use Rattle.cjc_list.specs.Listed.{ListTree, listed}
use Rattle.cjc_check.specs.LowerCheckRules.Consistent.{file_name}
use Rattle.cjc_cmd_check.specs.declared.folder.folder.Folder.{Folder}
use Rattle.cjc_cmd_check.specs.declared.folder.folder.Parts.{Parts}

-- ---- names

-- the export files among the lines of a list, the first of which has this number
unfoldable pub export_places : (number : ℕ) → List FileLine → List FilePlace
export_places n [] = []
export_places n (line ∷ lines) = if line.class_file then export_places (n + 1) lines else record {
  key = keys.Line n;
  name = line.name;
} ∷ export_places (n + 1) lines

-- the names of the export files among the lines of a list, in their order
abbrev pub export_names : List FileLine → List (List ℕ)
export_names lines = map (λ (f : FilePlace). f.name) (export_places 0 lines)

-- the name of a component's file in the folder
abbrev pub component_name : (dir : List ℕ) → (tag : ℕ) → List ℕ
component_name dir tag = dir ++ codes "/" ++ file_name tag

-- ---- which components are there

-- the bytes of a component's file as a component of the tag, or the place where they break
abbrev pub read_component : (tag : ℕ) → List ℕ → Result Component ℕ
read_component tag bytes = read_file (component tag (length bytes)) bytes

-- whether a size of a component is not 0; the sizes begin with that of tag 1
abbrev pub has_size : List ℕ → (tag : ℕ) → Bool
has_size sizes tag = not (get_or sizes (tag - 1) 0 == 0)

-- the tags from Applet to Descriptor whose size is not 0
unfoldable pub tags_with_size : List ℕ → List ℕ
tags_with_size sizes = filter (has_size sizes) (range_with_len 3 9)

-- of what was read as a Directory, the tags of the components other than Header and Directory that it says are there
abbrev pub tags_in : Result Component ℕ → List ℕ
tags_in (Ok (components.Directory d)) = tags_with_size d.component_sizes
tags_in other = []

-- the same of its bytes; none where they spell no Directory
abbrev pub tags_of : List ℕ → List ℕ
tags_of bytes = tags_in (read_component 2 bytes)

-- ---- what is read

-- the components of a folder: Header, Directory, and then those whose size in Directory is not 0, by their tags
abbrev pub plan_of_others : (dir header directory : List ℕ) → Plan Parts
plan_of_others dir header directory = do
  others ← read_each (map (component_name dir) (tags_of directory))
  has (record { header = header; directory = directory; tags = tags_of directory; others = others })

-- behind Header, Directory and then the components that it says are there
abbrev pub plan_behind_header : (dir header : List ℕ) → Plan Parts
plan_behind_header dir header = do
  directory ← read (component_name dir 2)
  plan_of_others dir header directory

-- all components of a folder, Header first
abbrev pub plan_of_parts : (dir : List ℕ) → Plan Parts
plan_of_parts dir = do
  header ← read (component_name dir 1)
  plan_behind_header dir header

-- behind the export files, the components of the folder
abbrev pub plan_behind_exports : (dir : List ℕ) → ListTree → List (List ℕ) → Plan Folder
plan_behind_exports dir list exports = do
  parts ← plan_of_parts dir
  has (record { list = list; exports = exports; parts = parts })

-- behind a list its export files, in the order of its lines, and the components of the folder
abbrev pub plan_behind_list : (dir : List ℕ) → ListTree → Plan Folder
plan_behind_list dir list = do
  exports ← read_each (export_names list.lines)
  plan_behind_exports dir list exports

-- what is read behind the text of a list, unless the text is refused
abbrev pub plan_behind_text : (name dir text : List ℕ) → Plan Folder
plan_behind_text name dir text = do
  list ← unless_refused (listed name text)
  plan_behind_list dir list

-- the list of this name, its export files, and the components of the folder
abbrev pub plan_of_folder : (name dir : List ℕ) → Plan Folder
plan_of_folder name dir = do
  text ← read name
  plan_behind_text name dir text
