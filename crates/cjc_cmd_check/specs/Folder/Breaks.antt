-- What the files that were read say, and which of them break their format.
use Rattle.std.specs.Prelude.{◌≡◌, ◌==◌, if◌then◌else◌, ℕ, ◌<◌, ◌^◌, List, [], ◌∷◌, ◌++◌, All, length, Option, Some}
use Rattle.std.specs.Prelude.{None, Result, Ok, Err}
use Rattle.cjc_bytes.specs.Breaks.{Break, RulePlace, broken_at}
use Rattle.cjc_bytes.specs.Order.{FilePlace}
use Rattle.cjc_bytes.specs.Reading.{read_file}
use Rattle.cjc_bytes.specs.Refused.{in_file}
use Rattle.cjc_bytes.specs.declared.order.FileKey.TheVariants as keys
use Rattle.cjc_capread.specs.Kinds.{applet_of, import_of, pool_of, class_of, method_of, statics_of, locations_of}
use Rattle.cjc_capread.specs.Kinds.{export_of, descriptor_of}
use Rattle.cjc_capread.specs.declared.tree.CapTree.{CapTree}
use Rattle.cjc_capread.specs.declared.tree.Component.{Component}
use Rattle.cjc_capread.specs.declared.tree.Component.TheVariants as components
use Rattle.cjc_capread.specs.declared.tree.Directory.{Directory}
use Rattle.cjc_capread.specs.declared.tree.Header.{Header}
use Rattle.cjc_check.specs.LowerExportFile.ExportFile.{export_file}
use Rattle.cjc_check.specs.LowerExportFile.declared.tree.ExportTree.{ExportTree}
use Rattle.cjc_check.specs.LowerCheckRules.Consistent.{file_name}
use Rattle.cjc_cmd_check.specs.Folder.Reads.{export_names, export_places, read_component, tags_of}
use Rattle.cjc_cmd_check.specs.declared.folder.folder.Folder.{Folder}
use Rattle.cjc_cmd_check.specs.declared.folder.folder.Parts.{Parts}
use Rattle.cjc_cmd_check.specs.declared.folder.trees.FolderTrees.{FolderTrees}

-- ---- what is broken

-- an offset of a file as a whole
abbrev pub file_spot : FilePlace → (offset : ℕ) → RulePlace
file_spot f offset = record { file = f.key; class = 0; member = 0; place = in_file f.name offset }

-- where a file breaks its format, a rule is broken at that place
abbrev pub break_in : {A : Type 0} → (rule : ℕ) → FilePlace → Result A ℕ → List Break
break_in rule f (Ok tree) = []
break_in rule f (Err place) = broken_at (file_spot f place) rule ∷ []

-- 104: export files at these places that spell none
unfoldable pub export_breaks : List FilePlace → List (List ℕ) → List Break
export_breaks (f ∷ places) (bytes ∷ files) = break_in 104 f (read_file export_file bytes) ++ export_breaks places files
export_breaks _ _ = []

-- a component's file; the folder is not told
abbrev pub component_place : (tag : ℕ) → FilePlace
component_place tag = record { key = keys.Component tag; name = file_name tag }

-- 106: files that spell no component of the tag that each is to have
unfoldable pub component_breaks : (tags : List ℕ) → List (List ℕ) → List Break
component_breaks (tag ∷ tags) (bytes ∷ files) = break_in 106 (component_place tag) (read_component tag bytes)
    ++ component_breaks tags files
component_breaks _ _ = []

-- 106: Header, Directory and the other components that Directory says are there
abbrev pub part_breaks : Parts → List Break
part_breaks p = component_breaks (1 ∷ 2 ∷ p.tags) (p.header ∷ p.directory ∷ p.others)

-- what is broken of the first; where nothing is, of the second
abbrev pub unless_broken : List Break → List Break → List Break
unless_broken [] others = others
unless_broken (b ∷ bs) others = b ∷ bs

-- the rules that files break by themselves: export files, and where none does components
abbrev pub file_breaks : Folder → List Break
file_breaks f = unless_broken (export_breaks (export_places 0 f.list.lines) f.exports) (part_breaks f.parts)

-- ---- what the files say, where none breaks

-- what a file says, if it does not break its format
abbrev pub kept_tree : {A : Type 0} → Result A ℕ → List A
kept_tree (Ok tree) = tree ∷ []
kept_tree (Err place) = []

-- the export files, in the order of the list
unfoldable pub export_trees : List (List ℕ) → List ExportTree
export_trees [] = []
export_trees (bytes ∷ files) = kept_tree (read_file export_file bytes) ++ export_trees files

-- the components of a package of which Header and Directory are these, and no other is there
abbrev pub front : Header → Directory → CapTree
front header directory = record {
  header = header;
  directory = directory;
  applet = None;
  import = None;
  pool = None;
  class = None;
  method = None;
  statics = None;
  locations = None;
  export = None;
  descriptor = None;
}

-- with this component of the tag
abbrev pub with_component : CapTree → (tag : ℕ) → Component → CapTree
with_component cap tag x =
    if tag == 3 then record cap { applet = applet_of x }
    else if tag == 4 then record cap { import = import_of x }
    else if tag == 5 then record cap { pool = pool_of x }
    else if tag == 6 then record cap { class = class_of x }
    else if tag == 7 then record cap { method = method_of x }
    else if tag == 8 then record cap { statics = statics_of x }
    else if tag == 9 then record cap { locations = locations_of x }
    else if tag == 10 then record cap { export = export_of x }
    else record cap { descriptor = descriptor_of x }

-- with what was read as the component of a tag; unchanged where its format is broken
abbrev pub with_read : CapTree → (tag : ℕ) → Result Component ℕ → CapTree
with_read cap tag (Ok x) = with_component cap tag x
with_read cap tag (Err place) = cap

-- with the components that these files say, each of its tag
unfoldable pub with_components : CapTree → (tags : List ℕ) → List (List ℕ) → CapTree
with_components cap (tag ∷ tags) (bytes ∷ files) = with_components (with_read cap tag (read_component tag bytes)) tags
    files
with_components cap _ _ = cap

-- the components, where Header and Directory were read
abbrev pub cap_of : (header directory : Result Component ℕ) → (tags : List ℕ) → List (List ℕ) → Option CapTree
cap_of (Ok (components.Header h)) (Ok (components.Directory d)) tags files =
    Some (with_components (front h d) tags files)
cap_of _ _ tags files = None

-- the components of a folder
abbrev pub cap_in : Parts → Option CapTree
cap_in p = cap_of (read_component 1 p.header) (read_component 2 p.directory) p.tags p.others

-- ---- what is given

-- Each file has a length of four bytes.
abbrev pub IsShort : List ℕ → Type 0
IsShort bytes = length bytes < 2 ^ 32

-- so it is with the file of each component
pub record ArePartsShort (p : Parts) : Type 0 where
  pub header : IsShort p.header
  pub directory : IsShort p.directory
  pub others : All IsShort p.others

-- so it is with each export file and the file of each component
pub record AreShort (f : Folder) : Type 0 where
  pub exports : All IsShort f.exports
  pub parts : ArePartsShort f.parts

-- The tags are those that Directory says are there, and each has a file.
pub record ArePartsRead (p : Parts) : Type 0 where
  pub others : length p.others ≡ length p.tags
  pub tags : p.tags ≡ tags_of p.directory

-- So it is with the components, and each export file of the list is there.
pub record AreRead (f : Folder) : Type 0 where
  pub exports : length f.exports ≡ length (export_names f.list.lines)
  pub parts : ArePartsRead f.parts

-- ---- what is answered

-- No file breaks its format, and these are what they say.
pub record AreTrees (f : Folder) (trees : FolderTrees) : Type 0 where
  pub unbroken : file_breaks f ≡ []
  pub exports : trees.exports ≡ export_trees f.exports
  pub cap : cap_in f.parts ≡ Some trees.cap
