-- The components of a conversion, as they are read from the folder in which they stand.
use Rattle.std.specs.Prelude.{ℕ, List, [], ◌∷◌, ◌++◌, Option, Some, None}
use Rattle.cjc_components.specs.LowerCapWrite.declared.files.CapFiles.{CapFiles}
use Rattle.cjc_cmd_card.specs.declared.running.input.Input.{Input}
use Rattle.cjc_cmd_card.specs.CmdCheck.Folder.Reads.{tags_of}
use Rattle.cjc_cmd_card.specs.CmdCheck.declared.folder.folder.Parts.{Parts}
use Rattle.cjc_components.specs.LowerList.Listed.{ListTree}

-- what may be absent, as a list
abbrev pub where_there : {A : Type 0} → Option A → List A
where_there None = []
where_there (Some x) = x ∷ []

-- the files behind those of Header and Directory, by their tags
abbrev pub others : CapFiles → List (List ℕ)
others caps =
    where_there caps.applet
    ++ (caps.import ∷ caps.pool ∷ caps.class ∷ caps.method ∷ caps.statics ∷ caps.locations ∷ where_there caps.export
    ++ caps.descriptor ∷ [])

-- what is read of a folder in which these files stand
abbrev pub parts_of : CapFiles → Parts
parts_of caps = record {
  header = caps.header;
  directory = caps.directory;
  tags = tags_of caps.directory;
  others = others caps;
}

-- beside a list and its files, with a script of no lines
abbrev pub input_of : ListTree → List (List ℕ) → CapFiles → Input
input_of list files caps = record { list = list; files = files; parts = parts_of caps; script = [] }
