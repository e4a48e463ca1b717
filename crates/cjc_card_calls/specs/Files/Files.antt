-- What is kept of what stands above imported classes.
use Rattle.std.specs.Prelude.{◌≡◌, ◌==◌, ℕ, List, [], ◌∷◌, map, Option, Some, None, option_map, slice_get, unwrap_or}
use Rattle.std.specs.Borrow.{Bor}
use Rattle.std.specs.HashMap.{get_by}
use Rattle.cjc_card_semantics.specs.ExportFile.declared.tree.ExportClass.{ExportClass}
use Rattle.cjc_card_semantics.specs.ExportFile.declared.tree.ExportTree.{ExportTree}
use Rattle.cjc_card_semantics.specs.ExportFile.Supers.{upwards}
use Rattle.cjc_card_semantics.specs.Machine.Loaded.{Loaded}
use Rattle.cjc_card_semantics.specs.Machine.Classes.{external, with_token}
use Rattle.cjc_card_semantics.specs.Machine.Dispatch.{exported_line}
use Rattle.cjc_card_calls.specs.declared.files.file.File.{File}
use Rattle.cjc_card_calls.specs.declared.files.files.Files.{Files}

-- the classes that are referred to
abbrev pub classes_at : List (Bor ExportClass) → List ExportClass
classes_at line = map (λ c. c.now) line

-- what is kept of a file under a token
abbrev pub row_under : File → (token : ℕ) → Option (List (Bor ExportClass))
row_under file token = get_by (λ k. token == k) file.kept

-- what classes these are
abbrev pub line_by : File → (token : ℕ) → Option (List ExportClass)
line_by file token = option_map classes_at (row_under file token)

-- a class, and what stands above it among others
abbrev pub line_of : List ExportClass → ExportClass → List ExportClass
line_of classes c = c ∷ upwards classes c.supers

-- the same, where there is a class
abbrev pub line_or_none : List ExportClass → Option ExportClass → List ExportClass
line_or_none classes None = []
line_or_none classes (Some c) = line_of classes c

-- a class of a file by its token, and what stands above it
abbrev pub line_in : File → (token : ℕ) → List ExportClass
line_in file token = classes_at (unwrap_or (row_under file token) file.nothing)

-- the same in one of several files
abbrev pub line_at : List File → (tree token : ℕ) → Option (List ExportClass)
line_at files tree token = option_map (λ f. line_in f token) (slice_get files tree)

-- what an export file of several has under a token, and what stands above it
abbrev pub line_listed : List ExportClass → List ExportTree → (tree token : ℕ) → Option (List ExportClass)
line_listed classes trees tree token = option_map (λ t. line_or_none classes (with_token t.classes token))
    (slice_get trees tree)

-- an imported class by the number of its file and its token, and what stands above it
abbrev pub line_under : Files → (tree token : ℕ) → List ExportClass
line_under files tree token = line_in (unwrap_or (slice_get files.kept tree) files.nothing) token

-- Each imported class is kept with what stands above it.
abbrev pub AreFiles : Loaded → Files → Type 0
AreFiles l files = (tree token : ℕ) → line_under files tree token ≡ exported_line l (external l tree token)
