-- What a conversion makes, what it refuses, and what its promise rests on, by one name each for whoever calls a
-- conversion.
use Rattle.std.specs.Prelude.{ℕ, List}
use Rattle.cjc_theorem.specs.Alike.Alike as alike
use Rattle.cjc_shelf.specs.Bytes.declared.fault.Refusal.{Refusal}
use Rattle.cjc_theorem.specs.CapRead.declared.tree.CapTree.{CapTree}
use Rattle.cjc_convert.specs.Conversion as assembled
use Rattle.cjc_convert.specs.declared.conversion.Converted.{Converted}
use Rattle.cjc_theorem.specs.ExportFile.declared.tree.ExportTree.{ExportTree}
use Rattle.cjc_theorem.specs.FairExports.Fair as fair
use Rattle.cjc_convert.specs.List.Listed.{ListTree}
use Rattle.cjc_theorem.specs.Shape.Whole.Conversion as whole
use Rattle.cjc_convert.specs.World.Files.{Files}

-- the component files and the export file
abbrev pub Conversion : Type 0
Conversion = Converted

-- These are what is written for the package of a list with these files, each method by its mode.
abbrev pub IsConverted : ListTree → List (List ℕ) → Conversion → Type 0
IsConverted list files made = assembled.IsConvertedByModes list files made

-- The package of a list with these files breaks a rule, and this is the first.
abbrev pub IsRefused : ListTree → List (List ℕ) → Refusal → Type 0
IsRefused list files r = whole.IsRefused list files r

-- The export files do not contradict one another.
abbrev pub ExportsAreFair : List ExportTree → Type 0
ExportsAreFair exports = fair.ExportsAreFair exports

-- No method of these files that is written is in int mode.
abbrev pub NoneInIntMode : ListTree → Files → Type 0
NoneInIntMode list files = alike.NoneInIntMode list files

-- The class files of a list over its export files, run by name, and these components, run by token, behave alike.
abbrev pub BehaveAlike : ListTree → Files → CapTree → Type 0
BehaveAlike list files cap = alike.BehaveAlike list files cap
