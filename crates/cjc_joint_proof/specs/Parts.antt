-- A package of a group, and the same package loaded by itself with the export files that it imports: what a class is in
-- the group that the package by itself has.
use Rattle.std.specs.Prelude.{◌≡◌, ℕ, List, [], ◌∷◌, Option, Some, None, option_and_then, slice_get}
use Rattle.cjc_card_semantics.specs.Bytecode.Machine.{Start}
use Rattle.cjc_card_semantics.specs.Machine.Calls.{Described}
use Rattle.cjc_card_semantics.specs.Machine.Classes.{Class, Own, External, external, import_of, imported_class}
use Rattle.cjc_card_semantics.specs.Machine.Loaded.{Import, OfFile, Part, Loaded}
use Rattle.cjc_card_semantics.specs.Machine.Methods.{Code}

-- The package at a place of the group has the components and names of the one that is loaded by itself, and imports of
-- its own. By itself it imports export files by their numbers.
pub record IsPart (alone group : Loaded) (q : ℕ) : Type 0 where
  pub part : Part
  pub imports : List Import
  pub by_itself : alone.parts ≡ part ∷ []
  pub files : (k token : ℕ) → option_and_then (imported_class alone token) (import_of alone 0 k)
      ≡ imported_class alone token (OfFile k)
  pub there : slice_get group.parts q ≡ Some (record part { imports = imports })

-- What a class of the package by itself is in the group: its own at the same offset, and one of an export file as the
-- group's import means it.
abbrev pub class_in : (group : Loaded) → (q : ℕ) → Class → Option Class
class_in group q (Own p offset) = Some (Own q offset)
class_in group q (External k token) = option_and_then (imported_class group token) (import_of group q k)

-- The group has no class by a token of an import where the export file has none.
abbrev pub HasNoOther : (alone group : Loaded) → (q : ℕ) → Type 0
HasNoOther alone group q = (k token : ℕ) → external alone k token ≡ None → class_in group q (External k token) ≡ None

-- the code of a method in the package at this place
abbrev pub code_in : (q : ℕ) → Code → Code
code_in q code = record code { part = q }

-- how a method begins there
abbrev pub start_in : (q : ℕ) → Start Code → Start Code
start_in q s = record s { code = code_in q s.code }

-- what Descriptor says of a method there
abbrev pub described_in : (q : ℕ) → Described → Described
described_in q d = record d { part = q }
