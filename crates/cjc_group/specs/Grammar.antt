-- The grammar of one line of a text that names a group of packages: `LIST DIR`.
use Rattle.std.specs.Prelude.{ℕ, List, [], ◌∷◌, ◌++◌, length, nat_lt, if◌then◌else◌, Option, Some, None}
use Rattle.cjc_list.specs.Grammar.{◌>>=◌}
use Rattle.cjc_group.specs.declared.line.PackageLine.{PackageLine}

-- the package that the words of a line name
unfoldable pub named_by : List (List ℕ) → Option PackageLine
named_by (list ∷ folder ∷ []) = Some (record { list = list; folder = folder })
named_by _ = None

-- the packages with the one that a further line names, of which there are at most 16
unfoldable pub with_line : List PackageLine → List (List ℕ) → Option (List PackageLine)
with_line packages ws = do
  p ← named_by ws
  if nat_lt (length packages) 16 then Some (packages ++ p ∷ []) else None
