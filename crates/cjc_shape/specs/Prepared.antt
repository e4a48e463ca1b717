-- Packages that break no rule of their files.
use Rattle.std.specs.Prelude.{ℕ, List, [], ◌∷◌}
use Rattle.cjc_judge.specs.declared.groups.Group.{Group}
use Rattle.cjc_judge.specs.declared.groups.Group.TheVariants as groups
use Rattle.cjc_judge.specs.declared.judged.Judged.{Judged}
use Rattle.cjc_judge.specs.Judged.{IsJudged}
use Rattle.cjc_shape.specs.Judged.Tested.{AreFiles}
use Rattle.cjc_methods.specs.List.Listed.{ListTree}

-- what a package is tested for before it is written, beyond single files, the classes together and what instructions
-- name
abbrev pub tested : List Group
tested = groups.Unsupported ∷ groups.Initialisers ∷ groups.Limits ∷ groups.Tokens ∷ groups.Ranges ∷ []

-- The package of a list and its files breaks none of these rules.
pub record IsSound (list : ListTree) (files : List (List ℕ)) (judged : Judged) : Type 0 where
  pub judged_by : IsJudged list files tested judged
  pub are_files : AreFiles files

-- The files of its list break none of these rules.
abbrev pub BreaksNothing : Judged → Type 0
BreaksNothing j = IsSound j.list.now j.files.now j
