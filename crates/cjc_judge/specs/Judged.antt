-- What judging answers of a list and its files.
use Rattle.std.specs.Prelude.{◌≡◌, ◌⊎◌, ℕ, List, All}
use Rattle.cjc_bytes.specs.declared.fault.Fault.{Fault}
use Rattle.cjc_bytes.specs.declared.fault.Fault.TheVariants as faults
use Rattle.cjc_bytes.specs.declared.fault.Refusal.{Refusal}
use Rattle.cjc_list.specs.Listed.{ListTree}
use Rattle.cjc_narrow.specs.Types.Tables.{IsOfPackage}
use Rattle.cjc_bytes.specs.Breaks.{Break}
use Rattle.cjc_judge.specs.declared.groups.Group.{Group}
use Rattle.cjc_judge.specs.declared.judged.Judged.{Judged}
use Rattle.cjc_judge.specs.Rules.{Breach, IsFirstBroken, has_applets, world_files}
use Rattle.cjc_judge.specs.Trees.{AreRead}
use Rattle.cjc_judge.specs.Modes.{AreModesWhereNamed}
use Rattle.cjc_judge.specs.Tokens.{AreTokensWhereNamed}
use Rattle.cjc_judge.specs.Types.{AreTablesWhereNamed}

-- The package breaks no rule that was tested. Its world is that of the list with the classes and the export files that
-- the files
-- spell, and its codes are the instructions of all methods that break neither 103 nor 303.
pub record IsJudged (list : ListTree) (files : List (List ℕ)) (tested : List Group) (judged : Judged) : Type 0 where
  pub unbroken : (b : Break) → Breach list files tested b → ⊥
  pub world : judged.world ≡ world_files list judged.world.classes judged.world.exports
  pub read : AreRead list.lines files judged.world judged.codes
  pub of_package : All (IsOfPackage judged.world) judged.codes
  pub types : AreTablesWhereNamed tested judged.world judged.codes judged.types
  pub modes : AreModesWhereNamed tested list.ints judged.world judged.codes judged.modes
  pub tokens : AreTokensWhereNamed tested (has_applets list) judged.world judged.tokens

-- The error is that of the first broken rule, or that memory ran out.
abbrev pub IsStopped : ListTree → List (List ℕ) → List Group → Fault → Type 0
IsStopped list files tested e = (e ≡ faults.NoMemory) ⊎ ((r : Refusal) × IsFirstBroken list files tested r
    × (e ≡ faults.Refused r))
