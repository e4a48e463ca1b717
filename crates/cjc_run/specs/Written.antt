-- What `verify` answers of what `convert` wrote.
use Rattle.std.specs.Prelude.{◌≡◌, ◌⊎◌, ℕ, List, map, IfSome}
use Rattle.cjc_cmd_compat.specs.List.Listed.{ListTree}
use Rattle.cjc_cmd_make.specs.CmdConvert.Conversion.Conversion.{Conversion, ExportsAreFair, IsConverted}
use Rattle.cjc_cmd_make.specs.CmdConvert.Publication.{below, files_made}
use Rattle.cjc_cmd_verify.specs.Judge.Spelt.{FileTree, SpellTrees, exports_of}
use Rattle.cjc_run.specs.Convert.{plan_of_convert}
use Rattle.cjc_run.specs.Request.{Request, verify}
use Rattle.cjc_shelf.specs.Command.Plan.{complete, verdict}
use Rattle.cjc_shelf.specs.Command.Publish.{Stand}
use Rattle.cjc_shelf.specs.Count.{Rose}
use Rattle.cjc_shelf.specs.Shelf.{Files, Shelved}
use Rattle.cjc_shelf.specs.Sink.{Sunk}
use Rattle.cjc_shelf.specs.declared.command.status.Status.{Status}
use Rattle.cjc_shelf.specs.declared.command.status.Status.TheVariants as status

-- The list of this name and its files are there, the export files among them are fair, and in the folder stand the files
-- that `convert` makes of these.
pub record AreWritten (name dir : List ℕ) (files : Files) : Type 0 where
  pub list : ListTree
  pub inputs : List (List ℕ)
  pub read : verdict files (plan_of_convert name) ≡ complete (list, inputs)
  pub made : Conversion
  pub converted : IsConverted list inputs made
  pub stand : Stand files (map (below dir) (files_made list.package made.caps made.export))
  pub trees : List FileTree
  pub spell : SpellTrees list.lines inputs trees
  pub fair : ExportsAreFair (exports_of trees)

-- Over such files `verify` is done, want of memory aside, where no fault count rises.
abbrev pub Accepts : Request → Shelved → Shelved → Sunk → Sunk → Status → Type 0
Accepts (verify name dir) old new from to answer =
    (Rose old.faults new.faults → ⊥) → (Rose from.faults to.faults → ⊥)
    → IfSome old.files (λ files. AreWritten name dir files → (answer ≡ status.NoMemory) ⊎ (answer ≡ status.Done))
Accepts other old new from to answer = Unit {0}
