-- What `link` and `linkjvm` print of packages that `convert` wrote.
use Rattle.std.specs.Prelude.{◌≡◌, ℕ, List, [], ◌∷◌, Ok, Some, IfSome}
use Rattle.std.specs.FinMap.{get}
use Rattle.cjc_cmd_link.specs.LinkSemantics.Loaded.{Member}
use Rattle.cjc_cmd_link.specs.Runs.{IsReady, plan_of_link}
use Rattle.cjc_cmd_link.specs.declared.reads.GroupInput.{GroupInput}
use Rattle.cjc_cmd_make.specs.CmdConvert.Conversion.Conversion.{NoneInIntMode}
use Rattle.cjc_cmd_verify.specs.ScriptText.Scripted.{ScriptTree}
use Rattle.cjc_joint_files.specs.Components.Package.{Package}
use Rattle.cjc_joint_files.specs.Fair.{AreFairTogether}
use Rattle.cjc_joint_files.specs.Group.Grouped.{grouped}
use Rattle.cjc_joint_files.specs.Group.declared.line.PackageLine.{PackageLine}
use Rattle.cjc_joint_files.specs.Reports.{RunsWritten}
use Rattle.cjc_run.specs.Request.{Request, link, linkjvm}
use Rattle.cjc_run.specs.Written.{AreWritten}
use Rattle.cjc_shelf.specs.Command.Plan.{complete, verdict}
use Rattle.cjc_shelf.specs.Shelf.{Files, Shelved}

-- In the folder of the line stand the files that `convert` makes of the list of the line, whose export files are fair,
-- and no method of its package is in int mode.
pub record IsWrittenShort (line : PackageLine) (files : Files) : Type 0 where
  pub written : AreWritten line.list line.folder files
  pub short : (let made = written.converted in let p = made.whole in NoneInIntMode written.list p.files)

-- so it is of each line
abbrev pub EachIsWritten : Files → List PackageLine → Type 0
EachIsWritten files [] = Unit {0}
EachIsWritten files (line ∷ lines) = IsWrittenShort line files × EachIsWritten files lines

-- the packages that were converted of these lines
abbrev pub packages_of : (files : Files) (lines : List PackageLine) → EachIsWritten files lines → List Package
packages_of files [] each = []
packages_of files (line ∷ lines) each =
    (let x = each.0 in let w = x.written in let made = w.converted in made.whole) ∷ packages_of files lines each.1

-- Where a text of this name names packages that `convert` wrote, over files that are fair together, and nothing is
-- refused of what is read, it is these packages that are run, and for every script their reports by name and by token
-- agree: of the notes of any two runs one begins with the other; where the run by name of n instructions is over, the
-- one by token of at least 3n has the same notes, outcome, heap and static cells, and where the one by token of n is
-- over, the one by name of at least 65,536 (n + 1) has; and neither is ever stuck.
abbrev pub AgreesOver : (name script : List ℕ) → Files → Type 0
AgreesOver name script files =
    (text : List ℕ) (lines : List PackageLine) → get files name ≡ Some text → grouped name text ≡ Ok lines
    → (each : EachIsWritten files lines) → AreFairTogether (packages_of files lines each)
    → (input : GroupInput) (group : List Member) (tree : ScriptTree)
    → verdict files (plan_of_link name script) ≡ complete input → IsReady input name script group tree
    → RunsWritten (packages_of files lines each) group

-- So it is of what these commands print, over a shelf that tells its files.
abbrev pub Agrees : Request → Shelved → Type 0
Agrees (link name script n) old = IfSome old.files (AgreesOver name script)
Agrees (linkjvm name script n) old = IfSome old.files (AgreesOver name script)
Agrees other old = Unit {0}
