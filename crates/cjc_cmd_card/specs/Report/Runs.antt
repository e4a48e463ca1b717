-- What `card LIST DIR SCRIPT N` prints: the report of a run by token of the components of a folder, with names from the
-- class files that a
-- list names.
use Rattle.std.specs.Prelude.{◌≡◌, ℕ, List, [], ◌∷◌, Some, Result, Ok, Err}
use Rattle.cjc_cmd_check.specs.Bytes.Breaks.{Among, Break}
use Rattle.cjc_cmd_check.specs.Bytes.declared.fault.Refusal.{Refusal}
use Rattle.cjc_card.specs.CapRead.declared.tree.CapTree.{CapTree}
use Rattle.cjc_pairing.specs.CardSemantics.Machine.ByToken.{run}
use Rattle.cjc_cmd_card.specs.Running.Reads.{plan_of_card}
use Rattle.cjc_cmd_card.specs.Running.Ready.{Breaks, IsReady}
use Rattle.cjc_cmd_card.specs.declared.running.input.Input.{Input}
use Rattle.cjc_cmd_card.specs.declared.running.ready.Ready.{Ready}
use Rattle.cjc_pairing.specs.Clinit.Image.{IsImage}
use Rattle.cjc_card.specs.Bytecode.PackageCodes.{all_codes}
use Rattle.cjc_cmd_jvm.specs.LowerShelf.Command.Plan.{Plan, has, ◌>>=◌}
use Rattle.cjc_cmd_jvm.specs.LowerShelf.declared.command.status.Todo.{Todo}
use Rattle.cjc_cmd_check.specs.Folder.Breaks.{cap_in}
use Rattle.cjc_cmd_jvm.specs.Judge.Rules.{IsFirstRefused, OnLevels, files_spelt, has_applets}
use Rattle.cjc_cmd_jvm.specs.Judge.Spelt.{FileTree, SpellTrees, classes_of}
use Rattle.cjc_shape.specs.Components.Paired.Naming.{loaded_of}
use Rattle.cjc_shape.specs.Components.Paired.Pairs.{ArePaired, pair_breaks}
use Rattle.cjc_pairing.specs.Script.declared.report.Report.{Report}
use Rattle.cjc_cmd_jvm.specs.LowerScriptText.Printed.{report_text}
use Rattle.cjc_pairing.specs.CheckRules.Complete.{Complete, complete}
use Rattle.cjc_pairing.specs.World.declared.image.StaticImage.{StaticImage}

-- the list of this name, its files, the components of the folder, and the script
abbrev pub plan_of_report : (name dir script : List ℕ) → Plan Input
plan_of_report name dir script = do
  input ← plan_of_card name dir script
  has input

-- 719: the components that are spelt are not of the package that is, with what its initialisers leave in static fields.
pub record BreaksPair (input : Input) (b : Break) : Type 0 where
  pub trees : List FileTree
  pub spell : (let list = input.list in SpellTrees list.lines input.files trees)
  pub image : StaticImage
  pub is_image : IsImage (files_spelt input.list trees) (all_codes (classes_of trees)) image
  pub cap : CapTree
  pub cap_is : cap_in input.parts ≡ Some cap
  pub whole : Complete
  pub whole_is : complete cap ≡ Some whole
  pub broken : Among b (pair_breaks (files_spelt input.list trees) image whole)

-- A rule is broken; 719 is asked where no other is.
abbrev pub AnyBreaks : Input → (name : List ℕ) → Break → Type 0
AnyBreaks input name = OnLevels (Breaks input name) (BreaksPair input)

-- The components are of the package, and this is the report of their run of n instructions by token, from what its
-- initialisers leave in
-- static fields.
pub record IsReport (input : Input) (ready : Ready) (n : ℕ) (report : Report) : Type 0 where
  pub whole : Complete
  pub whole_is : complete ready.cap ≡ Some whole
  pub image : StaticImage
  pub is_image : (let judged = ready.judged in IsImage judged.world judged.codes image)
  pub paired : (let judged = ready.judged in ArePaired judged.world image whole)
  pub is : report ≡ (let judged = ready.judged in run (loaded_of (has_applets input.list) judged.world image whole)
      ready.script n)

-- No rule is broken; nothing is written, and the report is printed.
pub record IsRun (n : ℕ) (script : List ℕ) (input : Input) (todo : Todo) : Type 0 where
  pub ready : Ready
  pub is_ready : IsReady input script ready
  pub report : Report
  pub is_report : IsReport input ready n report
  pub printed : todo ≡ record { files = []; lines = report_text report ∷ [] }

-- What is printed of what was read, where the script has this name; or which rule is broken first.
abbrev pub Runs : (n : ℕ) → (script : List ℕ) → Input → Result Todo Refusal → Type 0
Runs n script input (Ok todo) = IsRun n script input todo
Runs n script input (Err r) = IsFirstRefused (AnyBreaks input script) r
