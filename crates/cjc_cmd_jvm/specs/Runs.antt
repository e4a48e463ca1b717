-- What `jvm LIST SCRIPT N` prints: the report of a run by name of the class files that a list names.
use Rattle.std.specs.Prelude.{◌≡◌, ℕ, List, [], ◌∷◌, Result, Ok, Err}
use Rattle.cjc_shelf.specs.Bytes.declared.fault.Refusal.{Refusal}
use Rattle.cjc_jvm_link.specs.JvmSemantics.ByName.{run}
use Rattle.cjc_judge.specs.LowerClinit.Image.{IsImage}
use Rattle.cjc_shelf.specs.declared.command.status.Todo.{Todo}
use Rattle.cjc_judge.specs.Rules.{IsFirstRefused}
use Rattle.cjc_shelf.specs.Command.Plan.{Plan, has, ◌>>=◌}
use Rattle.cjc_cmd_jvm.specs.Running.Reads.{plan_of_run}
use Rattle.cjc_cmd_jvm.specs.Running.Ready.{Breaks, IsReady}
use Rattle.cjc_cmd_jvm.specs.declared.running.input.Input.{Input}
use Rattle.cjc_cmd_jvm.specs.declared.running.ready.Ready.{Ready}
use Rattle.cjc_script_text.specs.Script.declared.report.Report.{Report}
use Rattle.cjc_script_text.specs.Printed.{report_text}
use Rattle.cjc_judge.specs.World.declared.image.StaticImage.{StaticImage}

-- the list of this name, its files, and the script
abbrev pub plan_of_jvm : (name script : List ℕ) → Plan Input
plan_of_jvm name script = do
  input ← plan_of_run name script
  has input

-- The report of the run of n instructions of the package's class files by name, from what its initialisers leave in
-- static fields.
pub record IsReport (ready : Ready) (n : ℕ) (report : Report) : Type 0 where
  pub image : StaticImage
  pub is_image : (let judged = ready.judged in IsImage judged.world judged.codes image)
  pub is : report ≡ (let judged = ready.judged in run judged.world image ready.script n)

-- Neither the package nor the script breaks a rule; nothing is written, and the report is printed.
pub record IsRun (n : ℕ) (script : List ℕ) (input : Input) (todo : Todo) : Type 0 where
  pub ready : Ready
  pub is_ready : IsReady input.list input.files script input.script ready
  pub report : Report
  pub is_report : IsReport ready n report
  pub printed : todo ≡ record { files = []; lines = report_text report ∷ [] }

-- What is printed of what was read, where the script has this name; or which rule is broken first.
abbrev pub Runs : (n : ℕ) → (script : List ℕ) → Input → Result Todo Refusal → Type 0
Runs n script input (Ok todo) = IsRun n script input todo
Runs n script input (Err r) = IsFirstRefused (Breaks input.list input.files script input.script) r
