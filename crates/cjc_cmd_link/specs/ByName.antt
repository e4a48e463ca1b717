-- What `linkjvm GROUP SCRIPT N` prints: the report of the joint run by name of the packages that a text names.
use Rattle.std.specs.Prelude.{◌≡◌, ◌+◌, ℕ, true, List, [], ◌∷◌, map, Result, Ok, Err}
use Rattle.cjc_cmd_verify.specs.LowerCmdCard.Running.Ready as alone
use Rattle.cjc_cmd_verify.specs.LowerCmdCard.declared.running.input.Input.{Input}
use Rattle.cjc_cmd_verify.specs.LowerCmdCard.declared.running.ready.Ready.{Ready}
use Rattle.cjc_cmd_verify.specs.LowerScriptText.Printed.{report_text}
use Rattle.cjc_cmd_verify.specs.LowerScript.declared.report.Report.{Report}
use Rattle.cjc_cmd_verify.specs.LowerScriptText.Scripted.{ScriptTree, scripted}
use Rattle.cjc_cmd_verify.specs.LowerShelf.Command.Plan.{Plan, has, ◌>>=◌}
use Rattle.cjc_cmd_verify.specs.LowerShelf.declared.command.status.Todo.{Todo}
use Rattle.cjc_cmd_link.specs.Reads.{plan_of_group}
use Rattle.cjc_cmd_link.specs.Ready.{AreReady, Breaks}
use Rattle.cjc_cmd_link.specs.declared.reads.GroupInput.{GroupInput}
use Rattle.cjc_cmd_verify.specs.Bytes.Breaks.{Break}
use Rattle.cjc_cmd_verify.specs.Bytes.Refused.{refusal}
use Rattle.cjc_cmd_verify.specs.Bytes.declared.fault.Refusal.{Refusal}
use Rattle.cjc_cmd_verify.specs.LowerClinit.Image.{IsImage}
use Rattle.cjc_cmd_verify.specs.LowerJudge.Rules.{IsFirstRefused, OnLevels}
use Rattle.cjc_cmd_verify.specs.World.Classes.{all_classes}
use Rattle.cjc_cmd_verify.specs.World.Files.{Files}
use Rattle.cjc_cmd_verify.specs.World.Rules.{has_cycle}
use Rattle.cjc_cmd_verify.specs.World.declared.image.StaticImage.{StaticImage}
use Rattle.cjc_cmd_verify.specs.LowerJvmSemantics.Group.{joint, run_group}

-- the text that names packages, these, and the script
abbrev pub plan_of_linkjvm : (name script : List ℕ) → Plan GroupInput
plan_of_linkjvm name script = do
  input ← plan_of_group name script
  has input

-- the files of packages that were tested
abbrev pub files_of : List Ready → List Files
files_of members = map (λ (r : Ready). let judged = r.judged in judged.world) members

-- what the initialisers of packages leave in their static fields
abbrev pub AreImages : List Ready → List StaticImage → Type 0
AreImages [] images = images ≡ []
AreImages (r ∷ members) [] = ⊥
AreImages (r ∷ members) (i ∷ images) =
    (let judged = r.judged in IsImage judged.world judged.codes i) × AreImages members images

-- 204: export files of packages outside the group, which no package imports all of, put a class above itself. It is
-- told at the text that names the packages, behind all other rules.
pub record BreaksCycle (input : GroupInput) (name : List ℕ) (b : Break) : Type 0 where
  pub members : List Ready
  pub are_ready : AreReady input.members members
  pub cycle : has_cycle (all_classes (joint (files_of members))) ≡ true
  pub is : b ≡ record {
    rank = record { family = 2; file = 0; class = 0; member = 0; offset = 0; rule = 204 };
    refusal = refusal name 204 0;
  }

-- A rule is broken: one of a group, or else 204 of the joint world.
abbrev pub AnyBreaks : GroupInput → (name script : List ℕ) → Break → Type 0
AnyBreaks input name script = OnLevels (Breaks input script) (BreaksCycle input name)

-- The packages and the script break nothing, and this is the report of the joint run of n instructions by name, from
-- what their initialisers leave in static fields.
pub record IsReport (input : GroupInput) (script : List ℕ) (n : ℕ) (report : Report) : Type 0 where
  pub members : List Ready
  pub are_ready : AreReady input.members members
  pub tree : ScriptTree
  pub is_script : scripted script input.script ≡ Ok tree
  pub images : List StaticImage
  pub are_images : AreImages members images
  pub unbroken : (b : Break) → Breaks input script b → ⊥
  pub is : report ≡ run_group (files_of members) images tree n

-- nothing is written, and that report is printed
pub record IsRun (n : ℕ) (script : List ℕ) (input : GroupInput) (todo : Todo) : Type 0 where
  pub report : Report
  pub is_report : IsReport input script n report
  pub printed : todo ≡ record { files = []; lines = report_text report ∷ [] }

-- What is printed of what was read, where the text that names packages has this name and the script that; or which rule
-- is broken first.
abbrev pub Runs : (n : ℕ) → (name script : List ℕ) → GroupInput → Result Todo Refusal → Type 0
Runs n name script input (Ok todo) = IsRun n script input todo
Runs n name script input (Err r) = IsFirstRefused (AnyBreaks input name script) r
