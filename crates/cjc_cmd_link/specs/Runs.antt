-- What `linkjvm GROUP SCRIPT N` and `link GROUP SCRIPT N` print: the report of the joint run, by name and by token, of
-- the packages that a text names.
use Rattle.std.specs.Prelude.{◌≡◌, ℕ, List, [], ◌∷◌, Result, Ok, Err}
use Rattle.cjc_group.specs.Bytes.declared.fault.Refusal.{Refusal}
use Rattle.cjc_link_semantics.specs.JvmSemantics.Group.{run_group}
use Rattle.cjc_link_semantics.specs.Script.declared.report.Report.{Report}
use Rattle.cjc_cmd_card.specs.LowerScriptText.Printed.{report_text}
use Rattle.cjc_cmd_card.specs.LowerScriptText.Scripted.{ScriptTree, scripted}
use Rattle.cjc_cmd_card.specs.Shelf.Command.Plan.{Plan, has, ◌>>=◌}
use Rattle.cjc_cmd_card.specs.Shelf.declared.command.status.Todo.{Todo}
use Rattle.cjc_cmd_link.specs.Members.{AreTested}
use Rattle.cjc_cmd_link.specs.Reads.{plan_of_group}
use Rattle.cjc_cmd_link.specs.Refused.{IsRefused}
use Rattle.cjc_cmd_link.specs.declared.reads.GroupInput.{GroupInput}
use Rattle.cjc_link_semantics.specs.Loaded.{Member, files_of, group_loaded}
use Rattle.cjc_link_semantics.specs.Together.{images_of}
use Rattle.cjc_link_semantics.specs.CardSemantics.Machine.ByToken.{run}

-- the text that names packages, these, and the script
abbrev pub plan_of_link : (name script : List ℕ) → Plan GroupInput
plan_of_link name script = do
  input ← plan_of_group name script
  has input

-- Nothing is refused of what was read, where the text that names packages has this name and the script that: these are
-- the packages, and this is the script.
pub record IsReady (input : GroupInput) (name script : List ℕ) (group : List Member) (tree : ScriptTree) : Type 0 where
  pub tested : AreTested input.members group
  pub is_script : scripted script input.script ≡ Ok tree
  pub unbroken : (r : Refusal) → IsRefused input name script r → ⊥

-- the report of the joint run of n instructions of class files by name, from what initialisers leave in static fields
abbrev pub report_by_name : List Member → ScriptTree → (n : ℕ) → Report
report_by_name group tree n = run_group (files_of group) (images_of group) tree n

-- the report of that of components by token
abbrev pub report_by_token : List Member → ScriptTree → (n : ℕ) → Report
report_by_token group tree n = run (group_loaded group) tree n

-- Nothing is refused and nothing is written, and the report of these packages and this script is printed.
pub record IsRun (report : List Member → ScriptTree → Report) (name script : List ℕ) (input : GroupInput)
    (todo : Todo) : Type 0 where
  pub group : List Member
  pub tree : ScriptTree
  pub ready : IsReady input name script group tree
  pub printed : todo ≡ record { files = []; lines = report_text (report group tree) ∷ [] }

-- what is printed of what was read, or what is refused
abbrev pub Runs : (report : List Member → ScriptTree → Report) → (name script : List ℕ) → GroupInput
    → Result Todo Refusal → Type 0
Runs report name script input (Ok todo) = IsRun report name script input todo
Runs report name script input (Err r) = IsRefused input name script r

-- of `linkjvm`
abbrev pub RunsByName : (n : ℕ) → (name script : List ℕ) → GroupInput → Result Todo Refusal → Type 0
RunsByName n name script input result = Runs (λ group tree. report_by_name group tree n) name script input result

-- of `link`
abbrev pub RunsByToken : (n : ℕ) → (name script : List ℕ) → GroupInput → Result Todo Refusal → Type 0
RunsByToken n name script input result = Runs (λ group tree. report_by_token group tree n) name script input result
