-- What a command makes of its inputs is one answer.
use Rattle.std.proofs.Common.{◌≡◌, ℕ, List, Ok, Err}
use Rattle.cjc_shelf.specs.declared.command.status.Todo.{Todo}
use Rattle.cjc_cmd_compat.specs.List.Listed.{ListTree}
use Rattle.cjc_shelf.proofs.CommandLaws.OneAnswer.{IsOneAnswer}
use Rattle.cjc_shelf.specs.Bytes.declared.fault.Refusal.{Refusal}
use Rattle.cjc_cmd_verify.specs.CmdCard.Report.Runs as card_runs
use Rattle.cjc_cmd_verify.specs.CmdCard.declared.running.input.Input.{Input as ComponentsInput}
use Rattle.cjc_cmd_make.specs.CmdConvert.Conversion.Conversion.{Conversion, IsConverted, IsRefused}
use Rattle.cjc_cmd_compat.proofs.CmdCheckOneAnswer.{one_refusal as one_broken, never_both}
use Rattle.cjc_cmd_compat.specs.CmdCheck.Check.{Checks}
use Rattle.cjc_cmd_compat.specs.CmdCheck.declared.folder.folder.Folder.{Folder}
use Rattle.cjc_cmd_compat.proofs.OneAnswer.{one_refusal as one_version, never_both as never_kept_and_refused}
use Rattle.cjc_cmd_compat.specs.Compat.{Compares}
use Rattle.cjc_cmd_verify.proofs.CmdJvmOneAnswer.{one_refusal_of_runs, never_both as never_run_and_refused}
use Rattle.cjc_cmd_verify.specs.CmdJvm.Runs.{Runs}
use Rattle.cjc_cmd_make.specs.Report.Runs as summed
use Rattle.cjc_cmd_verify.specs.CmdJvm.declared.running.input.Input.{Input}
use Rattle.cjc_cmd_verify.specs.Verify.{Verifies}
use Rattle.cjc_cmd_link.proofs.OneAnswer.{one_refusal as one_group, never_both as never_linked_and_refused}
use Rattle.cjc_cmd_link.specs.Runs as link_runs
use Rattle.cjc_cmd_link.specs.Runs.{report_by_name, report_by_token}
use Rattle.cjc_cmd_link.specs.declared.reads.GroupInput.{GroupInput}
use Rattle.cjc_cmd_link.specs.LinkSemantics.Loaded.{Member}
use Rattle.cjc_cmd_verify.specs.Script.declared.report.Report.{Report}
use Rattle.cjc_cmd_verify.specs.ScriptText.Scripted.{ScriptTree}
use Rattle.cjc_run.specs.Request.{Request, card, check, compat, convert, jvm, link, linkjvm, make, verify}
use Rattle.cjc_run.specs.Command.{command_of}
use Rattle.cjc_run.specs.Convert.{Makes}

-- a conversion refuses by one rule at one place, and never what it makes
abbrev pub IsRefusedOnce : Type 0
IsRefusedOnce = (list : ListTree) (files : List (List ℕ)) (r s : Refusal) → IsRefused list files r
    → IsRefused list files s → r ≡ s

abbrev pub IsNeverBoth : Type 0
IsNeverBoth = (list : ListTree) (files : List (List ℕ)) (made : Conversion) (r : Refusal) → IsConverted list files made
    → IsRefused list files r → ⊥

convert_once : IsRefusedOnce → IsNeverBoth → (dir : List ℕ) (inputs : ListTree × List (List ℕ))
    → IsOneAnswer (Makes dir inputs)
convert_once one never dir inputs = record {
  one = λ r s f g. one inputs.0 inputs.1 r s f g;
  not_both = λ todo r made f. never inputs.0 inputs.1 made.0 r made.1 f;
}

check_once : (inputs : Folder) → IsOneAnswer (Checks inputs)
check_once inputs = record {
  one = λ r s f g. one_broken inputs r s f g;
  not_both = λ todo r made f. never_both inputs todo r made f;
}

run_once : (n : ℕ) (script : List ℕ) (input : Input) → IsOneAnswer (Runs n script input)
run_once n script input = record {
  one = λ r s f g. one_refusal_of_runs n script input r s f g;
  not_both = λ todo r made f. never_run_and_refused n script input todo r made f;
}

-- a run of components gives one refusal, or a report, and not both
abbrev pub RunsOnce : Type 0
RunsOnce = (n : ℕ) (script : List ℕ) (input : ComponentsInput) (r s : Refusal) → card_runs.Runs n script input (Err r)
    → card_runs.Runs n script input (Err s) → r ≡ s

abbrev pub RunsOrRefuses : Type 0
RunsOrRefuses = (n : ℕ) (script : List ℕ) (input : ComponentsInput) (todo : Todo) (r : Refusal)
    → card_runs.Runs n script input (Ok todo) → card_runs.Runs n script input (Err r) → ⊥

card_once : RunsOnce → RunsOrRefuses → (n : ℕ) (script : List ℕ) (input : ComponentsInput)
    → IsOneAnswer (card_runs.Runs n script input)
card_once one never n script input = record {
  one = λ r s f g. one n script input r s f g;
  not_both = λ todo r made f. never n script input todo r made f;
}

-- a number and a size give one refusal, or a summary, and not both
abbrev pub SumsOnce : Type 0
SumsOnce = (given : ℕ × ℕ) (r s : Refusal) → summed.Makes given (Err r) → summed.Makes given (Err s) → r ≡ s

abbrev pub SumsOrRefuses : Type 0
SumsOrRefuses = (given : ℕ × ℕ) (todo : Todo) (r : Refusal) → summed.Makes given (Ok todo) → summed.Makes given (Err r)
    → ⊥

make_once : SumsOnce → SumsOrRefuses → (given : ℕ × ℕ) → IsOneAnswer (summed.Makes given)
make_once one never given = record {
  one = λ r s f g. one given r s f g;
  not_both = λ todo r made f. never given todo r made f;
}

-- components beside a package give one refusal, or are typed, and not both
abbrev pub VerifiesOnce : Type 0
VerifiesOnce = (input : ComponentsInput) (r s : Refusal) → Verifies input (Err r) → Verifies input (Err s) → r ≡ s

abbrev pub VerifiesOrRefuses : Type 0
VerifiesOrRefuses = (input : ComponentsInput) (todo : Todo) (r : Refusal) → Verifies input (Ok todo)
    → Verifies input (Err r) → ⊥

verify_once : VerifiesOnce → VerifiesOrRefuses → (input : ComponentsInput) → IsOneAnswer (Verifies input)
verify_once one never input = record {
  one = λ r s f g. one input r s f g;
  not_both = λ todo r made f. never input todo r made f;
}

link_once : (report : List Member → ScriptTree → Report) (name script : List ℕ) (input : GroupInput)
    → IsOneAnswer (link_runs.Runs report name script input)
link_once report name script input = record {
  one = λ r s f g. one_group report name script input r s f g;
  not_both = λ todo r made f. never_linked_and_refused report name script input todo r made f;
}

compat_once : (old new : List ℕ) (files : List ℕ × List ℕ) → IsOneAnswer (Compares old new files)
compat_once old new files = record {
  one = λ r s f g. one_version old new files r s f g;
  not_both = λ todo r made f. never_kept_and_refused old new files todo r made f;
}

-- one line a command
pub makes_once : IsRefusedOnce → IsNeverBoth → RunsOnce → RunsOrRefuses → SumsOnce → SumsOrRefuses → VerifiesOnce
    → VerifiesOrRefuses → (asked : Request) (inputs : (command_of asked).Inputs)
    → IsOneAnswer ((command_of asked).Makes inputs)
makes_once one never runs either sums alone types or (convert list dir) inputs = convert_once one never dir inputs
makes_once one never runs either sums alone types or (check list dir) inputs = check_once inputs
makes_once one never runs either sums alone types or (jvm list script n) inputs = run_once n script inputs
makes_once one never runs either sums alone types or (card list dir script n) inputs = card_once runs either n script
    inputs
makes_once one never runs either sums alone types or (make number size) inputs = make_once sums alone inputs
makes_once one never runs either sums alone types or (verify list dir) inputs = verify_once types or inputs
makes_once one never runs either sums alone types or (link group script n) inputs =
    link_once (λ members tree. report_by_token members tree n) group script inputs
makes_once one never runs either sums alone types or (linkjvm group script n) inputs =
    link_once (λ members tree. report_by_name members tree n) group script inputs
makes_once one never runs either sums alone types or (compat old new) inputs = compat_once old new inputs
