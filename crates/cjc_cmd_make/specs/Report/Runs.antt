-- What `make NUMBER SIZE` prints: the summary of the package that is made, of its conversion, and of its runs by name
-- and by token.
use Rattle.std.specs.Prelude.{◌≡◌, ℕ, [], map, Result, Ok, Err}
use Rattle.cjc_cmd_card.specs.Bytes.declared.fault.Refusal.{Refusal}
use Rattle.cjc_cmd_card.specs.Report.Runs as card_runs
use Rattle.cjc_cmd_card.specs.Report.Runs.{AnyBreaks}
use Rattle.cjc_cmd_card.specs.Running.Reads.{plan_of_card}
use Rattle.cjc_cmd_card.specs.Running.Ready as components
use Rattle.cjc_cmd_card.specs.declared.running.input.Input.{Input as ComponentsInput}
use Rattle.cjc_cmd_card.specs.declared.running.ready.Ready.{Ready as ComponentsReady}
use Rattle.cjc_cmd_card.specs.Shelf.Command.Plan.{Plan, has, Verdict, verdict, complete, refused}
use Rattle.cjc_cmd_card.specs.Shelf.Command.Publish.{written_files}
use Rattle.cjc_cmd_card.specs.Shelf.declared.command.status.Todo.{Todo}
use Rattle.cjc_cmd_convert.specs.Conversion.Promise.{KeepsPromise}
use Rattle.cjc_cmd_convert.specs.Conversion.Conversion.{Conversion, IsConverted, IsRefused}
use Rattle.cjc_cmd_convert.specs.Judge.Rules.{IsFirstRefused}
use Rattle.cjc_cmd_card.specs.LowerCmdJvm.Runs.{IsReport}
use Rattle.cjc_cmd_convert.specs.Publication.{below, files_made}
use Rattle.cjc_cmd_card.specs.LowerCmdJvm.Running.Reads.{plan_of_run}
use Rattle.cjc_cmd_card.specs.LowerCmdJvm.Running.Ready.{Breaks, IsReady}
use Rattle.cjc_cmd_card.specs.LowerCmdJvm.declared.running.input.Input.{Input}
use Rattle.cjc_cmd_card.specs.LowerCmdJvm.declared.running.ready.Ready.{Ready}
use Rattle.cjc_cmd_card.specs.Script.declared.report.Report.{Report}
use Rattle.cjc_cmd_card.specs.Shelf.Shelf.{Files}
use Rattle.cjc_cmd_make.specs.Report.Package.{folder, list_name, made_files, script_name}
use Rattle.cjc_cmd_make.specs.Report.Summary.{size_item, summary_lines}

-- no file is read
abbrev pub plan_of_make : (number size : ℕ) → Plan (ℕ × ℕ)
plan_of_make number size = has (number, size)

-- how the reads of the list, of its files and of the script end over these files
abbrev pub reads_end : Files → Verdict Input
reads_end files = verdict files (plan_of_run list_name script_name)

-- Neither the package nor the script breaks a rule of the first three hundreds, and this is the report of 1,000,000
-- instructions of
-- the class files by name.
pub record IsReportByName (input : Input) (report : Report) : Type 0 where
  pub ready : Ready
  pub is_ready : IsReady input.list input.files script_name input.script ready
  pub is_report : IsReport ready 1000000 report

-- Nothing that was read breaks a rule of a run by token, and this is the report of 3,000,000 instructions of the
-- components.
pub record IsComponentsReport (input : ComponentsInput) (report : Report) : Type 0 where
  pub ready : ComponentsReady
  pub is_ready : components.IsReady input script_name ready
  pub is_report : card_runs.IsReport input ready 3000000 report

-- how the reads of the list, of its files, of the components in the folder and of the script end over these files
abbrev pub card_end : Files → Verdict ComponentsInput
card_end files = verdict files (plan_of_card list_name folder script_name)

-- The list, its files, the components in the folder and the script are read of these files, and this is the report of
-- the
-- components by token.
pub record IsReportByToken (files : Files) (report : Report) : Type 0 where
  pub input : ComponentsInput
  pub read : card_end files ≡ complete input
  pub reported : IsComponentsReport input report

-- these files with those of a conversion below the folder
abbrev pub with_made : Files → Input → Conversion → Files
with_made files input made = written_files (map (below folder) (files_made (let list = input.list in list.package)
    made.caps made.export)) files

-- The files of a conversion are put beside these; class files and components are run; no file is to be written, and the
-- summary
-- is printed.
pub record IsSummary (size : ℕ) (files : Files) (input : Input) (made : Conversion) (todo : Todo) : Type 0 where
  pub by_name : Report
  pub is_by_name : IsReportByName input by_name
  pub by_token : Report
  pub is_by_token : IsReportByToken (with_made files input made) by_token
  pub is : todo ≡ record {
    files = [];
    lines = summary_lines size (size_item (let caps = made.caps in caps.method))
        by_name by_token;
  }

-- The package of this number and size is read of a shelf of its own, and is converted as every conversion promises; the
-- summary of
-- its runs is printed.
pub record IsMade (number size : ℕ) (todo : Todo) : Type 0 where
  pub input : Input
  pub read : reads_end (made_files number size) ≡ complete input
  pub made : Conversion
  pub is_converted : IsConverted input.list input.files made
  pub kept : KeepsPromise input.list input.files made
  pub summary : IsSummary size (made_files number size) input made todo

-- The list is refused where it is read again with the components; or this is the first rule that the package, the
-- components in the folder and the script break, or that they break together.
pub data RefusesComponents (files : Files) (r : Refusal) : Type 0 where
  of_reads : card_end files ≡ refused r → RefusesComponents files r
  of_rules : (input : ComponentsInput) → card_end files ≡ complete input
      → IsFirstRefused (AnyBreaks input script_name) r → RefusesComponents files r

-- This is the first rule that the package and the script break where class files are run; or they are run, and the
-- components that were put beside these files are refused.
pub data RefusesRuns (files : Files) (input : Input) (made : Conversion) (r : Refusal) : Type 0 where
  of_class_files : IsFirstRefused (Breaks input.list input.files script_name input.script) r
      → RefusesRuns files input made r
  of_components : (report : Report) → IsReportByName input report → RefusesComponents (with_made files input made) r
      → RefusesRuns files input made r

-- The list of the package is refused; or its files break a rule of a conversion, and this is the first; or the package
-- is converted, and its runs are refused.
pub data Refuses (number size : ℕ) (r : Refusal) : Type 0 where
  of_list : reads_end (made_files number size) ≡ refused r → Refuses number size r
  of_package : (input : Input) → reads_end (made_files number size) ≡ complete input
      → IsRefused input.list input.files r → Refuses number size r
  of_runs : (input : Input) → reads_end (made_files number size) ≡ complete input → (made : Conversion)
      → IsConverted input.list input.files made → RefusesRuns (made_files number size) input made r
      → Refuses number size r

-- What is printed of a number and a size, or which rule is broken first.
abbrev pub Makes : ℕ × ℕ → Result Todo Refusal → Type 0
Makes given (Ok todo) = IsMade given.0 given.1 todo
Makes given (Err r) = Refuses given.0 given.1 r
