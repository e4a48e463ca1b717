-- What a command that is done promises of the files before and after it.
use Rattle.std.specs.Prelude.{◌≡◌, Bool, true, false, ℕ, List, [], ◌∷◌, ◌++◌, map, Option, Some, IfSome, IsSomeAnd}
use Rattle.std.specs.FinMap.{get}
use Rattle.cjc_shelf.specs.Bytes.Format.{FileSpells}
use Rattle.cjc_shelf.specs.Bytes.declared.settings.FileLine.{FileLine}
use Rattle.cjc_shelf.specs.Shelf.{Files, Shelved}
use Rattle.cjc_shelf.specs.Sink.{Sunk}
use Rattle.cjc_shelf.specs.Command.Publish.{IsPrinted, Stand}
use Rattle.cjc_cmd_compat.specs.List.Listed.{ListTree}
use Rattle.cjc_cmd_compat.specs.List.Spelling.{IsSpelt as IsListSpelt}
use Rattle.cjc_cmd_compat.specs.ClassFile.ClassFile.{class_file}
use Rattle.cjc_cmd_compat.specs.ClassFile.declared.tree.ClassTree.{ClassTree}
use Rattle.cjc_cmd_compat.specs.ExportFile.declared.tree.ExportTree.{ExportTree}
use Rattle.cjc_cmd_compat.specs.ExportFile.ExportFile.{export_file}
use Rattle.cjc_cmd_compat.specs.CapRead.declared.tree.CapTree.{CapTree}
use Rattle.cjc_cmd_verify.specs.CapWrite.Writable.{IsSpelt}
use Rattle.cjc_cmd_make.specs.CmdConvert.Conversion.Conversion.{BehaveAlike, Conversion, ExportsAreFair}
use Rattle.cjc_cmd_verify.specs.Judge.Rules.{world_files}
use Rattle.cjc_cmd_compat.specs.CheckRules.Consistent.{Consistent}
use Rattle.cjc_cmd_make.specs.CmdConvert.Publication.{files_made, below}
use Rattle.cjc_cmd_compat.specs.CmdCheck.Check.{AreConsistent, check_breaks, ok_line, plan_of_check}
use Rattle.cjc_shelf.specs.Command.Plan.{complete, verdict}
use Rattle.cjc_shelf.specs.declared.command.status.Todo.{Todo}
use Rattle.cjc_cmd_compat.specs.CmdCheck.declared.folder.folder.Folder.{Folder}
use Rattle.cjc_cmd_compat.specs.Compat.{AreCompatible}
use Rattle.cjc_cmd_verify.specs.CmdCard.Report.Runs as by_token
use Rattle.cjc_cmd_verify.specs.CmdCard.Running.Ready as components
use Rattle.cjc_cmd_verify.specs.CmdCard.declared.running.input.Input.{Input as ComponentsInput}
use Rattle.cjc_cmd_verify.specs.CmdCard.declared.running.ready.Ready.{Ready as ComponentsReady}
use Rattle.cjc_cmd_verify.specs.CmdJvm.Running.Ready.{IsReady}
use Rattle.cjc_cmd_verify.specs.CmdJvm.declared.running.input.Input.{Input}
use Rattle.cjc_cmd_verify.specs.CmdJvm.declared.running.ready.Ready.{Ready}
use Rattle.cjc_cmd_verify.specs.Script.declared.report.Report.{Report}
use Rattle.cjc_cmd_verify.specs.ScriptText.Printed.{report_text}
use Rattle.cjc_cmd_verify.specs.CmdJvm.Runs.{IsReport, plan_of_jvm}
use Rattle.cjc_cmd_make.specs.Report.Runs.{IsMade}
use Rattle.cjc_cmd_verify.specs.Verify.{AreTyped, plan_of_verify}
use Rattle.cjc_cmd_link.specs.Runs as linked
use Rattle.cjc_cmd_link.specs.Runs.{plan_of_link, report_by_name, report_by_token}
use Rattle.cjc_cmd_link.specs.declared.reads.GroupInput.{GroupInput}
use Rattle.cjc_cmd_link.specs.LinkSemantics.Loaded.{Member}
use Rattle.cjc_cmd_verify.specs.ScriptText.Scripted.{ScriptTree}
use Rattle.cjc_run.specs.Request.{Request, card, check, compat, convert, jvm, link, linkjvm, make, verify}

-- by one line: a class file is there and spells the first of these classes, and the other lines the rest; an export
-- file spells none of them
abbrev pub SpellStep : Bool → Option (List ℕ) → (List ClassTree → Type 0) → List ClassTree → Type 0
SpellStep true file rest [] = ⊥
SpellStep true file rest (tree ∷ trees) = IsSomeAnd file (λ bytes. FileSpells class_file tree bytes) × rest trees
SpellStep false file rest trees = rest trees

-- The class files that the lines name spell these classes, in order. Export files are passed by.
abbrev pub SpellClasses : Files → List FileLine → List ClassTree → Type 0
SpellClasses files [] trees = trees ≡ []
SpellClasses files (line ∷ lines) trees = SpellStep line.class_file (get files line.name) (SpellClasses files lines)
    trees

-- by one line: an export file is there and spells the first of these trees, and the other lines the rest; a class
-- file spells none of them
abbrev pub ExportStep : Bool → Option (List ℕ) → (List ExportTree → Type 0) → List ExportTree → Type 0
ExportStep true file rest trees = rest trees
ExportStep false file rest [] = ⊥
ExportStep false file rest (tree ∷ trees) = IsSomeAnd file (λ bytes. FileSpells export_file tree bytes) × rest trees

-- The export files that the lines name spell these export trees, in order. Class files are passed by.
abbrev pub SpellExports : Files → List FileLine → List ExportTree → Type 0
SpellExports files [] trees = trees ≡ []
SpellExports files (line ∷ lines) trees = ExportStep line.class_file (get files line.name) (SpellExports files lines)
    trees

-- The class files and export files that the list of this name names before spell these, and the component files that
-- stand in
-- the folder after spell these components. Over export files that are fair the components are consistent with them, and
-- class
-- files and components behave alike for every script.
pub record Converts (name dir : List ℕ) (before after : Files) : Type 0 where
  pub text : List ℕ
  pub list : ListTree
  pub classes : List ClassTree
  pub exports : List ExportTree
  pub made : Conversion
  pub cap : CapTree
  pub text_is : get before name ≡ Some text
  pub list_is : IsListSpelt name list text
  pub class_files : SpellClasses before list.lines classes
  pub export_files : SpellExports before list.lines exports
  pub stand : Stand after (map (below dir) (files_made list.package made.caps made.export))
  pub spelt : IsSpelt cap made.caps
  pub consistent : ExportsAreFair exports → Consistent cap exports
  pub alike : ExportsAreFair exports → BehaveAlike list (world_files list classes exports) cap

-- The list of this name, the export files that it names and the components in the folder were read, and none of them
-- breaks a
-- rule. What the components say is consistent with what the export files say.
pub record IsTested (name dir : List ℕ) (files : Files) : Type 0 where
  pub folder : Folder
  pub read : verdict files (plan_of_check name dir) ≡ complete folder
  pub unbroken : check_breaks folder ≡ []
  pub consistent : AreConsistent folder

-- `ok` is printed, nothing is written, and the components are consistent.
pub record Checked (name dir : List ℕ) (old new : Shelved) (from to : Sunk) : Type 0 where
  pub kept : IfSome old.files (λ files. new.files ≡ Some files)
  pub tested : IfSome old.files (IsTested name dir)
  pub printed : IfSome from.written (λ before. to.written ≡ Some (before ++ ok_line))

-- The list of this name, its files and the script were read, and break no rule of the first three hundreds. The report
-- of the run of n
-- instructions of the class files by name is printed.
pub record IsReported (name script : List ℕ) (n : ℕ) (files : Files) (from to : Sunk) : Type 0 where
  pub input : Input
  pub read : verdict files (plan_of_jvm name script) ≡ complete input
  pub ready : Ready
  pub is_ready : IsReady input.list input.files script input.script ready
  pub report : Report
  pub is_report : IsReport ready n report
  pub printed : IfSome from.written (λ before. to.written ≡ Some (before ++ report_text report))

-- Nothing is written, and the report is printed.
pub record Reported (name script : List ℕ) (n : ℕ) (old new : Shelved) (from to : Sunk) : Type 0 where
  pub kept : IfSome old.files (λ files. new.files ≡ Some files)
  pub reported : IfSome old.files (λ files. IsReported name script n files from to)

-- The list of this name, its files, the components in the folder and the script were read, and break no rule of the
-- first three hundreds,
-- none of 401 to 409 and 413, and no sentence on components. The report of the run of n instructions of the components
-- by token is printed.
pub record IsCardReported (name dir script : List ℕ) (n : ℕ) (files : Files) (from to : Sunk) : Type 0 where
  pub input : ComponentsInput
  pub read : verdict files (by_token.plan_of_report name dir script) ≡ complete input
  pub ready : ComponentsReady
  pub is_ready : components.IsReady input script ready
  pub report : Report
  pub is_report : by_token.IsReport input ready n report
  pub printed : IfSome from.written (λ before. to.written ≡ Some (before ++ report_text report))

-- Nothing is written, and that report is printed.
pub record CardReported (name dir script : List ℕ) (n : ℕ) (old new : Shelved) (from to : Sunk) : Type 0 where
  pub kept : IfSome old.files (λ files. new.files ≡ Some files)
  pub reported : IfSome old.files (λ files. IsCardReported name dir script n files from to)

-- Nothing is written, and the summary of the package of this number and size is printed: of its conversion, and of its
-- runs.
pub record MadeReported (number size : ℕ) (old new : Shelved) (from to : Sunk) : Type 0 where
  pub todo : Todo
  pub made : IsMade number size todo
  pub kept : IfSome old.files (λ files. new.files ≡ Some files)
  pub printed : IsPrinted todo from to

-- The list of this name, its files and the components in the folder were read, and break none of the rules that `card`
-- tests and none of 721 to 729. So no run of the components is stuck where the export files are fair.
pub record IsTyped (name dir : List ℕ) (files : Files) : Type 0 where
  pub input : ComponentsInput
  pub read : verdict files (plan_of_verify name dir) ≡ complete input
  pub typed : AreTyped input

-- `ok` is printed, nothing is written, and the components are typed by token as the package is, and never stuck.
pub record Verified (name dir : List ℕ) (old new : Shelved) (from to : Sunk) : Type 0 where
  pub kept : IfSome old.files (λ files. new.files ≡ Some files)
  pub typed : IfSome old.files (IsTyped name dir)
  pub printed : IfSome from.written (λ before. to.written ≡ Some (before ++ ok_line))

-- The text of this name, the packages that it names and the script were read, and nothing of them is refused: each
-- package alone is as `card` asks, and they agree. The joint report of these packages and this script is printed.
pub record IsLinkReported (report : List Member → ScriptTree → Report) (name script : List ℕ) (files : Files)
    (from to : Sunk) : Type 0 where
  pub input : GroupInput
  pub read : verdict files (plan_of_link name script) ≡ complete input
  pub group : List Member
  pub tree : ScriptTree
  pub ready : linked.IsReady input name script group tree
  pub printed : IfSome from.written (λ before. to.written ≡ Some (before ++ report_text (report group tree)))

-- Nothing is written, and that report is printed.
pub record LinkReported (report : List Member → ScriptTree → Report) (name script : List ℕ) (old new : Shelved)
    (from to : Sunk) : Type 0 where
  pub kept : IfSome old.files (λ files. new.files ≡ Some files)
  pub reported : IfSome old.files (λ files. IsLinkReported report name script files from to)

-- The files of these names were read, spell two versions of an export file, and the new one keeps what the old one
-- says.
pub record IsCompared (old new : List ℕ) (files : Files) : Type 0 where
  pub old_bytes : List ℕ
  pub new_bytes : List ℕ
  pub old_is : get files old ≡ Some old_bytes
  pub new_is : get files new ≡ Some new_bytes
  pub compatible : AreCompatible new (old_bytes, new_bytes)

-- `ok` is printed, nothing is written, and the new version may stand in the place of the old one.
pub record Compared (old_name new_name : List ℕ) (old new : Shelved) (from to : Sunk) : Type 0 where
  pub kept : IfSome old.files (λ files. new.files ≡ Some files)
  pub compared : IfSome old.files (IsCompared old_name new_name)
  pub printed : IfSome from.written (λ before. to.written ≡ Some (before ++ ok_line))

-- what the request that is done promises of the shelf and the sink before and after
abbrev pub Promised : Request → Shelved → Shelved → Sunk → Sunk → Type 0
Promised (convert name dir) old new from to =
    IfSome old.files (λ before. IsSomeAnd new.files (Converts name dir before))
Promised (check name dir) old new from to = Checked name dir old new from to
Promised (jvm name script n) old new from to = Reported name script n old new from to
Promised (card name dir script n) old new from to = CardReported name dir script n old new from to
Promised (make number size) old new from to = MadeReported number size old new from to
Promised (verify name dir) old new from to = Verified name dir old new from to
Promised (link name script n) old new from to =
    LinkReported (λ group tree. report_by_token group tree n) name script old new from to
Promised (linkjvm name script n) old new from to =
    LinkReported (λ group tree. report_by_name group tree n) name script old new from to
Promised (compat old_name new_name) old new from to = Compared old_name new_name old new from to
