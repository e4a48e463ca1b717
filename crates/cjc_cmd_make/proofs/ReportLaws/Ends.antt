-- How the reads of a shelf in memory end, and what faults come of that.
use Rattle.std.specs.Prelude.{◌⊎◌}
use Rattle.std.proofs.Common.{◌≡◌, inl, inr, ℕ, refl, sym, ap, subst, ◌∙◌, Result, Ok, Err}
use Rattle.cjc_cmd_card.specs.Bytes.declared.fault.Fault.{Fault}
use Rattle.cjc_cmd_card.specs.Bytes.declared.fault.Fault.TheVariants as faults
use Rattle.cjc_cmd_card.specs.Bytes.declared.fault.Refusal.{Refusal}
use Rattle.cjc_cmd_card.specs.Shelf.Command.Gather.{Gathers, IsSame, Judged, status_of_fault}
use Rattle.cjc_cmd_card.specs.Shelf.Command.Plan.{Plan, complete, refused, verdict}
use Rattle.cjc_cmd_card.specs.Shelf.declared.command.status.Status.{Status}
use Rattle.cjc_cmd_card.specs.Shelf.declared.command.status.Status.TheVariants as status
use Rattle.cjc_cmd_card.specs.Shelf.declared.command.status.Todo.{Todo}
use Rattle.cjc_cmd_convert.specs.Conversion.Conversion.{Conversion, IsConverted}
use Rattle.cjc_cmd_convert.specs.Judge.Rules.{IsFirstFault}
use Rattle.cjc_cmd_card.specs.Report.Runs.{AnyBreaks}
use Rattle.cjc_cmd_card.specs.declared.running.input.Input.{Input as ComponentsInput}
use Rattle.cjc_cmd_card.specs.Script.declared.report.Report.{Report}
use Rattle.cjc_cmd_make.specs.Report.Package.{made_files, script_name}
use Rattle.cjc_cmd_make.specs.Report.Runs.{IsReportByName, Makes, Refuses, RefusesComponents, RefusesRuns, card_end}
use Rattle.cjc_cmd_make.specs.Report.Runs.{of_class_files, of_components, of_list, of_package, of_reads, of_rules}
use Rattle.cjc_cmd_make.specs.Report.Runs.{of_runs}
use Rattle.cjc_cmd_make.specs.Report.Runs.{reads_end, with_made}
use Rattle.cjc_cmd_make.specs.Report.Working.{IsConversionFault, IsListFault, IsMakeFault, IsReadFault, IsRunsFault}
use Rattle.cjc_cmd_make.specs.Report.Working.{IsTokenFault, fault_of}
use Rattle.cjc_cmd_card.specs.LowerCmdJvm.Running.Ready.{Breaks}
use Rattle.cjc_cmd_card.specs.LowerCmdJvm.declared.running.input.Input.{Input}
use Rattle.cjc_cmd_card.specs.Shelf.Memory.{clean_shelved, files_of, told_files}
use Rattle.cjc_cmd_card.specs.Shelf.Shelf.{Files, Shelved}
use Rattle.cjc_cmd_card.specs.Shelf.declared.memory.CleanShelf.{CleanShelf}

-- ---- reads

-- all was read
pub gathered : {X : Type 0} (plan : Plan X) (shelf : CleanShelf) (new : Shelved) (x : X)
    → Gathers plan IsSame (clean_shelved shelf) new (Ok x) → verdict (files_of (clean_shelved shelf)) plan ≡ complete x
gathered plan shelf new x g =
    let t = g.ends in
    let h = t.2 in
    let same : t.0 ≡ x = cc in
    subst (λ y. verdict (files_of (clean_shelved shelf)) plan ≡ complete y) same t.1

-- the files are as before
pub files_stay : {X T : Type 0} (plan : Plan X) (P : X → Result T Refusal → Type 0) (old new : Shelved)
    (result : Result T Status) → Gathers plan P old new result → files_of new ≡ files_of old
files_stay plan P old new result g = ap told_files g.files

-- a rule of the plan is broken, or memory ran out
pub read_fault : {X : Type 0} (plan : Plan X) (shelf : CleanShelf) (new : Shelved) (end : Status)
    → Gathers {T = X} plan IsSame (clean_shelved shelf) new (Err end) → (fault_of end ≡ faults.NoMemory)
    ⊎ ((r : Refusal) × (verdict (files_of (clean_shelved shelf)) plan ≡ refused r) × (fault_of end ≡ faults.Refused r))
read_fault plan shelf new (status.Refused r) g = elim g.ends [
  | inl u ↦ inr (r, u, refl)
  | inr u ↦ let h = u.2
      in absurd cc
]
read_fault plan shelf new status.Done g = inl refl
read_fault plan shelf new status.Usage g = inl refl
read_fault plan shelf new (status.Absent name) g = inl refl
read_fault plan shelf new (status.TooLong name) g = inl refl
read_fault plan shelf new (status.ShelfFault name) g = inl refl
read_fault plan shelf new status.SinkFault g = inl refl
read_fault plan shelf new status.NoMemory g = inl refl

-- ---- runs

pub reads_refused : (files : Files) (e : Fault) → IsReadFault files e → IsTokenFault files e
reads_refused files e (inl none) = inl none
reads_refused files e (inr (r, ends, is)) = inr (r, of_reads ends, is)

pub rules_refused : (files : Files) (input : ComponentsInput) (e : Fault) → card_end files ≡ complete input
    → IsFirstFault (AnyBreaks input script_name) e → IsTokenFault files e
rules_refused files input e read (inl none) = inl none
rules_refused files input e read (inr (r, first, is)) = inr (r, of_rules input read first, is)

pub name_refused : (files : Files) (input : Input) (made : Conversion) (e : Fault)
    → IsFirstFault (Breaks input.list input.files script_name input.script) e → IsRunsFault files input made e
name_refused files input made e (inl none) = inl none
name_refused files input made e (inr (r, first, is)) = inr (r, of_class_files first, is)

pub token_refused : (files all : Files) (input : Input) (made : Conversion) (report : Report) (e : Fault)
    → all ≡ with_made files input made → IsReportByName input report → IsTokenFault all e
    → IsRunsFault files input made e
token_refused files all input made report e same run (inl none) = inl none
token_refused files all input made report e same run (inr (r, refuses, is)) =
    inr (r, of_components report run (subst (λ fs. RefusesComponents fs r) same refuses), is)

-- ---- faults

module _ (number size : ℕ) where
  pub by_list : (files : Files) (e : Fault) → files ≡ made_files number size → IsListFault files e
      → IsMakeFault number size e
  by_list files e same (inl none) = inl none
  by_list files e same (inr (r, ends, is)) = inr (r, of_list (ap reads_end (sym same) ∙ ends), is)

  pub by_package : (input : Input) (e : Fault) → reads_end (made_files number size) ≡ complete input
      → IsConversionFault input e → IsMakeFault number size e
  by_package input e read (inl none) = inl none
  by_package input e read (inr (r, refuses, is)) = inr (r, of_package input read refuses, is)

  pub by_runs : (files : Files) (input : Input) (made : Conversion) (e : Fault) → files ≡ made_files number size
      → reads_end (made_files number size) ≡ complete input → IsConverted input.list input.files made
      → IsRunsFault files input made e → IsMakeFault number size e
  by_runs files input made e same read converted (inl none) = inl none
  by_runs files input made e same read converted (inr (r, refuses, is)) =
      inr (r, of_runs input read made converted (subst (λ fs. RefusesRuns fs input made r) same refuses), is)

  -- the answer where a rule is broken, or memory ran out
  pub judged_fault : (e : Fault) → IsMakeFault number size e
      → Judged {T = Todo} (Makes (number, size)) (Err (status_of_fault e))
  judged_fault (faults.Refused r) (inl none) = absurd cc
  judged_fault (faults.Refused r) (inr (s, refuses, is)) = let same : s ≡ r = cc
      in subst (λ (x : Refusal). Refuses number size x) same refuses
  judged_fault faults.NoMemory h = tt
