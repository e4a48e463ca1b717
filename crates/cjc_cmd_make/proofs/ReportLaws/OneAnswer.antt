-- A number and a size decide one answer.
use Rattle.std.proofs.Common.{◌≡◌, ℕ, List, [], ◌∷◌, refl, sym, subst, ◌∙◌}
use Rattle.std.specs.Prelude.{Ok, Err}
use Rattle.cjc_cmd_card.specs.Bytes.declared.fault.Refusal.{Refusal}
use Rattle.cjc_cmd_card.specs.Shelf.Command.Plan.{Verdict, complete, refused}
use Rattle.cjc_cmd_card.specs.Shelf.Shelf.{Files}
use Rattle.cjc_cmd_card.specs.Shelf.declared.command.status.Todo.{Todo}
use Rattle.cjc_cmd_convert.specs.Conversion.Conversion.{Conversion, IsConverted, IsRefused}
use Rattle.cjc_cmd_convert.specs.Judge.Rules.{IsFirstRefused}
use Rattle.cjc_cmd_card.specs.Report.Runs.{AnyBreaks, Runs}
use Rattle.cjc_cmd_card.specs.declared.running.input.Input.{Input as ComponentsInput}
use Rattle.cjc_cmd_card.proofs.CmdJvmOneAnswer.{one_refusal_of_runs, never_both as never_run_and_refused}
use Rattle.cjc_cmd_convert.specs.List.Listed.{ListTree}
use Rattle.cjc_cmd_card.specs.Script.declared.report.Report.{Report}
use Rattle.cjc_cmd_card.specs.LowerCmdJvm.Running.Ready.{Breaks}
use Rattle.cjc_cmd_card.specs.LowerCmdJvm.declared.running.input.Input.{Input}
use Rattle.cjc_cmd_card.specs.LowerScriptText.Printed.{report_text}
use Rattle.cjc_cmd_make.specs.Report.Package.{made_files, script_name}
use Rattle.cjc_cmd_make.specs.Report.Runs.{IsMade, IsReportByName, IsReportByToken, Refuses, RefusesComponents}
use Rattle.cjc_cmd_make.specs.Report.Runs.{RefusesRuns, card_end, of_class_files, of_components, of_list, of_package}
use Rattle.cjc_cmd_make.specs.Report.Runs.{of_reads}
use Rattle.cjc_cmd_make.specs.Report.Runs.{of_rules, of_runs, reads_end, with_made}

-- a conversion refuses by one rule at one place, or makes one thing, and never both
abbrev pub IsRefusedOnce : Type 0
IsRefusedOnce = (list : ListTree) (files : List (List ℕ)) (r s : Refusal) → IsRefused list files r
    → IsRefused list files s → r ≡ s

abbrev pub IsConvertedOnce : Type 0
IsConvertedOnce = (list : ListTree) (files : List (List ℕ)) (m n : Conversion) → IsConverted list files m
    → IsConverted list files n → m ≡ n

abbrev pub IsNeverBoth : Type 0
IsNeverBoth = (list : ListTree) (files : List (List ℕ)) (made : Conversion) (r : Refusal) → IsConverted list files made
    → IsRefused list files r → ⊥

-- a run by token is refused by one rule, or is reported, and never both
abbrev pub IsRunOnce : Type 0
IsRunOnce = (n : ℕ) (script : List ℕ) (input : ComponentsInput) (r s : Refusal) → Runs n script input (Err r)
    → Runs n script input (Err s) → r ≡ s

abbrev pub IsNeverRunToo : Type 0
IsNeverRunToo = (n : ℕ) (script : List ℕ) (input : ComponentsInput) (todo : Todo) (r : Refusal)
    → Runs n script input (Ok todo) → Runs n script input (Err r) → ⊥

-- the report of a run by name is no refusal of it
run_unrefused : (input : Input) (report : Report) (r : Refusal) → IsReportByName input report
    → IsFirstRefused (Breaks input.list input.files script_name input.script) r → ⊥
run_unrefused input report r run first =
    let printed : Todo = record { files = []; lines = report_text report ∷ [] } in
    never_run_and_refused 1000000 script_name input printed r (record {
      ready = run.ready;
      is_ready = run.is_ready;
      report = report;
      is_report = run.is_report;
      printed = refl;
    }) first

-- ---- runs by token

module _ (once : IsRunOnce) (never_too : IsNeverRunToo) (files : Files) where
  same_components : (a b : ComponentsInput) → card_end files ≡ complete a → card_end files ≡ complete b → a ≡ b
  same_components a b e f = let both : ◌≡◌ {A = Verdict ComponentsInput} (complete a) (complete b) = sym e ∙ f in cc

  not_read : (input : ComponentsInput) (r : Refusal) → card_end files ≡ complete input → card_end files ≡ refused r → ⊥
  not_read input r e f = let both : ◌≡◌ {A = Verdict ComponentsInput} (complete input) (refused r) = sym e ∙ f in cc

  first_too : (a b : ComponentsInput) (r : Refusal) → card_end files ≡ complete a → card_end files ≡ complete b
      → IsFirstRefused (AnyBreaks a script_name) r → IsFirstRefused (AnyBreaks b script_name) r
  first_too a b r e f x = subst (λ i. IsFirstRefused (AnyBreaks i script_name) r) (same_components a b e f) x

  one_components : (r s : Refusal) → RefusesComponents files r → RefusesComponents files s → r ≡ s
  one_components r s (of_reads e) (of_reads f) =
      let both : ◌≡◌ {A = Verdict ComponentsInput} (refused r) (refused s) = sym e ∙ f in cc
  one_components r s (of_reads e) (of_rules input f y) = absurd (not_read input r f e)
  one_components r s (of_rules input e x) (of_reads f) = absurd (not_read input s e f)
  one_components r s (of_rules input e x) (of_rules other f y) = once 3000000 script_name input r s x (first_too other
      input s f e y)

  never_components : (report : Report) (r : Refusal) → IsReportByToken files report → RefusesComponents files r → ⊥
  never_components report r run (of_reads e) = not_read run.input r run.read e
  never_components report r run (of_rules input e x) =
      let reported = run.reported in
      let printed : Todo = record { files = []; lines = report_text report ∷ [] } in
      never_too 3000000 script_name run.input printed r (record {
        ready = reported.ready;
        is_ready = reported.is_ready;
        report = report;
        is_report = reported.is_report;
        printed = refl;
      }) (first_too input run.input r e run.read x)

-- ---- all

module _ (one : IsRefusedOnce) (converted_once : IsConvertedOnce) (never : IsNeverBoth) (once : IsRunOnce)
    (never_too : IsNeverRunToo) (number size : ℕ) where
  abbrev files : Files
  files = made_files number size

  same_input : (a b : Input) → reads_end files ≡ complete a → reads_end files ≡ complete b → a ≡ b
  same_input a b e f = let both : complete a ≡ complete b = sym e ∙ f in cc

  same_refusal : (r s : Refusal) → reads_end files ≡ refused r → reads_end files ≡ refused s → r ≡ s
  same_refusal r s e f = let both : ◌≡◌ {A = Verdict Input} (refused r) (refused s) = sym e ∙ f in cc

  not_refused : (input : Input) (r : Refusal) → reads_end files ≡ complete input → reads_end files ≡ refused r → ⊥
  not_refused input r e f = let both : complete input ≡ refused r = sym e ∙ f in cc

  -- what holds of one input holds of the other
  converted_too : (a b : Input) (made : Conversion) → reads_end files ≡ complete a → reads_end files ≡ complete b
      → IsConverted a.list a.files made → IsConverted b.list b.files made
  converted_too a b made e f c = subst (λ (i : Input). IsConverted i.list i.files made) (same_input a b e f) c

  -- and of what is made of one that of the other
  runs_too : (a b : Input) (made also : Conversion) (r : Refusal) → reads_end files ≡ complete a
      → reads_end files ≡ complete b → IsConverted a.list a.files made → IsConverted b.list b.files also
      → RefusesRuns files a made r → RefusesRuns files b also r
  runs_too a b made also r e f c d x =
      subst (λ (m : Conversion). RefusesRuns files b m r)
      (converted_once b.list b.files made also (converted_too a b made e f c) d)
      (subst (λ (i : Input). RefusesRuns files i made r) (same_input a b e f) x)

  one_of_runs : (input : Input) (made : Conversion) (r s : Refusal) → RefusesRuns files input made r
      → RefusesRuns files input made s → r ≡ s
  one_of_runs input made r s (of_class_files x) (of_class_files y) = one_refusal_of_runs 1000000 script_name input r s x
      y
  one_of_runs input made r s (of_class_files x) (of_components report run y) = absurd
      (run_unrefused input report r run x)
  one_of_runs input made r s (of_components report run x) (of_class_files y) = absurd
      (run_unrefused input report s run y)
  one_of_runs input made r s (of_components report run x) (of_components other again y) = one_components once never_too
      (with_made files input made) r s x y

  pub one_refusal : (r s : Refusal) → Refuses number size r → Refuses number size s → r ≡ s
  one_refusal r s (of_list e) (of_list f) = same_refusal r s e f
  one_refusal r s (of_list e) (of_package input f y) = absurd (not_refused input r f e)
  one_refusal r s (of_list e) (of_runs input f made d y) = absurd (not_refused input r f e)
  one_refusal r s (of_package input e x) (of_list f) = absurd (not_refused input s e f)
  one_refusal r s (of_package input e x) (of_package other f y) =
      one input.list input.files r s x (subst (λ (i : Input). IsRefused i.list i.files s) (same_input other input f e)
      y)
  one_refusal r s (of_package input e x) (of_runs other f made d y) =
      absurd (never input.list input.files made r (converted_too other input made f e d) x)
  one_refusal r s (of_runs input e made c x) (of_list f) = absurd (not_refused input s e f)
  one_refusal r s (of_runs input e made c x) (of_package other f y) =
      absurd (never other.list other.files made s (converted_too input other made e f c) y)
  one_refusal r s (of_runs input e made c x) (of_runs other f also d y) =
      one_of_runs input made r s x (runs_too other input also made s f e d c y)

  pub never_both : (todo : Todo) (r : Refusal) → IsMade number size todo → Refuses number size r → ⊥
  never_both todo r made (of_list e) = not_refused made.input r made.read e
  never_both todo r made (of_package input e x) = never input.list input.files made.made r (converted_too made.input
      input made.made made.read e made.is_converted) x
  never_both todo r made (of_runs input e also c x) = by (runs_too input made.input also made.made r e made.read c
      made.is_converted x)
    where
      by : RefusesRuns files made.input made.made r → ⊥
      by (of_class_files y) = let summary = made.summary in run_unrefused made.input summary.by_name r
          summary.is_by_name y
      by (of_components report run y) =
          let summary = made.summary in
          never_components once never_too (with_made files made.input made.made) summary.by_token r summary.is_by_token
          y
