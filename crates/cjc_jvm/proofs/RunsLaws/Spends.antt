-- What an instruction spends.
use Rattle.std.proofs.Common.{◌≡◌, ℕ, ◌+◌, refl, sym, add-zero, ap, ◌∙◌, Bool, true, false}
use Rattle.std.specs.Prelude.{if◌then◌else◌}
use mir.Val.{bool_byte}
use Rattle.cjc_jvm_step.specs.Script.declared.report.Outcome.{Outcome}
use Rattle.cjc_jvm_step.specs.Script.declared.report.Report.{Report}
use Rattle.cjc_jvm_step.specs.CardSemantics.Bytecode.Runs.{Move, Over}
use Rattle.cjc_jvm_semantics.specs.Linked.{Linked}
use Rattle.cjc_jvm_semantics.specs.Machine.{State, report, spend, spend_unless_stuck}

spent_by : (is : Bool) (o : Outcome) (s : State) → (if is then record (report o s) { spent = s.spent + 1 }
    else report o s) ≡ report o (record s { spent = s.spent + bool_byte is })
spent_by true o s = refl
spent_by false o s = ap (λ n. record (report o s) { spent = n }) (sym (add-zero s.spent))

pub spend_over : (l : Linked) (move : Move State) (o : Outcome) (is : Bool) (s : State) → move ≡ Over (report o s)
    → ((r : Report) → spend_unless_stuck l o r ≡ (if is then record r { spent = r.spent + 1 } else r))
    → spend l move ≡ Over (report o (record s { spent = s.spent + bool_byte is }))
spend_over l move o is s e h = ap (spend l) e ∙ ap (λ r. Over r) (h (report o s)) ∙ ap (λ r. Over r) (spent_by is o s)
