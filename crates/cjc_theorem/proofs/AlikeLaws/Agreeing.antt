-- Runs that agree within so many instructions for one agree within more, with any run that has the same reports.
use Rattle.std.proofs.Common.{◌≡◌, ℕ, ◌*◌, ◌≤◌, ap, sym, subst, ◌∙◌}
use Rattle.std.specs.Prelude.{◌≢◌, ◌⊎◌}
use Rattle.cjc_token_proof.specs.CardSemantics.Bytecode.Runs.{Agree, Alike}
use Rattle.cjc_token_proof.specs.Script.Agree.{IsBegun}
use Rattle.cjc_token_proof.specs.Script.declared.report.Outcome.TheVariants.{Stuck}
use Rattle.cjc_token_proof.specs.Script.declared.report.Report.{Report}

module _ (few most : ℕ) (enough : (n m : ℕ) → most * n ≤ m → few * n ≤ m) (one other another : ℕ → Report)
    (agree : Agree few one other) (same : (n : ℕ) → another n ≡ other n) where
  pub agree_also : Agree most one another
  agree_also = record {
    notes = λ n m. subst (λ (r : Report). IsBegun (one n).notes r.notes ⊎ IsBegun r.notes (one n).notes) (sym (same m))
        (agree.notes n m);
    ends = λ n m le over. subst (λ (r : Report). Alike r (one n)) (sym (same m)) (agree.ends n m (enough n m le) over);
    ends_only = λ n m le over. subst (λ (r : Report). Alike (one m) r) (sym (same n)) (agree.ends_only n m le
        (λ e. over (ap (λ (r : Report). r.outcome) (same n) ∙ e)));
    never_stuck = λ n at. (let free = agree.never_stuck n at
        in (free.0, subst (λ (r : Report). r.outcome ≢ Stuck at) (sym (same n)) free.1));
  }
