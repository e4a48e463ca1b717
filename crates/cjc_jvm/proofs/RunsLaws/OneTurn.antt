-- Turns, as the loop over them sees them.
use Rattle.std.proofs.Common.{◌≡◌, ℕ, suc, ◌+◌, ◌-◌, ◌<◌, ap, ◌∙◌, arith}
use Rattle.cjc_jvm_step.specs.Script.declared.report.Report.{Report}
use Rattle.cjc_jvm_step.specs.CardSemantics.Bytecode.Runs
use Rattle.cjc_jvm_step.specs.CardSemantics.Bytecode.Runs.{Device, On, Over, after}

-- a turn that goes on
pub run_on : {S : Type 0} (d : Device S) (n i : ℕ) (s t : S) → i < n → d.move s ≡ On t → Runs.run d (n - i) s
    ≡ Runs.run d (n - (i + 1)) t
run_on d n i s t h e =
    let left : n - i ≡ suc (n - (i + 1)) = omega arith in
    ap (λ k. Runs.run d k s) left ∙ ap (λ m. after m (Runs.run d (n - (i + 1)))) e

-- a turn that ends
pub run_over : {S : Type 0} (d : Device S) (n i : ℕ) (s : S) (r : Report) → i < n → d.move s ≡ Over r
    → Runs.run d (n - i) s ≡ r
run_over d n i s r h e =
    let left : n - i ≡ suc (n - (i + 1)) = omega arith in
    ap (λ k. Runs.run d k s) left ∙ ap (λ m. after m (Runs.run d (n - (i + 1)))) e
