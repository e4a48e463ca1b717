use Rattle.std.proofs.Common.{◌≡◌, ◌<◌, ℕ}
use Rattle.cjc_first.specs.FirstForm.{shorts}
use Rattle.cjc_first.proofs.form.short_params.Given as goal

abbrev pub invariant-loop-params : goal.invariant-loop-params
invariant-loop-params l = (n : ℕ) → n < l.params → l.desc ≡ shorts n → ⊥
