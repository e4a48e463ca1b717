use Rattle.std.proofs.Common.{ap, ◌∙◌, inl, inr, ⊎_elim}
use Rattle.cjc_bytes.specs.Breaks.{Break}
use Rattle.cjc_bytes.specs.declared.fault.Fault.TheVariants as faults
use Rattle.cjc_tokens.proofs.assigning.refused.Goals as goal

pub returns : goal.returns
returns c = ⊎_elim (λ e. inl (e ∙ ap (λ (b : Break). faults.Refused b.refusal) c.high_break-high.ensures)) (λ m. inr m)
    c.refused_at.ensures
