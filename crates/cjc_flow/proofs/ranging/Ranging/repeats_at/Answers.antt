use Rattle.std.proofs.Common.{ap, ◌∙◌}
use Rattle.cjc_types.specs.Repeats.{repeats_at}
use Rattle.cjc_flow.specs.Working.Kept.{Ranged}
use Rattle.cjc_flow.proofs.ranging.Ranging.repeats_at.Goals as goal

pub repeats_at-requires : goal.repeats_at-requires
repeats_at-requires c = c.items.ensures ∙ c.self.invariant.typed.marks

pub returns : goal.returns
returns c = c.repeats_at.ensures ∙ ap (λ (r : Ranged). repeats_at r.body c.args.bounds.now c.args.at) c.self.view_is
