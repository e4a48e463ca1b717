use Rattle.std.proofs.Common.{◌∙◌}
use Rattle.cjc_types.proofs.repeats.MarkedMethodRepeating.repeats.Goals as goal

pub repeats_at-requires : goal.repeats_at-requires
repeats_at-requires c = c.items.ensures ∙ c.args.self.now.marked
