use Rattle.std.proofs.Common.{sym, ap, ◌∙◌}
use Rattle.std.specs.Prelude.{option_map}
use Rattle.cjc_world.specs.Working.Known.{class_of}
use Rattle.cjc_world.proofs.class_index.ClassIndex.class_at.Goals as goal

pub returns-in_err-place-clause-at : goal.returns-in_err-place-clause-at
returns-in_err-place-clause-at c = ap (option_map class_of) c.from_residual.ensures ∙ sym c.in_err-place.ensures

pub returns-clause-at : goal.returns-clause-at
returns-clause-at c = c.class_in.ensures.at ∙ c.in_ok-place.ensures
