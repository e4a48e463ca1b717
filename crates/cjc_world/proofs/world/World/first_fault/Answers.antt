use Rattle.std.proofs.Common.{sym, ap, ◌∙◌}
use Rattle.std.specs.Prelude.{option_map}
use Rattle.cjc_world.specs.Broken.{break_of}
use Rattle.cjc_world.specs.Rules.{breaks}
use Rattle.cjc_world.proofs.Heads.{head_empty}
use Rattle.cjc_world.proofs.world.World.first_fault.Goals as goal

pub returns-in-Ok-None-clause-none : goal.returns-in-Ok-None-clause-none
returns-in-Ok-None-clause-none c = head_empty (breaks c.args.list.now c.args.self.now) (sym c.in-Ok-None.ensures ∙ ap (option_map break_of) c.in-Ok-None.field-0-is)
