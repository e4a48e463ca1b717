use Rattle.std.proofs.Common.{ap, ◌∙◌}
use Rattle.cjc_world.specs.Classes.{all_classes}
use Rattle.cjc_world.specs.Supertypes.{stands_above}
use Rattle.cjc_world.proofs.Gets.{none-above}
use Rattle.cjc_world.proofs.unchecked.UncheckedWorld.is_own_super.Goals as goal

pub returns-in-None : goal.returns-in-None
returns-in-None c =
    none-above (all_classes c.self.inside.class_index) (c.self.invariant.acyclic c.in-None.is) c.args.class.now
    ∙ ap (λ f. stands_above (all_classes f) c.args.class.now c.args.class.now) c.self.view_is

pub is_own_super-requires : goal.is_own_super-requires
is_own_super-requires c = c.self.invariant.asked c.in-Some.cycles c.in-Some.is
