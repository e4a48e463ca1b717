use Rattle.std.proofs.Common.{ap, ◌∙◌}
use Rattle.cjc_world.specs.Classes.{all_classes}
use Rattle.cjc_world.specs.Kin.{stands_above}
use Rattle.cjc_world.proofs.Gets.{none-above}
use Rattle.cjc_world.proofs.draft.Draft.is_own_super.Goals as goal

pub returns-in-Some : goal.returns-in-Some
returns-in-Some c =
    none-above (all_classes c.self.inside.roster) (c.self.invariant.some c.in-Some.field-0 c.in-Some.is).above.acyclic c.args.class.now
    ∙ ap (λ f. stands_above (all_classes f) c.args.class.now c.args.class.now) c.self.view_is
