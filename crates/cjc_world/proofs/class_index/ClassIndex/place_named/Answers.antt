use Rattle.std.proofs.Common.{ap, ◌∙◌}
use Rattle.cjc_world.specs.Classes.{all_classes}
use Rattle.cjc_world.specs.Working.Places.{place_named}
use Rattle.cjc_world.proofs.class_index.ClassIndex.place_named.Goals as goal

pub returns : goal.returns
unfolding all_classes
returns c = c.get.ensures ∙ c.self.invariant.named c.args.name.now
    ∙ ap (λ f. place_named (all_classes f) c.args.name.now) c.self.view_is
