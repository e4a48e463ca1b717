use Rattle.std.proofs.Common.{ap, ◌∙◌}
use Rattle.cjc_world.specs.Classes.{all_classes}
use Rattle.cjc_world.specs.Files.{Files}
use Rattle.cjc_jvm_semantics.specs.OnePackage.{entry_named}
use Rattle.cjc_jvm_semantics.specs.Group.{group_linked, joint}
use Rattle.cjc_jvm_link.specs.Group.{Grouped}
use Rattle.cjc_jvm_link.proofs.group.GroupLinksLookUps.entry.Goals as goal

pub returns : goal.returns
unfolding group_linked
returns c =
    c.entry_named.ensures ∙ ap (λ (f : Files). entry_named f (all_classes f) c.args.id.now)
    (c.self.invariant ∙ ap (λ (g : Grouped). joint g.group) c.self.view_is)
