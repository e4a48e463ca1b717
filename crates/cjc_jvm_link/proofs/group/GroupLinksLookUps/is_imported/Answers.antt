use Rattle.std.proofs.Common.{ap, ◌∙◌}
use Rattle.cjc_world.specs.Classes.{all_classes, class_named}
use Rattle.cjc_world.specs.Files.{Files}
use Rattle.cjc_jvm_semantics.specs.OnePackage.{is_plain_import}
use Rattle.cjc_jvm_semantics.specs.Group.{group_linked, joint}
use Rattle.cjc_jvm_link.specs.Group.{Grouped}
use Rattle.cjc_jvm_link.proofs.group.GroupLinksLookUps.is_imported.Goals as goal

pub returns : goal.returns
unfolding group_linked
returns c =
    c.is_plain_import.ensures ∙ ap (λ (f : Files). is_plain_import (class_named (all_classes f) c.args.class.now))
    (c.self.invariant ∙ ap (λ (g : Grouped). joint g.group) c.self.view_is)
