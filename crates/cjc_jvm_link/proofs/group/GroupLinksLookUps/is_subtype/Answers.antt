use Rattle.std.proofs.Common.{ap, ◌∙◌}
use Rattle.cjc_world.specs.Classes.{all_classes}
use Rattle.cjc_world.specs.Files.{Files}
use Rattle.cjc_world.specs.Subtype.{is_subtype}
use Rattle.cjc_jvm_semantics.specs.Group.{group_linked, joint}
use Rattle.cjc_jvm_link.specs.Group.{Grouped}
use Rattle.cjc_jvm_link.specs.declared.group.GroupLinks.TheInside.{Inside}
use Rattle.cjc_jvm_link.proofs.group.GroupLinksLookUps.is_subtype.Goals as goal

pub returns : goal.returns
unfolding group_linked
returns c =
    c.subtype.ensures ∙ ap (λ (f : Files). is_subtype (all_classes f) c.args.sub.now c.args.sup.now)
    (ap (λ (g : Inside). let links = g.links in links.files) c.self-inside.view_is ∙ c.self.invariant
    ∙ ap (λ (g : Grouped). joint g.group) c.self.view_is)
