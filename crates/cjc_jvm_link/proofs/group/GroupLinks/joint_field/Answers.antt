use Rattle.std.proofs.Common.{ap, ◌∙◌}
use Rattle.cjc_jvm_semantics.specs.Group.{joint}
use Rattle.cjc_jvm_link.specs.Group.{Grouped}
use Rattle.cjc_jvm_link.specs.declared.group.GroupLinks.TheInside.{Inside}
use Rattle.cjc_jvm_link.proofs.Grouping.{field_there}
use Rattle.cjc_jvm_link.proofs.group.GroupLinks.joint_field.Goals as goal

pub returns-in-Some : goal.returns-in-Some
returns-in-Some c =
    field_there (ap (λ (g : Inside). let links = g.links in links.files) c.self-inside.view_is ∙ c.self.invariant
    ∙ ap (λ (g : Grouped). joint g.group) c.self.view_is) c.args.id.now c.args.owner.now c.in-Some.found
    (c.field_at.ensures c.args.id.now) c.in-Some.ensures
