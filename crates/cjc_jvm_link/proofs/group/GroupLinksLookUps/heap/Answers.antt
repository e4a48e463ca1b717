use Rattle.std.proofs.Common.{◌≡◌, map, subst, ap, ◌∙◌}
use Rattle.std.specs.Prelude.{IfOk}
use Rattle.cjc_world.specs.declared.image.StaticImage.{StaticImage}
use Rattle.cjc_jvm_semantics.specs.OnePackage.{static_array}
use Rattle.cjc_jvm_semantics.specs.Group.{group_linked}
use Rattle.cjc_jvm_link.specs.Group.{Grouped}
use Rattle.cjc_jvm_link.specs.declared.group.GroupLinks.TheInside.{Inside}
use Rattle.cjc_jvm_link.proofs.group.GroupLinksLookUps.heap.Goals as goal

pub returns : goal.returns
unfolding group_linked
returns c =
    subst (λ (i : StaticImage). IfOk c.heap_of.result (λ heap. heap ≡ map static_array i.arrays))
    (ap (λ (g : Inside). let links = g.links in links.image) c.self-inside.view_is
    ∙ ap (λ (g : Grouped). g.image) c.self.view_is)
    c.heap_of.ensures
