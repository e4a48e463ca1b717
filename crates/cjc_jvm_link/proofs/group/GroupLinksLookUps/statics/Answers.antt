use Rattle.std.proofs.Common.{List, ap, ◌∙◌}
use Rattle.cjc_world.specs.declared.image.StaticImage.{StaticImage}
use Rattle.cjc_world.specs.Files.{Files}
use Rattle.cjc_jvm_step.specs.Script.declared.report.FieldValue.{FieldValue}
use Rattle.cjc_jvm_semantics.specs.OnePackage.{cells}
use Rattle.cjc_jvm_semantics.specs.Group.{group_linked, joint}
use Rattle.cjc_jvm_link.specs.Group.{Grouped}
use Rattle.cjc_jvm_link.specs.declared.group.GroupLinks.TheInside.{Inside}
use Rattle.cjc_jvm_link.proofs.group.GroupLinksLookUps.statics.Goals as goal

-- the static cells of files, as an image tells them
abbrev cells_of : StaticImage → Files → List FieldValue
cells_of image files = cells image files.classes

pub returns : goal.returns
unfolding group_linked
returns c =
    c.items.ensures ∙ c.self-inside.invariant.are_cells
    ∙ ap (λ (g : Inside). let links = g.links in cells_of links.image links.files) c.self-inside.view_is
    ∙ ap (cells_of c.self.inside.links.image) c.self.invariant
    ∙ ap (λ (g : Grouped). cells_of g.image (joint g.group)) c.self.view_is
