use Rattle.std.proofs.Common.{◌∙◌}
use Rattle.cjc_captree.proofs.TreesLaws.Exported.{exported_offsets}
use Rattle.cjc_captree.proofs.trees.tree.export_of.Goals as goal

pub returns : goal.returns
returns c = λ p g n. c.export.ensures p g.by_list g.by_files (exported_offsets p _ (c.items.ensures
    ∙ n.numbered) (c.items-2.ensures ∙ n.cells) (c.items-3.ensures
    ∙ n.offsets) (c.offsets_are_of_the_package.ensures.own p))
