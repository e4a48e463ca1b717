use Rattle.std.proofs.Common.{◌∙◌, ap, sym}
use Rattle.cjc_exported.specs.World.Files.{Files}
use Rattle.cjc_exported.specs.World.Classes.{all_classes}
use Rattle.cjc_exported.specs.Components.Components.{uses_int}
use Rattle.cjc_captree.proofs.trees.tree.header_of.Goals as goal

pub returns : goal.returns
returns c = λ p g exports. c.header.ensures p g.by_list (c.in_ok-ints.ensures
    ∙ ap (λ (fs : Files). uses_int (all_classes fs)) (sym g.by_files)) exports
