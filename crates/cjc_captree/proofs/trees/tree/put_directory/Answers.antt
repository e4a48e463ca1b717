use Rattle.std.proofs.Common.{refl}
use Rattle.cjc_captree.proofs.TreesLaws.Trees.{sized}
use Rattle.cjc_captree.proofs.trees.tree.put_directory.Goals as goal

pub returns : goal.returns
returns c = λ p h. sized p c.args.tree.now _ _ c.in_ok-counts.counts c.in_ok-sizes.sizes h (c.in_ok-counts.ensures p h)
    refl c.in_ok-sizes.ensures refl
