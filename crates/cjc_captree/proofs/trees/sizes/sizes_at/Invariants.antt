use Rattle.std.proofs.Common.{◌≡◌, map, take, length}
use Rattle.cjc_classes.specs.CapWrite.Size.{info_of}
use Rattle.cjc_captree.proofs.trees.sizes.sizes_at.Given as goal

abbrev pub invariant-loop-tag : goal.invariant-loop-tag
invariant-loop-tag l = l.row ≡ map (λ tag. length (info_of l.tree tag)) (take l.tag-index l.tags)
