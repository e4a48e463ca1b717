use Rattle.std.proofs.Common.{◌≡◌, drop}
use Rattle.cjc_world.specs.Classes.{all_classes}
use Rattle.cjc_world.specs.Rules.{has_language}
use Rattle.cjc_world.proofs.unchecked.UncheckedWorld.has_language.Given as goal

abbrev pub invariant-loop-tree : goal.invariant-loop-tree
invariant-loop-tree l = has_language (all_classes l.self) (drop l.tree-index l.tree-items)
    ≡ has_language (all_classes l.self) l.self.exports
