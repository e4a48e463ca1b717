use Rattle.std.proofs.Common.{◌≡◌, map, take}
use Rattle.cjc_cmd_card.specs.CardLink.Group.{import_of}
use Rattle.cjc_cmd_link.specs.ByToken.{import_for}
use Rattle.cjc_cmd_link.proofs.tokens.imports_of.Given as goal

abbrev pub invariant-loop-tree : goal.invariant-loop-tree
invariant-loop-tree l = map import_of l.imports ≡ map (import_for l.packages l.outside) (take l.tree-index l.trees)
