use Rattle.std.proofs.Common.{◌∙◌, ap, map}
use Rattle.cjc_cmd_card.specs.CardLink.Group.{import_of}
use Rattle.cjc_cmd_link.proofs.Made.{mapped_more}
use Rattle.cjc_cmd_link.specs.ByToken.{import_for}
use Rattle.cjc_cmd_link.proofs.tokens.imports_of.Goals as goal

pub loop-tree-preserved : goal.loop-tree-preserved
loop-tree-preserved c =
    mapped_more import_of (import_for c.args.packages.now c.args.outside.now) c.args.trees.now c.loop-tree.tree-index
    c.tree-item.result c.in_ok-import.import _ _ c.loop-tree-test.true c.tree-item.is c.loop-tree.invariant
    c.in_ok-import.ensures c.in_ok-push.ensures.ok
