use Rattle.std.proofs.Common.{List, ap, ◌∙◌}
use Rattle.cjc_check_rules.specs.ExportFile.declared.tree.ExportClass.{ExportClass}
use Rattle.cjc_check_index.specs.Lookup.Indexed.{places_of}
use Rattle.cjc_check_index.proofs.LookupLaws.TokenPlaces.{tokens_more}
use Rattle.cjc_check_index.proofs.lookup.tokens.tokens_of.Goals as goal

pub loop-tree-preserved : goal.loop-tree-preserved
loop-tree-preserved c =
    tokens_more c.args.exports.now c.loop-tree.tree-index c.tree-item.result c.loop-tree.tokens _ _
    c.loop-tree-test.true c.tree-item.is
    (c.in_ok-places_of.ensures ∙ ap (λ (cs : List ExportClass). places_of cs) c.items.ensures) c.in_ok-push.ensures.ok
    c.loop-tree.invariant
