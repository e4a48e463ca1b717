use Rattle.std.proofs.Common.{◌≡◌, ◌∙◌, ◌<◌, ◌+◌, ◌++◌, ◌∷◌, [], ap, subst, List, drop, length, map, replicate}
use Rattle.cjc_classes.specs.ClassFile.declared.tree.ClassTree.{ClassTree}
use Rattle.cjc_classes.specs.Descriptor.Made.{numbered}
use Rattle.cjc_classes.specs.declared.descriptor.parts.Extent.{Extent}
use Rattle.cjc_captree.specs.Working.Tables.{nowhere, row_of, table_of}
use Rattle.cjc_captree.proofs.ExtentsLaws.Counting.{rows_next}
use Rattle.cjc_captree.proofs.extents.rows.empty_rows.Goals as goal

pub loop-number-preserved : goal.loop-number-preserved
loop-number-preserved c =
    let w = c.args.world.now in
    let k = c.loop-number.number in
    let n = c.in_ok-count.count in
    let old = c.loop-number.rows.items in
    let lt : k < length w.classes = subst (λ (ts : List ClassTree). k < length ts) (c.items-number-end.ensures
    ∙ c.classes.ensures) c.loop-number-test.true in
    let pushed : c.push.new.self.items ≡ old ++ replicate n nowhere ∷ [] = c.in_ok-push.ensures.items
    ∙ ap (λ (r : List Extent). old ++ r ∷ []) c.in_ok-empty_row.ensures in
    ap (λ (rows : List (List Extent)). rows
    ++ map (row_of w (λ _. nowhere)) (numbered (k + 1) (drop (k + 1) w.classes))) pushed
    ∙ rows_next w k n old (table_of w (λ _. nowhere)) lt c.in_ok-count.ensures c.loop-number.invariant
