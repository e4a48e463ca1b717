use Rattle.std.proofs.Common.{List, ℕ, ap, sym, subst, ◌∙◌}
use Rattle.std.specs.List.{fold}
use Rattle.cjc_check_index.specs.Imported.Working.Graph.{AreBelow, with_edge}
use Rattle.cjc_check_index.proofs.ImportedLaws.Edges.{put_all, put_more, put_none}
use Rattle.cjc_check_index.proofs.imported.graph.below_of.Goals as goal

pub loop-i-init : goal.loop-i-init
loop-i-init c = put_none c.args.above.now c.in_ok-below.below.items c.in_ok-below.ensures

pub loop-i-preserved : goal.loop-i-preserved
loop-i-preserved c =
    put_more c.loop-i.i c.index-above-i.result c.args.above.now c.loop-i.below.items _ c.loop-i-test.true
    c.index-above-i.is
    (c.in_ok-put_edges.ensures ∙ ap (λ (xs : List ℕ). fold (with_edge c.loop-i.i) c.loop-i.below.items xs)
    c.items.ensures) c.loop-i.invariant

pub returns : goal.returns
returns c =
    let P : List (List ℕ) → Type 0 = λ rows. AreBelow c.args.above.now rows in
    subst P (sym c.of.ensures) (put_all c.loop-i.i c.args.above.now c.loop-i.below.items c.loop-i-test.false
    c.loop-i.invariant)
