use Rattle.std.proofs.Common.{List, ℕ, ap, ◌∙◌}
use Rattle.std.specs.List.{fold}
use Rattle.cjc_order.specs.Classes.Queue.{with_sub}
use Rattle.cjc_order.proofs.ClassesLaws.Edges.{put_all, put_more, put_none}
use Rattle.cjc_order.proofs.classes.subs.subs_of.Goals as goal

pub loop-i-init : goal.loop-i-init
loop-i-init c = put_none c.args.listed.now c.in_ok-subs.subs.items c.in_ok-subs.ensures

pub loop-i-preserved : goal.loop-i-preserved
loop-i-preserved c =
    put_more c.loop-i.i c.index-listed-i.result c.args.listed.now c.loop-i.subs.items _ c.loop-i-test.true
    c.index-listed-i.is
    (c.in_ok-put_subs.ensures ∙ ap (λ (xs : List ℕ). fold (with_sub c.loop-i.i) c.loop-i.subs.items xs) c.items.ensures)
    c.loop-i.invariant

pub returns : goal.returns
returns c = put_all c.loop-i.i c.args.listed.now c.loop-i.subs.items c.loop-i-test.false c.loop-i.invariant
