use Rattle.std.proofs.Common.{◌≡◌, length, sym, ap, subst, ◌∙◌}
use Rattle.std.specs.Prelude.{MatchOption, None, slice_get}
use Rattle.cjc_world.specs.Classes.{all_classes, class_at}
use Rattle.cjc_world.proofs.Counted.{number-answers, noted-places}
use Rattle.cjc_world.proofs.class_index.ClassIndex.place_at.Goals as goal

pub returns : goal.returns
unfolding all_classes
returns c =
    let r = c.self.inside in
    let inv = c.self.invariant in
    let few = (let i = inv.indexed in i.count ∙ ap length (sym i.all)) in
    subst (λ f. MatchOption c.get.result (class_at (all_classes f) c.args.imported c.args.class ≡ None)
    (λ p. slice_get (all_classes f) p ≡ class_at (all_classes f) c.args.imported c.args.class)) c.self.view_is
    (number-answers r.classes r.exports c.args.imported r.lines r.spots inv.indexed.all few c.args.class c.get.result
    (c.get.ensures ∙ ap (λ ps. slice_get ps c.args.class) (noted-places c.args.imported r.numbers r.spots inv.declared
    inv.imported)))
