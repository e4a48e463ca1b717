use Rattle.std.proofs.Common.{◌≡◌, ap, sym, subst, ◌∙◌}
use Rattle.std.specs.Prelude.{Some, slice_get}
use Rattle.cjc_world.specs.Classes.{all_classes, classes_from}
use Rattle.cjc_world.specs.Rules.{members}
use Rattle.cjc_world.specs.Working.Members.{IsMemberIndex, places_in}
use Rattle.cjc_world.proofs.Indexing.{got_some, got_none}
use Rattle.cjc_world.proofs.Called.{index-at}
use Rattle.cjc_world.proofs.class_index.ClassIndex.members_in.Goals as goal

pub returns-in-Some : goal.returns-in-Some
unfolding all_classes
returns-in-Some c = λ k e.
    let r = c.self.inside in
    let w = classes_from r.classes r.exports 0 0 0 r.lines in
    let here : slice_get w c.args.place ≡ Some k = ap (λ f. slice_get (all_classes f) c.args.place) c.self.view_is
    ∙ e in
    let d = index-at w r.members c.args.place k c.self.invariant.members here in
    let row = got_some c.items.result.now c.args.place c.in-Some.index.now c.in-Some.ensures.lookup.3.0
    c.in-Some.ensures.lookup.1 ∙ ap (λ rows. slice_get rows c.args.place) c.items.ensures in
    let is : d.0 ≡ c.in-Some.index.now = let a = d.1 in cc in
    subst (IsMemberIndex (members c.args.field k)) (ap (places_in c.args.field) is ∙ sym c.places.ensures)
    (d.2 c.args.field)

pub returns-in-None : goal.returns-in-None
unfolding all_classes
returns-in-None c = λ k e.
    let r = c.self.inside in
    let w = classes_from r.classes r.exports 0 0 0 r.lines in
    let here : slice_get w c.args.place ≡ Some k = ap (λ f. slice_get (all_classes f) c.args.place) c.self.view_is
    ∙ e in
    let d = index-at w r.members c.args.place k c.self.invariant.members here in
    let none = got_none c.items.result.now c.args.place c.in-None.ensures.lookup.3
    ∙ ap (λ rows. slice_get rows c.args.place) c.items.ensures in
    let some = d.1 in
    cc
