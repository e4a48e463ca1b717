use Rattle.std.proofs.Common.{sym, ap, ◌∙◌}
use Rattle.cjc_world.specs.Places.{is_in}
use Rattle.cjc_world.proofs.Joined.{joined-new, joined-old}
use Rattle.cjc_world.proofs.tables.put.Goals as goal

pub returns-then-contains : goal.returns-then-contains
returns-then-contains c = sym (joined-old c.args.places.now.items c.args.place (ap (is_in c.args.place) (sym c.deref.ensures.value) ∙ sym c.contains.ensures.value ∙ c.if-contains.true))

pub returns : goal.returns
returns c =
    c.in_ok-push.ensures.items
    ∙ sym (joined-new c.args.places.now.items c.args.place (ap (is_in c.args.place) (sym c.deref.ensures.value) ∙ sym c.contains.ensures.value ∙ c.if-contains.false))
