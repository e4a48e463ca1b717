use Rattle.std.proofs.Common.{[], ◌∷◌, ◌++◌, arith, sym, ap, ◌∙◌}
use Rattle.cjc_world.proofs.Joined.{joined-new, joined-old}
use Rattle.cjc_world.proofs.Marking.{mark-set, mark-over}
use Rattle.cjc_world.proofs.tables.Places.put.Goals as goal

pub returns-then-has : goal.returns-then-has
returns-then-has c = sym (joined-old c.args.self.now c.args.place (sym c.has.ensures ∙ c.if-has.true))

pub invariant_of-self-then-place-len : goal.invariant_of-self-then-place-len
invariant_of-self-then-place-len c = mark-set c.self.inside.marks.items c.self.inside.places.items c.push.new.self.items
    c.args.place c.self.invariant c.in_ok-push.ensures.items

pub invariant_of-self-else-place-len : goal.invariant_of-self-else-place-len
invariant_of-self-else-place-len c = mark-over c.self.inside.marks.items c.self.inside.places.items
    c.push.new.self.items c.args.place (let e = c.len.ensures in let l = c.if-place-len.false
    in omega arith) c.self.invariant c.in_ok-push.ensures.items

pub returns-then-place-len : goal.returns-then-place-len
returns-then-place-len c =
    c.in_ok-push.ensures.items ∙ ap (λ v. v ++ c.args.place ∷ []) c.self.view_is
    ∙ sym (joined-new c.args.self.now c.args.place (sym c.has.ensures ∙ c.if-has.false))

pub returns-else-place-len : goal.returns-else-place-len
returns-else-place-len c =
    c.in_ok-push.ensures.items ∙ ap (λ v. v ++ c.args.place ∷ []) c.self.view_is
    ∙ sym (joined-new c.args.self.now c.args.place (sym c.has.ensures ∙ c.if-has.false))
