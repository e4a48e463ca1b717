use Rattle.std.proofs.Common.{sym, subst, ◌∙◌}
use Rattle.std.specs.Prelude.{All}
use Rattle.cjc_methods.specs.Ready.{AreOrdered, IsListed}
use Rattle.cjc_shape.proofs.PreparedLaws.Parts.{ok_map, ordered}
use Rattle.cjc_shape.proofs.whole.shaping.members_of.Goals as goal

pub method_order-requires : goal.method_order-requires
method_order-requires c = rw c.items.ensures (c.in_ok-order.ensures.order ∙ ordered c.args.world.now c.in_ok-order.order
    c.in_ok-order.ensures.classes)

pub returns-clause-listed : goal.returns-clause-listed
returns-clause-listed c =
    let order : AreOrdered c.args.world.now c.items.result.now = rw c.items.ensures (c.in_ok-order.ensures.order
    ∙ ordered c.args.world.now c.in_ok-order.order c.in_ok-order.ensures.classes) in
    ok_map c.method_order.result _ (All (IsListed c.args.world.now)) (λ ms is. subst (λ fs. All (IsListed
    c.args.world.now) fs) (sym is) (c.methods_are_own.ensures.listed c.args.world.now c.items.result.now order))
    c.method_order.ensures
