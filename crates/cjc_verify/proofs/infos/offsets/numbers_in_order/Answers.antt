use Rattle.std.proofs.Common.{◌∙◌, ◌++◌, ℕ, List, ap}
use Rattle.cjc_verify.proofs.InfosLaws.Wants.{order_parts}
use Rattle.cjc_verify.proofs.infos.offsets.numbers_in_order.Goals as goal

pub returns : goal.returns
returns c =
    let files = c.args.world.now in
    order_parts files c.in_ok-interfaces.interfaces c.in_ok-classes.classes _ c.in_ok-interfaces.ensures.order
    c.in_ok-classes.ensures.order
    (c.in_ok-put_numbers-2.ensures
    ∙ ap (λ (row : List ℕ). row ++ c.items-2.result.now) (c.in_ok-put_numbers.ensures
    ∙ ap (λ (row : List ℕ). row ++ c.items.result.now) c.new-order.ensures ∙ c.items.ensures)
    ∙ ap (λ (row : List ℕ). c.in_ok-interfaces.interfaces ++ row) c.items-2.ensures)
