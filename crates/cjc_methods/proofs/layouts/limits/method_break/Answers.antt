use Rattle.cjc_methods.proofs.layouts.limits.method_break.Goals as goal

pub returns : goal.returns
returns c = λ p k same is. c.first.ensures _ _ (c.order_break-order.ensures p k same is) (c.length_break.ensures p k
    same is)
