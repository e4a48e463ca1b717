use Rattle.std.proofs.Common.{◌≡◌, Ok}
use Rattle.cjc_code.specs.Cut.{cut}
use Rattle.cjc_convert.proofs.Forms.{sum_of}
use Rattle.cjc_convert.proofs.form.sum_code.Goals as goal

pub returns-else-has_sum-clause-none : goal.returns-else-has_sum-clause-none
returns-else-has_sum-clause-none c = λ insns h.
    let e : cut c.args.code.now.bytes ≡ Ok c.in-Ok.insns = rw (← c.code.view_is) c.in-Ok.ensures in
    let s = sum_of _ _ _ _ h e in
    let t = c.has_sum.ensures.1 (rw c.items.ensures (rw (← c.code.view_is) at s)) in
    let f = c.if-has_sum.false in
    absurd cc
