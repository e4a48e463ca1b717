use Rattle.std.proofs.Common.{sym, ◌∙◌}
use Rattle.cjc_first.proofs.Forms.{method_of}
use Rattle.cjc_first.proofs.form.sum_method.Goals as goal

pub returns-else-is_sum_code-clause-none : goal.returns-else-is_sum_code-clause-none
returns-else-is_sum_code-clause-none c = λ params code h.
    let s = method_of _ _ _ _ _ _ h (sym c.items-2.ensures ∙ c.in_ok-params.ensures.found.0) c.in-Some.is in
    let yes = c.is_sum_code.ensures.1 s in
    let no = c.if-is_sum_code.false in
    absurd cc
