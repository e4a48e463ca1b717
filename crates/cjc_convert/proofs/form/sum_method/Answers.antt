use Rattle.std.proofs.Common.{sym, ◌∙◌}
use Rattle.cjc_convert.proofs.Forms.{method_of}
use Rattle.cjc_convert.proofs.form.sum_method.Goals as goal

pub returns-in-None-clause-none : goal.returns-in-None-clause-none
returns-in-None-clause-none c = λ params code insns h.
    let none = rw c.in-None.is at c.in_ok-insns.ensures.none in
    none insns (method_of _ _ _ _ _ _ h (sym c.items-2.ensures ∙ c.in-Some.ensures.found.0) c.in-Some-code.is)
