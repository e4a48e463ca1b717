use Rattle.cjc_subset.specs.Checks.{class_breaks}
use Rattle.cjc_subset.proofs.checking.class_break.Goals as goal

pub returns : goal.returns
unfolding class_breaks
returns c = λ f e.
    c.first-3.ensures _ _
    (c.first-2.ensures _ _
    (c.first.ensures _ _ (c.in_ok-own.ensures f e) (c.fields_break-fields.ensures f e))
    (c.methods_break-methods.ensures f e))
    (c.in_ok-overriding.ensures f e)
