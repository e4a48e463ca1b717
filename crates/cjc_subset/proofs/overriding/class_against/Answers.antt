use Rattle.cjc_subset.specs.Overriding.{class_against}
use Rattle.cjc_bytes.proofs.Firsts.{at_same}
use Rattle.cjc_subset.proofs.overriding.class_against.Goals as goal

pub returns : goal.returns
unfolding class_against
returns c = λ f e. c.first.ensures _ _ (at_same 307 _ c.in_ok-lacking.ensures e c.broken.ensures)
    (c.methods_against.ensures f e)
