use Rattle.cjc_shape_proof.specs.Components.Limits.{size_breaks}
use Rattle.cjc_convert.proofs.sizes.test_sizes.Goals as goal

pub returns-clause-unbroken : goal.returns-clause-unbroken
returns-clause-unbroken c = λ p named coded are.
    let widest = c.in_ok-widest.ensures p coded (c.handler_count.ensures p are) in
    c.answer.ensures.ok (size_breaks p) (c.size_break.ensures p named are widest)

pub returns-clause-refused : goal.returns-clause-refused
returns-clause-refused c = λ p named coded are.
    let widest = c.in_ok-widest.ensures p coded (c.handler_count.ensures p are) in
    c.answer.ensures.refused (size_breaks p) (c.size_break.ensures p named are widest)
