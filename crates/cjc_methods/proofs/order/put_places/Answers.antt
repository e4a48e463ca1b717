use Rattle.std.proofs.Common.{ap, ◌∙◌, ◌+◌, ◌-◌, ◌++◌}
use Rattle.cjc_methods.specs.Working.Members.{places}
use Rattle.cjc_methods.proofs.Members.{places_next}
use Rattle.cjc_methods.proofs.order.put_places.Goals as goal

pub loop-k-preserved : goal.loop-k-preserved
loop-k-preserved c =
    ap (λ out. out ++ places c.args.class (c.args.first + (c.loop-k.k + 1)) (c.args.count - (c.loop-k.k + 1)))
    c.in_ok-push.ensures.ok
    ∙ places_next c.loop-k.out c.args.class c.args.first c.loop-k.k c.args.count _ c.loop-k-test.true c.loop-k.invariant
