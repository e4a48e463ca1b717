use Rattle.cjc_subset.specs.Overriding.{method_against}
use Rattle.cjc_bytes.proofs.Firsts.{at_same}
use Rattle.cjc_subset.proofs.overriding.method_against.Goals as goal

pub returns : goal.returns
unfolding method_against
returns c = λ f e. c.first.ensures _ _ (at_same 305 _ c.breaks_sight.ensures (c.method_spot-spot.ensures f e)
    c.broken.ensures) (at_same 306 _ c.breaks_kind.ensures (c.method_spot-spot.ensures f e) c.broken-2.ensures)
