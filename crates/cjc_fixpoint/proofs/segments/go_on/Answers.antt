use Rattle.std.proofs.Common.{Some}
use Rattle.cjc_fixpoint.specs.Working.HandedLaws.{handed_own}
use Rattle.cjc_fixpoint.proofs.Steps.{contains_same}
use Rattle.cjc_fixpoint.proofs.Listing.{passed_own}
use Rattle.cjc_fixpoint.proofs.segments.go_on.Goals as goal

pub deal-requires-clause-own : goal.deal-requires-clause-own
deal-requires-clause-own g c e has =
    (g.met.F.Flow.laws c.args.flow.now).own_edges c.args.at c.args.state c.requires.own e
    (contains_same _ _ e c.in_ok-edges.ensures has)

pub returns-else-is_asked-clause-own : goal.returns-else-is_asked-clause-own
returns-else-is_asked-clause-own g c =
    passed_own (g.F.Flow.meaning c.args.flow.now) (g.met.F.Flow.laws c.args.flow.now) c.args.at c.args.state
    c.requires.own c.pass.result c.pass.ensures
