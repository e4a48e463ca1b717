use Rattle.std.proofs.Common.{sym, ◌∙◌, subst}
use Rattle.std.proofs.lemmas.List.{drop_all}
use Rattle.cjc_types.specs.Names.{In}
use Rattle.cjc_types.specs.Working.Merging.{none_found, within_next}
use Rattle.cjc_types.proofs.names.has_all.Goals as goal

pub loop-name-preserved : goal.loop-name-preserved
loop-name-preserved c = λ rest.
    c.loop-name.invariant
    (within_next c.args.names.now c.args.set.now c.loop-name.name-index c.name-item.result c.items.result.now
    c.loop-name-test.true c.name-item.is c.items.ensures
    (none_found c.items.result.now c.args.set.now c.place_of.result c.place_of.ensures (sym c.is_some.ensures
    ∙ c.if-is_some.false)) rest)

pub returns : goal.returns
returns c = λ _. c.loop-name.invariant (λ n is. absurd (subst (In n) (drop_all c.loop-name.name-index c.args.names.now
    c.loop-name-test.false) is))
