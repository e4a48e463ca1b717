use Rattle.std.proofs.lemmas.Result.{on_ok_weaker}
use Rattle.cjc_card_link.specs.LowerCheckIndex.Lookup.Parts.{complete_of}
use Rattle.cjc_classes.specs.LowerComponents.Paired.Pairs.{pair_breaks, pair_spots}
use Rattle.cjc_pairing.proofs.Heads.{first_alone, none_told}
use Rattle.cjc_pairing.proofs.pair.test_pair.Goals as goal

pub returns-clause-paired : goal.returns-clause-paired
returns-clause-paired c =
    let files = c.args.world.now in
    let image = c.args.image.now in
    let k = complete_of c.args.parts.now in
    let bs = pair_breaks files image k in
    on_ok_weaker c.answer.result (λ e. none_told (pair_spots files image k) e) (c.answer.ensures.ok bs
    (first_alone bs _ c.in_ok-broken.ensures))

pub returns-clause-unbroken : goal.returns-clause-unbroken
returns-clause-unbroken c = let bs = pair_breaks c.args.world.now c.args.image.now (complete_of c.args.parts.now)
    in c.answer.ensures.ok bs (first_alone bs _ c.in_ok-broken.ensures)

pub returns-clause-refused : goal.returns-clause-refused
returns-clause-refused c = let bs = pair_breaks c.args.world.now c.args.image.now (complete_of c.args.parts.now)
    in c.answer.ensures.refused bs (first_alone bs _ c.in_ok-broken.ensures)
