use Rattle.cjc_card_step.proofs.effects.arrays.store.Goals as goal

pub returns-in-Reference-clause-row : goal.returns-in-Reference-clause-row
returns-in-Reference-clause-row g c = rw c.in-Reference.is c.store_reference.ensures.row

pub returns-in-Byte-clause-row : goal.returns-in-Byte-clause-row
returns-in-Byte-clause-row g c =
    rw c.in-Byte.is (λ room. c.store_number.ensures.row (g.L.LookUps.loaded c.args.links.now))

pub returns-in-Short-clause-row : goal.returns-in-Short-clause-row
returns-in-Short-clause-row g c = rw c.in-Short.is (λ room. c.store_number-in-Short.ensures.row
    (g.L.LookUps.loaded c.args.links.now))

pub returns-in-Int-clause-row : goal.returns-in-Int-clause-row
returns-in-Int-clause-row g c = rw c.in-Int.is (λ room. c.store_number-in-Int.ensures.row
    (g.L.LookUps.loaded c.args.links.now))
