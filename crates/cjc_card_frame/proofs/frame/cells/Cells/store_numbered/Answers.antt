use Rattle.cjc_card_frame.proofs.frame.cells.Cells.store_numbered.Goals as goal

pub returns-in-Some : goal.returns-in-Some
returns-in-Some c = λ room. rw c.in-Some.ensures.some (c.store.ensures room)
