use Rattle.std.proofs.Common.{ap}
use Rattle.cjc_card_frame.specs.Kinds.{cells_in}
use Rattle.cjc_card.proofs.group.lookups.cells_of.Goals as goal

pub returns-in-Some : goal.returns-in-Some
returns-in-Some c = ap cells_in c.in-Some.ensures.1

pub returns-in-None : goal.returns-in-None
returns-in-None c = ap cells_in c.in-None.ensures
