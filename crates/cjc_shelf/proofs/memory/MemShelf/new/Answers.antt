use Rattle.std.proofs.Common.{refl}
use Rattle.cjc_shelf.proofs.memory.MemShelf.new.Goals as goal

pub returns : goal.returns
returns c = record { shelved = c.new.ensures 0; failing = refl; first = refl }
