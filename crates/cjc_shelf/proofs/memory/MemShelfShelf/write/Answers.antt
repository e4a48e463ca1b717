use Rattle.cjc_shelf.proofs.From.{writes_from}
use Rattle.cjc_shelf.proofs.memory.MemShelfShelf.write.Goals as goal

pub returns-clause-writes : goal.returns-clause-writes
returns-clause-writes c = writes_from _ _ _ _ _ _ (c.fails.ensures.none c.if-fails.false)
    (c.write.ensures c.fails.new.self.faults)
