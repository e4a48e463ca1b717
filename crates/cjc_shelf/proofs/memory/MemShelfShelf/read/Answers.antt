use Rattle.cjc_shelf.proofs.From.{reads_from}
use Rattle.cjc_shelf.proofs.memory.MemShelfShelf.read.Goals as goal

pub returns-clause-reads : goal.returns-clause-reads
returns-clause-reads c = reads_from _ _ _ _ _ (c.fails.ensures.none c.if-fails.false)
    (c.read.ensures c.fails.new.self.faults)
