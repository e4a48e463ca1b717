use Rattle.cjc_shrink.proofs.Entries.{entry_begun}
use Rattle.cjc_shrink.proofs.entries_begin_alike.Goals as goal

pub returns : goal.returns
returns c = entry_begun
