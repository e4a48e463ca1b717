use Rattle.cjc_narrow_proof.proofs.SelectionLaws.Entries.{entry_begun}
use Rattle.cjc_narrow_proof.proofs.selection.entries_begin_alike.Goals as goal

pub returns : goal.returns
returns c = entry_begun
