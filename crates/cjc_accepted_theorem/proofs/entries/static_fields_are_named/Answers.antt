use Rattle.cjc_accepted_theorem.proofs.EntriesLaws.{cell_named}
use Rattle.cjc_accepted_theorem.proofs.entries.static_fields_are_named.Goals as goal

pub returns : goal.returns
returns c = cell_named
