use Rattle.cjc_int_accepted.proofs.RowsLaws.Elements.{bytes_store, ints_store, references_store, shorts_store}
use Rattle.cjc_int_accepted.proofs.elements.elements_are_stored_in_int_mode.Goals as goal

pub returns-clause-bytes : goal.returns-clause-bytes
returns-clause-bytes c = bytes_store

pub returns-clause-shorts : goal.returns-clause-shorts
returns-clause-shorts c = shorts_store

pub returns-clause-ints : goal.returns-clause-ints
returns-clause-ints c = ints_store

pub returns-clause-references : goal.returns-clause-references
returns-clause-references c = references_store
