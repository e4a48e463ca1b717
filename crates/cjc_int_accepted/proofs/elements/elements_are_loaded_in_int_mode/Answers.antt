use Rattle.cjc_int_accepted.proofs.RowsLaws.Elements.{bytes_load, ints_load, references_load, shorts_load}
use Rattle.cjc_int_accepted.proofs.elements.elements_are_loaded_in_int_mode.Goals as goal

pub returns-clause-bytes : goal.returns-clause-bytes
returns-clause-bytes c = bytes_load

pub returns-clause-shorts : goal.returns-clause-shorts
returns-clause-shorts c = shorts_load

pub returns-clause-ints : goal.returns-clause-ints
returns-clause-ints c = ints_load

pub returns-clause-references : goal.returns-clause-references
returns-clause-references c = references_load
