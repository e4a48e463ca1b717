use Rattle.cjc_token_proof.proofs.TablesLaws.Statics.{has_cells, offset_is}
use Rattle.cjc_token_proof.proofs.tables.static_fields_are_told.Goals as goal

pub returns-clause-cells : goal.returns-clause-cells
returns-clause-cells c = λ list p codes sound typed image once. has_cells list p sound typed codes image once

pub returns-clause-offsets : goal.returns-clause-offsets
returns-clause-offsets c = λ list p codes sound typed image once f. offset_is list p sound typed codes image once f
