use Rattle.cjc_narrow.proofs.RowsLaws.Fields.{fields_agree, counted}
use Rattle.cjc_narrow.proofs.rows.names_are_found_alike.Goals as goal

pub returns-clause-fields : goal.returns-clause-fields
returns-clause-fields c = fields_agree

pub returns-clause-words : goal.returns-clause-words
returns-clause-words c = counted
