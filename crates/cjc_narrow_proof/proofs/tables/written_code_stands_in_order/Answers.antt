use Rattle.cjc_narrow_proof.proofs.TablesLaws.Placed.{stands_at, next_at}
use Rattle.cjc_narrow_proof.proofs.tables.written_code_stands_in_order.Goals as goal

pub returns-clause-stands : goal.returns-clause-stands
returns-clause-stands c = stands_at

pub returns-clause-behind : goal.returns-clause-behind
returns-clause-behind c = next_at
