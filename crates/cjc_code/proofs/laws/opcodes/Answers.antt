use Rattle.cjc_code.proofs.TableRows.{slice_get-table}
use Rattle.cjc_code.proofs.laws.opcodes.Goals as goal

pub returns : goal.returns
returns c = slice_get-table
