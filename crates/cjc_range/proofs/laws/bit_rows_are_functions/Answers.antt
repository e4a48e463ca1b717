use Rattle.cjc_range.proofs.Bits.{and_row_fits, and_row_only, or_row_fits, or_row_only}
use Rattle.cjc_range.proofs.laws.bit_rows_are_functions.Goals as goal

pub returns-clause-and : goal.returns-clause-and
returns-clause-and c = record { fits = and_row_fits; only = and_row_only }

pub returns-clause-or_xor : goal.returns-clause-or_xor
returns-clause-or_xor c = record { fits = or_row_fits; only = or_row_only }
