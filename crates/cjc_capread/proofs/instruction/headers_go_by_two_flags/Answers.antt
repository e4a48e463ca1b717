use Rattle.std.proofs.Common.{refl}
use Rattle.cjc_capread.proofs.Headers.{short_read}
use Rattle.cjc_capread.proofs.instruction.headers_go_by_two_flags.Goals as goal

pub returns-clause-short : goal.returns-clause-short
returns-clause-short c = short_read
