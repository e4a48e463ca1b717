use Rattle.std.proofs.Common.{refl}
use Rattle.cjc_card_semantics.proofs.CapReadHeaders.{short_read}
use Rattle.cjc_ncode.proofs.lowering.headers_are_read.Goals as goal

pub returns-clause-short : goal.returns-clause-short
returns-clause-short c = λ m stack nargs locals behind. short_read m.max_stack m.nargs m.max_locals behind stack nargs
    locals

pub returns-clause-extended : goal.returns-clause-extended
returns-clause-extended c = λ m behind. refl
