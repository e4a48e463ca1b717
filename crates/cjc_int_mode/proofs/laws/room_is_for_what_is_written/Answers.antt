use Rattle.std.proofs.Common.{ℕ, ◌+◌, ◌*◌, refl, ap}
use Rattle.cjc_int_mode.proofs.Written.{pairs_same}
use Rattle.cjc_int_mode.proofs.laws.room_is_for_what_is_written.Goals as goal

pub returns-clause-arguments : goal.returns-clause-arguments
returns-clause-arguments c = λ r code b types ranges. refl

pub returns-clause-locals : goal.returns-clause-locals
returns-clause-locals c = λ r code b types ranges. ap (λ (n : ℕ). 2 * b.max_locals + 2 * n) (pairs_same ranges 0 b.insns
    types)

pub returns-clause-stack : goal.returns-clause-stack
returns-clause-stack c = λ r code b types ranges is. ap (λ (n : ℕ). 2 * n + 4) is
