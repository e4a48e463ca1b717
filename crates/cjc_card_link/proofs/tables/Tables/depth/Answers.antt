use Rattle.std.proofs.Common.{ℕ, ◌+◌, ap}
use Rattle.cjc_card_link.proofs.tables.Tables.depth.Goals as goal

pub returns-clause-depth : goal.returns-clause-depth
returns-clause-depth c = ap (λ (n : ℕ). 1 + n) c.requires.counts
