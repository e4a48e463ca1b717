use Rattle.std.proofs.Common.{ap, ◌∙◌}
use Rattle.cjc_card_frame.specs.Kinds.{pool_in}
use Rattle.cjc_card_link.proofs.tables.Tables.pool.Goals as goal

pub returns-in-Some : goal.returns-in-Some
returns-in-Some c = c.pool.ensures ∙ ap pool_in c.in-Some.ensures

pub returns-in-None : goal.returns-in-None
returns-in-None c = ap pool_in c.in-None.ensures
