use Rattle.cjc_narrow.proofs.PairsLaws.Fusible.{opens_closed}
use Rattle.cjc_narrow.proofs.select.opened_pairs_close.Goals as goal

pub returns : goal.returns
returns c = opens_closed
