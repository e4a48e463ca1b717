use Rattle.cjc_narrow.proofs.PairsLaws.Open.{fuses_all}
use Rattle.cjc_narrow.proofs.select.fusible_pairs_are_fused.Goals as goal

pub returns : goal.returns
returns c = fuses_all
