use Rattle.cjc_shrink.proofs.Puts.{getstatic, putstatic}
use Rattle.cjc_shrink.proofs.static_fields_are_met_alike.Goals as goal

pub returns-clause-getstatic : goal.returns-clause-getstatic
returns-clause-getstatic c = getstatic

pub returns-clause-putstatic : goal.returns-clause-putstatic
returns-clause-putstatic c = putstatic
