use Rattle.cjc_card_link.proofs.InfoPlaces.{where_some}
use Rattle.cjc_card_link.proofs.infos.Infos.at.Goals as goal

pub returns-in-Some-clause-small : goal.returns-in-Some-clause-small
returns-in-Some-clause-small c = where_some c.info.result c.in-Some.ensures.small
