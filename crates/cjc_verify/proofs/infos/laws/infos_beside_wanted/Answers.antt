use Rattle.cjc_verify.proofs.InfosLaws.Spots.{abstracts_beside, infos_beside_wanted, tables_beside_wanted}
use Rattle.cjc_verify.proofs.infos.laws.infos_beside_wanted.Goals as goal

pub returns : goal.returns
returns c = record { tables = tables_beside_wanted; abstracts = abstracts_beside; infos = infos_beside_wanted }
