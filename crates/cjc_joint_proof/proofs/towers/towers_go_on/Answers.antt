use Rattle.cjc_joint_proof.proofs.TowerLaws.{own_tower, stands_on, tower_goes_on}
use Rattle.cjc_joint_proof.proofs.towers.towers_go_on.Goals as goal

pub returns-clause-tables : goal.returns-clause-tables
returns-clause-tables c = tower_goes_on

pub returns-clause-heights : goal.returns-clause-heights
returns-clause-heights c = stands_on

pub returns-clause-own : goal.returns-clause-own
returns-clause-own c = own_tower
