use Rattle.cjc_joint_proof.proofs.TowerLaws.{hidden_passes, hidden_stays, open_goes_on, open_stays}
use Rattle.cjc_joint_proof.proofs.towers.dispatch_goes_on.Goals as goal

pub returns-clause-stays : goal.returns-clause-stays
returns-clause-stays c = open_stays

pub returns-clause-outward : goal.returns-clause-outward
returns-clause-outward c = open_goes_on

pub returns-clause-hidden : goal.returns-clause-hidden
returns-clause-hidden c = hidden_stays

pub returns-clause-passed : goal.returns-clause-passed
returns-clause-passed c = hidden_passes
