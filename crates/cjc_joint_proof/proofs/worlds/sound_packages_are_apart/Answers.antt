use Rattle.cjc_joint_proof.proofs.SoundLaws.{apart, listed}
use Rattle.cjc_joint_proof.proofs.worlds.sound_packages_are_apart.Goals as goal

pub returns-clause-apart : goal.returns-clause-apart
returns-clause-apart c = apart

pub returns-clause-listed : goal.returns-clause-listed
returns-clause-listed c = listed
