use Rattle.cjc_joint_proof.proofs.CellLaws.{joint_cells_agree}
use Rattle.cjc_joint_proof.proofs.cells.joint_static_fields_agree.Goals as goal

pub returns : goal.returns
returns c = joint_cells_agree
