use Rattle.cjc_joint_proof.proofs.ImageLaws.{cell_moves, cells_move, cells_split}
use Rattle.cjc_joint_proof.proofs.images.joint_cells_begin.Goals as goal

pub returns-clause-field : goal.returns-clause-field
returns-clause-field c = cell_moves

pub returns-clause-packages : goal.returns-clause-packages
returns-clause-packages c = cells_move

pub returns-clause-whole : goal.returns-clause-whole
returns-clause-whole c = cells_split
