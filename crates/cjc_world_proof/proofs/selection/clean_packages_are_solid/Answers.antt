use Rattle.cjc_world_proof.proofs.SelectionLaws.Solid.{solid}
use Rattle.cjc_world_proof.proofs.selection.clean_packages_are_solid.Goals as goal

pub returns : goal.returns
returns c = solid
