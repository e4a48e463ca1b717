use Rattle.cjc_check_proof.proofs.ClassesLaws.Wholes.{all_whole}
use Rattle.cjc_check_proof.proofs.classes.imported_interfaces_are_whole.Goals as goal

pub returns : goal.returns
returns c list p sound = all_whole list p sound
