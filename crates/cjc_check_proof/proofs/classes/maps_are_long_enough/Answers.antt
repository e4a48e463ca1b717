use Rattle.cjc_check_proof.proofs.ClassesLaws.Counting.{all_long}
use Rattle.cjc_check_proof.proofs.classes.maps_are_long_enough.Goals as goal

pub returns : goal.returns
returns c list p sound imports = all_long list p sound imports
