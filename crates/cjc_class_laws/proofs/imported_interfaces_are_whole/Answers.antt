use Rattle.cjc_class_laws.proofs.Wholes.{all_whole}
use Rattle.cjc_class_laws.proofs.imported_interfaces_are_whole.Goals as goal

pub returns : goal.returns
returns c list p sound = all_whole list p sound
