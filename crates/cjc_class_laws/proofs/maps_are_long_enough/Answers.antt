use Rattle.cjc_class_laws.proofs.Counting.{all_long}
use Rattle.cjc_class_laws.proofs.maps_are_long_enough.Goals as goal

pub returns : goal.returns
returns c list p sound imports = all_long list p sound imports
