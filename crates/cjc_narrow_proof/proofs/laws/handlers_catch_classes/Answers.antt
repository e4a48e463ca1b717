use Rattle.cjc_narrow_proof.proofs.LawsLaws.ClassNames.{each_name}
use Rattle.cjc_narrow_proof.proofs.LawsLaws.Handlers.{caught_there, class_there}
use Rattle.cjc_narrow_proof.proofs.laws.handlers_catch_classes.Goals as goal
use Rattle.cjc_world.specs.Classes.{all_classes}

pub returns : goal.returns
returns c = λ list files codes settings is spelt code class method tree of listed h name there e.
    (let found = class_there (all_classes files) name (caught_there files codes is.names code class method tree
    of listed h name there e) in each_name files list is.listed is.world spelt name found.0 found.1)
