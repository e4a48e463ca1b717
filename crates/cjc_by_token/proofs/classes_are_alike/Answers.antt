use Rattle.cjc_by_token.proofs.Classes as classes
use Rattle.cjc_by_token.proofs.classes_are_alike.Goals as goal

pub returns : goal.returns
returns c = classes.classes_alike
