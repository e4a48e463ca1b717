use Rattle.cjc_by_token.proofs.Objects as objects
use Rattle.cjc_by_token.proofs.objects_agree.Goals as goal

pub returns : goal.returns
returns c = objects.objects_agree
