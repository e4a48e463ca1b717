use Rattle.cjc_token_proof.proofs.ByToken.Objects as objects
use Rattle.cjc_token_proof.proofs.by_token.objects_agree.Goals as goal

pub returns : goal.returns
returns c = objects.objects_agree
