use Rattle.cjc_by_token.proofs.Names as names
use Rattle.cjc_by_token.proofs.names_agree.Goals as goal

pub returns : goal.returns
returns c = names.names_agree
