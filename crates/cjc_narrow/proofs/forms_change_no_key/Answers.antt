use Rattle.cjc_narrow.proofs.Keys.{forms_only}
use Rattle.cjc_narrow.proofs.forms_change_no_key.Goals as goal

pub returns : goal.returns
returns c r near insns = forms_only r near insns
