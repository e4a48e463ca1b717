use Rattle.cjc_read_laws.proofs.Members.{read_class}
use Rattle.cjc_read_laws.proofs.spelt_members_are_read.Goals as goal

pub returns : goal.returns
returns c = read_class
