use Rattle.cjc_code.proofs.ReadLaws.Members.{read_class}
use Rattle.cjc_code.proofs.read_laws.spelt_members_are_read.Goals as goal

pub returns : goal.returns
returns c = read_class
