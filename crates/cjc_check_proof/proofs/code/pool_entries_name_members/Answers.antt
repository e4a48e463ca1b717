use Rattle.cjc_check_proof.proofs.CodeLaws.Members.{all_named}
use Rattle.cjc_check_proof.proofs.code.pool_entries_name_members.Goals as goal

pub returns : goal.returns
returns c p apart order all = all_named p apart order all
