use Rattle.cjc_command.proofs.Published.{written_stand}
use Rattle.cjc_command.proofs.publishing.writes.Goals as goal

pub returns : goal.returns
returns c = λ list files distinct. written_stand list files distinct
