use Rattle.cjc_shelf.proofs.CommandLaws.Published.{written_stand}
use Rattle.cjc_shelf.proofs.command.publishing.writes.Goals as goal

pub returns : goal.returns
returns c = λ list files distinct. written_stand list files distinct
