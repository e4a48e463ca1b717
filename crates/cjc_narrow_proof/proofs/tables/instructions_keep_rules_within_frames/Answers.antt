use Rattle.cjc_narrow_proof.proofs.TablesLaws.Points.{within_at}
use Rattle.cjc_narrow_proof.proofs.tables.instructions_keep_rules_within_frames.Goals as goal

pub returns : goal.returns
returns c = within_at
