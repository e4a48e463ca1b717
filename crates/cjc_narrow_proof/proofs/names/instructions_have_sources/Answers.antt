use Rattle.cjc_narrow_proof.proofs.NamesLaws.Sources.{source_at}
use Rattle.cjc_narrow_proof.proofs.names.instructions_have_sources.Goals as goal

pub returns : goal.returns
returns c = source_at
