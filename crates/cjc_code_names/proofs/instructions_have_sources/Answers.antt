use Rattle.cjc_code_names.proofs.Sources.{source_at}
use Rattle.cjc_code_names.proofs.instructions_have_sources.Goals as goal

pub returns : goal.returns
returns c = source_at
