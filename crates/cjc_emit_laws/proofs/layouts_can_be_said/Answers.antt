use Rattle.cjc_emit_laws.proofs.Said.{laid_out}
use Rattle.cjc_emit_laws.proofs.layouts_can_be_said.Goals as goal

pub returns : goal.returns
returns c = λ n m l offset is small formed said. laid_out n m l offset is small formed said
