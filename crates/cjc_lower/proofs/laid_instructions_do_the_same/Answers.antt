use Rattle.cjc_lower.proofs.Operations.{operation_laid}
use Rattle.cjc_lower.proofs.laid_instructions_do_the_same.Goals as goal

pub returns : goal.returns
returns c = operation_laid
