use Rattle.cjc_ncode.proofs.LoweringLaws.Operations.{operation_laid}
use Rattle.cjc_ncode.proofs.lowering.laid_instructions_do_the_same.Goals as goal

pub returns : goal.returns
returns c = operation_laid
