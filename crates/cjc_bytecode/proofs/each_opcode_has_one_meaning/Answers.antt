use Rattle.cjc_bytecode.proofs.Told.{told}
use Rattle.cjc_bytecode.proofs.each_opcode_has_one_meaning.Goals as goal

pub returns : goal.returns
returns c = told
