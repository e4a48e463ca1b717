use Rattle.cjc_card_semantics.proofs.BytecodeLaws.Told.{told}
use Rattle.cjc_card_semantics.proofs.bytecode.each_opcode_has_one_meaning.Goals as goal

pub returns : goal.returns
returns c = told
