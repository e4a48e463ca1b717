use Rattle.cjc_alike.proofs.CallOpcodes.Calls.{have_opcodes}
use Rattle.cjc_alike.proofs.call_opcodes.calls_have_opcodes.Goals as goal

pub returns : goal.returns
returns c = have_opcodes
