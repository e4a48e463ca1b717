use Rattle.cjc_call_opcodes.proofs.Calls.{have_opcodes}
use Rattle.cjc_call_opcodes.proofs.calls_have_opcodes.Goals as goal

pub returns : goal.returns
returns c = have_opcodes
