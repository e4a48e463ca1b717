use Rattle.cjc_token_proof.proofs.WrittenSends.OwnInterfaces.{asks, no_static}
use Rattle.cjc_token_proof.proofs.written_sends.package_interfaces_ask.Goals as goal

pub returns-clause-ask : goal.returns-clause-ask
returns-clause-ask c = λ list files codes settings kept. asks list files codes settings kept

pub returns-clause-no_static : goal.returns-clause-no_static
returns-clause-no_static c = λ list files codes settings kept. no_static list files codes settings kept
