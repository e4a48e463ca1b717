use Rattle.cjc_token_proof.proofs.WrittenSends.Operations.{call_named, operations_known}
use Rattle.cjc_token_proof.proofs.written_sends.operations_are_known.Goals as goal

pub returns-clause-known : goal.returns-clause-known
returns-clause-known c = λ p near names there q k insn among e. operations_known p near names there q k insn among e

pub returns-clause-calls : goal.returns-clause-calls
returns-clause-calls c = λ p named m is. (call_named p named m is).0

pub returns-clause-words : goal.returns-clause-words
returns-clause-words c = λ p named m is. (call_named p named m is).1
