use Rattle.cjc_token_proof.proofs.WrittenSends.Objects.{kind_receives, thing_receives}
use Rattle.cjc_token_proof.proofs.written_sends.known_objects_receive_calls.Goals as goal

pub returns-clause-objects : goal.returns-clause-objects
returns-clause-objects c = λ p faults kind known. thing_receives p faults kind known

pub returns-clause-receivers : goal.returns-clause-receivers
returns-clause-receivers c = λ p faults o known. kind_receives p faults o known
