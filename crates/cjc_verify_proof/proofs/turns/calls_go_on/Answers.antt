use Rattle.cjc_verify_proof.proofs.TurnLaws.{call_goes}
use Rattle.cjc_verify_proof.proofs.turns.calls_go_on.Goals as goal

pub returns : goal.returns
returns c l program all has s t among f runs outer o i fetched made callee is =
    call_goes l program all has s t among f runs outer o i fetched made callee is
