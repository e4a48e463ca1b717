use Rattle.cjc_verify_proof.proofs.FrameLaws.{entered, inside_goes}
use Rattle.cjc_verify_proof.proofs.frames.methods_begin.Goals as goal

pub returns-clause-entries : goal.returns-clause-entries
returns-clause-entries c l exceptions heap t method m begins args typed = entered l exceptions heap t method m begins
    args typed

pub returns-clause-calls : goal.returns-clause-calls
returns-clause-calls c l program all s t among m begins args typed f outer o = inside_goes l program all s t among m
    begins args typed f outer o
