use Rattle.cjc_token_proof.proofs.CallsLaws.Selections as selections
use Rattle.cjc_token_proof.proofs.calls.selections_agree.Goals as goal

pub returns : goal.returns
returns c = λ w rules interfaces n offset x z d known class_here agrees. selections.selections_agree w n offset x z d
    known class_here (c.dispatch_laws.ensures.virtual_calls w rules) (c.dispatch_laws.ensures.interface_calls w rules
    interfaces) agrees
