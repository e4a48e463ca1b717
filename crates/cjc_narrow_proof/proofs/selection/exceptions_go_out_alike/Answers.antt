use Rattle.cjc_narrow_proof.proofs.SelectionLaws.Throws.{unwound, thrown, failed}
use Rattle.cjc_narrow_proof.proofs.selection.exceptions_go_out_alike.Goals as goal

pub returns-clause-unwinding : goal.returns-clause-unwinding
returns-clause-unwinding c = λ by l within object thing from at s t outer others there passing alike. unwound by l
    within object thing passing from at s t there outer others alike

pub returns-clause-athrow : goal.returns-clause-athrow
returns-clause-athrow c = λ by l within f outer s g others t stores object thing next there passing alike. thrown by l
    within f outer s g others t stores object thing next there passing alike

pub returns-clause-own : goal.returns-clause-own
returns-clause-own c = λ by l within f outer s g others t stores fault next is passing alike. failed by l within f outer
    s g others t stores fault next is passing alike
