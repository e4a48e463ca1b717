use Rattle.cjc_narrow_proof.proofs.SelectionLaws.Widens.{stacks_wider, locals_wider}
use Rattle.cjc_narrow_proof.proofs.selection.wider_kinds_hold.Goals as goal

pub returns-clause-stacks : goal.returns-clause-stacks
returns-clause-stacks c = λ heap ks js vs ws wider s. stacks_wider wider s

pub returns-clause-locals : goal.returns-clause-locals
returns-clause-locals c = λ heap ks js vs ws wider s. locals_wider wider s
