use Rattle.cjc_accepted_theorem.proofs.FewLaws.{few_types}
use Rattle.cjc_accepted_theorem.proofs.RefsLaws.{refs_read}
use Rattle.cjc_accepted_theorem.proofs.RootLaws.{thrown_agree}
use Rattle.cjc_accepted_theorem.proofs.read.converted_packages_have_their_types.Goals as goal
use Rattle.cjc_verified_proof.specs.Components.Package.{world}
use Rattle.cjc_verified_proof.proofs.TokenProofAbove.{says_kinds}
use Rattle.cjc_verified_proof.specs.TokenProof.Tables.Loading.{naming}

pub returns-clause-refs : goal.returns-clause-refs
returns-clause-refs c = λ list files judged p is. refs_read list.name p is.runs.sound
    (c.laid_out_packages_fit.ensures.limited list files judged p is.laid is.sizes)

pub returns-clause-subtypes : goal.returns-clause-subtypes
returns-clause-subtypes c = λ list files judged p is.
    let kinds = c.kinds_are_subtypes.ensures (world p) (naming p) (says_kinds list.name p is.runs.sound) in
    thrown_agree list.name p is.runs.sound (c.subtypes_are_read.ensures (world p) (naming p) kinds
    (returns-clause-refs c list files judged p is))

pub returns-clause-few : goal.returns-clause-few
returns-clause-few c = λ list files judged p is. few_types p (c.laid_out_packages_fit.ensures.limited list files judged
    p is.laid is.sizes)
