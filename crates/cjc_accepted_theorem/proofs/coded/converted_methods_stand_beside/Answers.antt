use Rattle.cjc_accepted_theorem.proofs.BesideLaws.{stands_beside}
use Rattle.cjc_accepted_theorem.proofs.coded.converted_methods_stand_beside.Goals as goal
use Rattle.cjc_verified_proof.proofs.TokenProofOrder.{own_names}

pub returns : goal.returns
returns c = λ list files judged p is k v there.
    let apart = own_names list.name p.files is.runs.sound in
    stands_beside list files judged p is.of_files is.laid apart is.methods (c.methods_are_cut.ensures.whole p apart
    is.methods is.writable) (c.converted_methods_begin.ensures list files judged p is)
    (c.converted_packages_have_card_types.ensures list files judged p is) (c.types_are_known.ensures list files judged p
    is.laid is.of_files) (c.converted_packages_have_their_types.ensures.subtypes list files judged p is) k v there
    (c.converted_methods_are_read.ensures list files judged p is k v there)
