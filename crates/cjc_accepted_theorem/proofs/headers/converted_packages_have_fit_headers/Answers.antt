use Rattle.cjc_accepted_theorem.proofs.HeadersLaws.{headers_fit}
use Rattle.cjc_accepted_theorem.proofs.headers.converted_packages_have_fit_headers.Goals as goal
use Rattle.cjc_verified_proof.proofs.TokenProofOrder.{own_names}

pub returns : goal.returns
returns c = λ list files judged p is.
    let names = own_names list.name p.files is.runs.sound in
    headers_fit list judged.codes p is.of_files (c.converted_methods_begin.ensures list files judged p is)
    (c.methods_are_cut.ensures.whole p names is.methods is.writable)
    (c.jumps_land_in_code.ensures p names is.methods is.writable is.inside)
    (c.converted_packages_have_card_types.ensures list files judged p is) files judged is.laid
