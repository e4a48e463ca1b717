use Rattle.cjc_accepted_theorem.proofs.converted.converted_packages_are_accepted.Goals as goal
use Rattle.cjc_verified_proof.specs.Bytecode.PackageCodes.{all_codes}

pub returns : goal.returns
returns c = λ list files judged p is code.
    c.written_packages_are_accepted.ensures (let w = p.files in all_codes w.classes) p is.runs.image is.methods
    is.runs.typed (c.sizes_fit.ensures.types list files judged p is.laid is.sizes)
    (c.converted_packages_have_card_types.ensures list files judged p is)
    (c.converted_packages_have_named_entries.ensures list files judged p is)
    (c.converted_packages_have_fit_headers.ensures list files judged p is)
    (c.converted_packages_have_no_abstract_methods.ensures list files judged p is) code
