use Rattle.cjc_shape_proof.specs.LowerCheckProof.Consistent.Premises.{HasSoundMethods}
use Rattle.cjc_shape_proof.proofs.WrittenLaws.OfFiles.{is_of_files}
use Rattle.cjc_theorem.proofs.alike.converted_laws.converted_components_are_consistent.Goals as goal

pub returns : goal.returns
returns c = λ list files judged p is left.
    let code = c.converted_methods_are_consistent.ensures in
    let of_methods : HasSoundMethods p = record {
      methods = code.methods list files judged p is;
      written = code.written list files judged p is;
      inside = code.inside list files judged p is;
      handlers = code.handlers list files judged p is;
    } in
    c.components_of_files_are_consistent.ensures list files judged p
    (c.converted_packages_are_laid_out.ensures list files judged p is) (is_of_files list files judged p is) is.sizes
    of_methods (code.kinds list files judged p is) left
