use Rattle.cjc_shape_proof.proofs.FindsLaws.Whole.{converted_is}
use Rattle.cjc_shape_proof.proofs.finds.whole_packages_are_converted.Goals as goal

pub returns : goal.returns
returns c = λ list files codes settings tables whole image near named first. converted_is list files codes settings
    tables whole image near named first
