use Rattle.cjc_shape_proof.proofs.FindsLaws.Whole.{fields_are}
use Rattle.cjc_shape_proof.proofs.finds.receivers_have_their_fields.Goals as goal

pub returns : goal.returns
returns c = λ list files codes settings tables whole image near class put id at cell holds m. fields_are list files
    codes settings tables whole image near class put id at cell holds m
