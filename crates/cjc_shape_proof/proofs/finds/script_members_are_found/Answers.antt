use Rattle.cjc_shape_proof.proofs.FindsLaws.Whole.{scripts_find}
use Rattle.cjc_shape_proof.proofs.finds.script_members_are_found.Goals as goal

pub returns : goal.returns
returns c = λ list files codes settings tables whole image near id. scripts_find list files codes settings tables whole
    image near id
