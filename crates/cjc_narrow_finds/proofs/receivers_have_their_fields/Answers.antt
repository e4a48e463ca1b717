use Rattle.cjc_narrow_finds.proofs.Whole.{fields_are}
use Rattle.cjc_narrow_finds.proofs.receivers_have_their_fields.Goals as goal

pub returns : goal.returns
returns c = λ list files codes settings tables whole image near class put id at cell holds m. fields_are list files codes settings tables whole image near class put id at cell holds m
