use Rattle.cjc_cut_proof.proofs.DecodeLaws.{decode_more}
use Rattle.cjc_cut_proof.proofs.cuts.instructions_stand_alone.Goals as goal

pub returns : goal.returns
returns c = decode_more
