use Rattle.cjc_cut_proof.proofs.CardLaws.{method_has_code}
use Rattle.cjc_cut_proof.proofs.cuts.methods_have_codes.Goals as goal

pub returns : goal.returns
returns c = method_has_code
