use Rattle.cjc_ncode.proofs.LoweringLaws.Fetching.{labels_ascend}
use Rattle.cjc_ncode.proofs.lowering.labels_ascend.Goals as goal

pub returns : goal.returns
returns c = λ n p whole. labels_ascend n p whole
