use Rattle.cjc_lower.proofs.Fetching.{labels_ascend}
use Rattle.cjc_lower.proofs.labels_ascend.Goals as goal

pub returns : goal.returns
returns c = λ n p whole. labels_ascend n p whole
