use Rattle.cjc_shape.proofs.WholeLaws.One.{one_package}
use Rattle.cjc_shape.proofs.whole.laws.one_package.Goals as goal

pub returns : goal.returns
returns c = λ list files judged is p q one other. one_package list files judged is p q one other
