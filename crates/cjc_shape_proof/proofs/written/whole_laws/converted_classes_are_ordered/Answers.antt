use Rattle.cjc_shape_proof.proofs.WrittenLaws.WholeLaws.ClassOrder.{are_ordered, members_are}
use Rattle.cjc_shape_proof.proofs.written.whole_laws.converted_classes_are_ordered.Goals as goal

pub returns-clause-ordered : goal.returns-clause-ordered
returns-clause-ordered c = λ list files judged is p whole order e all. are_ordered list files judged is p whole order e
    all

pub returns-clause-members : goal.returns-clause-members
returns-clause-members c = λ list files judged is p whole. members_are list files judged is p whole
