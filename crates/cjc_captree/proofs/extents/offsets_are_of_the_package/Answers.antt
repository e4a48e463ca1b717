use Rattle.cjc_captree.proofs.ExtentsLaws.Starts.{all_offsets, own_offset}
use Rattle.cjc_captree.proofs.extents.offsets_are_of_the_package.Goals as goal

pub returns-clause-all : goal.returns-clause-all
returns-clause-all c = λ p order ordered members. all_offsets p order ordered members

pub returns-clause-own : goal.returns-clause-own
returns-clause-own c = λ p n k d is low lt. own_offset p n k d is lt
