use Rattle.cjc_shape_proof.proofs.FindsLaws.Whole.{interface_is, special_is, virtual_is}
use Rattle.cjc_shape_proof.proofs.finds.receivers_have_their_methods.Goals as goal

pub returns-clause-virtually : goal.returns-clause-virtually
returns-clause-virtually c = λ list files codes settings tables whole image near b stack class id at one. virtual_is
    list files codes settings tables whole image near b stack class id at one

pub returns-clause-specially : goal.returns-clause-specially
returns-clause-specially c = λ list files codes settings tables whole image near b stack class id is_holder at one.
    special_is list files codes settings tables whole image near b stack class id is_holder at one

pub returns-clause-by_interface : goal.returns-clause-by_interface
returns-clause-by_interface c = λ list files codes settings tables whole image near b stack class id at one.
    interface_is list files codes settings tables whole image near b stack class id at one
