use Rattle.cjc_joint_whole.proofs.WholeLaws.Opened.{opened_has_code}
use Rattle.cjc_joint_whole.proofs.members.opened_methods_have_code.Goals as goal

pub returns : goal.returns
returns c = λ members is id plain initial f h mine told q p at k t file ground concrete found. opened_has_code members
    is id plain f h mine told q p at k t file ground concrete initial found
