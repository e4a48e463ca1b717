use Rattle.cjc_joint_whole.specs.Tokens.{stands_at}
use Rattle.cjc_joint_whole.proofs.WholeLaws.Together.{stand_by_package}
use Rattle.cjc_joint_whole.proofs.selected.selected_components_run_alike.Goals as goal

pub returns : goal.returns
returns c = λ packages first here is finds interfaces script n moves.
    c.joint_components_run_alike.ensures packages first here is.linked is.supers
    (λ q p it. (let s = is.each q p it in s.runs))
    (c.joint_selections_agree.ensures packages is finds (stands_at first packages) (stand_by_package first packages)
    interfaces) script n moves
