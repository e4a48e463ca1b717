use Rattle.cjc_joint_whole.specs.Tokens.{stands_at}
use Rattle.cjc_joint_whole.proofs.WholeLaws.Together.{stand_by_package}
use Rattle.cjc_joint_whole.proofs.linking.grouped_components_run_alike.Goals as goal

pub returns : goal.returns
returns c = λ packages first here is sent script n moves.
    let select = c.grouped_packages_select_together.ensures packages is in
    let faces = c.joint_interface_methods_are_selected.ensures packages select is.faces
    (c.joint_faces_dispatch.ensures packages select is.access is.known) in
    c.selected_components_run_alike.ensures packages first here select is.above
    (c.joint_objects_are_sent_alike.ensures packages select (stands_at first packages) (stand_by_package first packages)
    sent faces) script n moves
