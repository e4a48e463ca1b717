use Rattle.cjc_joint_whole.proofs.sent_faces.joint_interfaces_agree.Goals as goal

pub returns : goal.returns
returns c = λ packages is fair at stand.
    let select = c.grouped_packages_select_together.ensures packages is in
    let dispatch = c.joint_faces_dispatch.ensures packages select is.access is.known in
    let sends = c.joint_lines_are_sent.ensures in
    c.joint_objects_are_sent_alike.ensures packages select at stand (c.joint_methods_are_sent_alike.ensures packages
    select fair dispatch at stand (sends.lines packages select at stand) (sends.found packages select at stand)
    (sends.specials packages select at stand)) (c.joint_interface_methods_are_selected.ensures packages select is.faces
    dispatch)
