use Rattle.cjc_joint_whole.proofs.WholeLaws.AloneLaws.{alone_laws, exposed_there, lead_there}
use Rattle.cjc_joint_whole.proofs.WholeLaws.OutsideTokens.{outside_classes_agree}
use Rattle.cjc_joint_whole.proofs.WholeLaws.SentFacesSent.{objects_are_sent}
use Rattle.cjc_joint_whole.proofs.sent_faces.joint_methods_are_sent_alike.Goals as goal

pub returns : goal.returns
returns c = λ packages is fair dispatch at stand lines found binds.
    let d = c.dispatch_laws.ensures in
    let t = c.token_laws.ensures in
    let layouts = c.layouts_are_laid_out.ensures in
    let each = alone_laws d.virtual_calls d.interface_calls t packages is in
    objects_are_sent layouts.forms layouts.offsets d.imported_calls packages is each
    (exposed_there d.virtual_calls d.interface_calls t packages is) (outside_classes_agree packages is each)
    (lead_there d.virtual_calls d.interface_calls t packages is) fair dispatch at stand lines found binds
