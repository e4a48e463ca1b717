use Rattle.cjc_joint_whole.proofs.WholeLaws.AloneLaws.{alone_laws, exposed_there, lead_there}
use Rattle.cjc_joint_whole.proofs.WholeLaws.OpenReached.{object_call_agrees}
use Rattle.cjc_joint_whole.proofs.WholeLaws.OutsideTokens.{outside_classes_agree}
use Rattle.cjc_joint_whole.proofs.selected.joint_object_calls_agree.Goals as goal

pub returns : goal.returns
returns c = λ packages is at stand.
    let d = c.dispatch_laws.ensures in
    let t = c.token_laws.ensures in
    let layouts = c.layouts_are_laid_out.ensures in
    let each = alone_laws d.virtual_calls d.interface_calls t packages is in
    object_call_agrees layouts.forms layouts.offsets packages is each
    (exposed_there d.virtual_calls d.interface_calls t packages is) (outside_classes_agree packages is each)
    (lead_there d.virtual_calls d.interface_calls t packages is) at stand
