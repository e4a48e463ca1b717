use Rattle.cjc_joint_whole.proofs.WholeLaws.AloneLaws.{alone_laws, exposed_there, lead_there}
use Rattle.cjc_joint_whole.proofs.WholeLaws.FaceTokens.{maps_give_tokens}
use Rattle.cjc_joint_whole.proofs.WholeLaws.InterfaceTokens.{interfaces_select_alike}
use Rattle.cjc_joint_whole.proofs.WholeLaws.OutsideTokens.{outside_classes_agree}
use Rattle.cjc_joint_whole.proofs.faces.joint_interface_methods_are_selected.Goals as goal

pub returns : goal.returns
returns c = λ packages is select dispatch.
    let d = c.dispatch_laws.ensures in
    let t = c.token_laws.ensures in
    let layouts = c.layouts_are_laid_out.ensures in
    let each = alone_laws d.virtual_calls d.interface_calls t packages is in
    interfaces_select_alike layouts.forms layouts.offsets packages is each
    (exposed_there d.virtual_calls d.interface_calls t packages is) (outside_classes_agree packages is each)
    (lead_there d.virtual_calls d.interface_calls t packages is) select (maps_give_tokens packages is each dispatch)
