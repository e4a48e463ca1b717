use Rattle.cjc_joint_whole.proofs.WholeLaws.AloneLaws.{alone_laws, exposed_there}
use Rattle.cjc_joint_whole.proofs.WholeLaws.OutsideTokens.{outside_classes_agree}
use Rattle.cjc_joint_whole.proofs.WholeLaws.SuperTokens.{super_call_agrees}
use Rattle.cjc_joint_whole.proofs.above.joint_super_calls_agree.Goals as goal

pub returns : goal.returns
returns c = λ packages is finds at stand q p here m called.
    let d = c.dispatch_laws.ensures in
    let t = c.token_laws.ensures in
    let layouts = c.layouts_are_laid_out.ensures in
    let each = alone_laws d.virtual_calls d.interface_calls t packages is in
    super_call_agrees layouts.forms layouts.offsets packages is each
    (exposed_there d.virtual_calls d.interface_calls t packages is) (outside_classes_agree packages is each) at stand q p
    here (finds q p here) m called
