use Rattle.cjc_joint_whole.proofs.WholeLaws.AloneLaws.{alone_laws, exposed_there, lead_there}
use Rattle.cjc_joint_whole.proofs.WholeLaws.OutsideTokens.{outside_classes_agree}
use Rattle.cjc_joint_whole.proofs.WholeLaws.SentDispatched.{hidden_sends, open_sends}
use Rattle.cjc_joint_whole.proofs.sent.joint_tokens_are_sent.Goals as goal

pub returns-clause-shown : goal.returns-clause-shown
returns-clause-shown c = λ packages is at stand.
    let d = c.dispatch_laws.ensures in
    let t = c.token_laws.ensures in
    let layouts = c.layouts_are_laid_out.ensures in
    let each = alone_laws d.virtual_calls d.interface_calls t packages is in
    open_sends layouts.forms layouts.offsets packages is each at stand
    (exposed_there d.virtual_calls d.interface_calls t packages is) (outside_classes_agree packages is each)
    (lead_there d.virtual_calls d.interface_calls t packages is)

pub returns-clause-hidden : goal.returns-clause-hidden
returns-clause-hidden c = λ packages is at stand.
    let d = c.dispatch_laws.ensures in
    let layouts = c.layouts_are_laid_out.ensures in
    hidden_sends layouts.forms layouts.offsets packages is
    (alone_laws d.virtual_calls d.interface_calls c.token_laws.ensures packages is) at stand
