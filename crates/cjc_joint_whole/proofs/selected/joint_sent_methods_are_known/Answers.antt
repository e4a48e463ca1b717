use Rattle.cjc_joint_whole.proofs.WholeLaws.AloneLaws.{alone_laws}
use Rattle.cjc_joint_whole.proofs.WholeLaws.SentKnown.{sent_is_known}
use Rattle.cjc_joint_whole.proofs.selected.joint_sent_methods_are_known.Goals as goal

pub returns : goal.returns
returns c = λ packages is at stand.
    let d = c.dispatch_laws.ensures in
    let layouts = c.layouts_are_laid_out.ensures in
    sent_is_known layouts.forms layouts.offsets packages is
    (alone_laws d.virtual_calls d.interface_calls c.token_laws.ensures packages is) at stand
