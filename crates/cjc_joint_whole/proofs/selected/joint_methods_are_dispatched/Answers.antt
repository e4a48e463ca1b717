use Rattle.cjc_joint_whole.proofs.WholeLaws.AloneLaws.{alone_laws, exposed_there, lead_there}
use Rattle.cjc_joint_whole.proofs.WholeLaws.OpenFinds.{open_selections_agree}
use Rattle.cjc_joint_whole.proofs.WholeLaws.OutsideTokens.{outside_classes_agree}
use Rattle.cjc_joint_whole.proofs.WholeLaws.TokensDown.{tokens_go_down}
use Rattle.cjc_joint_whole.proofs.selected.joint_methods_are_dispatched.Goals as goal

pub returns-clause-dispatched : goal.returns-clause-dispatched
returns-clause-dispatched c = λ packages is.
    let d = c.dispatch_laws.ensures in
    let t = c.token_laws.ensures in
    let layouts = c.layouts_are_laid_out.ensures in
    let each = alone_laws d.virtual_calls d.interface_calls t packages is in
    open_selections_agree layouts.forms layouts.offsets packages is each
    (exposed_there d.virtual_calls d.interface_calls t packages is) (outside_classes_agree packages is each)
    (lead_there d.virtual_calls d.interface_calls t packages is)

pub returns-clause-tokens : goal.returns-clause-tokens
returns-clause-tokens c = λ packages is.
    let d = c.dispatch_laws.ensures in
    let t = c.token_laws.ensures in
    let each = alone_laws d.virtual_calls d.interface_calls t packages is in
    tokens_go_down packages is (λ q p it. (let a = each q p it in a.facts))
    (exposed_there d.virtual_calls d.interface_calls t packages is) (outside_classes_agree packages is each)
