use Rattle.cjc_joint_whole.proofs.WholeLaws.AloneLaws.{alone_laws, exposed_there, lead_there}
use Rattle.cjc_joint_whole.proofs.WholeLaws.OutsideTokens.{outside_classes_agree}
use Rattle.cjc_joint_whole.proofs.WholeLaws.SentFound.{found_sent, lines_alike, lines_bind}
use Rattle.cjc_joint_whole.proofs.sent.joint_lines_are_sent.Goals as goal

pub returns-clause-lines : goal.returns-clause-lines
returns-clause-lines c = λ packages is at stand.
    let d = c.dispatch_laws.ensures in
    let t = c.token_laws.ensures in
    let layouts = c.layouts_are_laid_out.ensures in
    let each = alone_laws d.virtual_calls d.interface_calls t packages is in
    lines_alike layouts.forms layouts.offsets packages is each at stand
    (exposed_there d.virtual_calls d.interface_calls t packages is) (outside_classes_agree packages is each)
    (lead_there d.virtual_calls d.interface_calls t packages is)

pub returns-clause-found : goal.returns-clause-found
returns-clause-found c = λ packages is at stand.
    let d = c.dispatch_laws.ensures in
    let t = c.token_laws.ensures in
    let layouts = c.layouts_are_laid_out.ensures in
    let each = alone_laws d.virtual_calls d.interface_calls t packages is in
    found_sent layouts.forms layouts.offsets packages is each at stand
    (exposed_there d.virtual_calls d.interface_calls t packages is) (outside_classes_agree packages is each)
    (lead_there d.virtual_calls d.interface_calls t packages is)

pub returns-clause-specials : goal.returns-clause-specials
returns-clause-specials c = λ packages is at stand.
    let d = c.dispatch_laws.ensures in
    let t = c.token_laws.ensures in
    let layouts = c.layouts_are_laid_out.ensures in
    let each = alone_laws d.virtual_calls d.interface_calls t packages is in
    lines_bind layouts.forms layouts.offsets packages is each at stand
    (exposed_there d.virtual_calls d.interface_calls t packages is) (outside_classes_agree packages is each)
    (lead_there d.virtual_calls d.interface_calls t packages is)
