use Rattle.cjc_joint_whole.proofs.WholeLaws.AloneLaws.{alone_laws}
use Rattle.cjc_joint_whole.proofs.WholeLaws.InterfaceCalls.{face_call_agrees}
use Rattle.cjc_joint_whole.proofs.selected.joint_interface_calls_agree.Goals as goal

pub returns : goal.returns
returns c = λ packages is at stand faces q p it n m called.
    let d = c.dispatch_laws.ensures in
    let t = c.token_laws.ensures in
    let layouts = c.layouts_are_laid_out.ensures in
    let each = alone_laws d.virtual_calls d.interface_calls t packages is in
    face_call_agrees layouts.forms layouts.offsets packages is each at stand faces q p it n m called
