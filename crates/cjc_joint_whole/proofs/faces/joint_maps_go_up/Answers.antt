use Rattle.cjc_joint_whole.proofs.WholeLaws.AloneLaws.{facts_there, lead_there}
use Rattle.cjc_joint_whole.proofs.WholeLaws.MapsTell.{maps_tell}
use Rattle.cjc_joint_whole.proofs.WholeLaws.MapsTogether.{maps_go_up}
use Rattle.cjc_joint_whole.proofs.faces.joint_maps_go_up.Goals as goal

pub returns-clause-goes : goal.returns-clause-goes
returns-clause-goes c = λ packages is.
    let d = c.dispatch_laws.ensures in
    let t = c.token_laws.ensures in
    maps_go_up packages is (facts_there d.virtual_calls d.interface_calls t packages is)
    (lead_there d.virtual_calls d.interface_calls t packages is)

pub returns-clause-tells : goal.returns-clause-tells
returns-clause-tells c = λ packages is.
    let d = c.dispatch_laws.ensures in
    let t = c.token_laws.ensures in
    maps_tell packages is (facts_there d.virtual_calls d.interface_calls t packages is) (returns-clause-goes c packages is)
