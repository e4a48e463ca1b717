use Rattle.cjc_components.specs.Package.{world}
use Rattle.cjc_joint_whole.proofs.WholeLaws.AloneLaws.{facts_there}
use Rattle.cjc_joint_whole.proofs.WholeLaws.FaceTokens.{faces_dispatch}
use Rattle.cjc_joint_whole.proofs.faces.joint_faces_dispatch.Goals as goal

pub returns : goal.returns
returns c = λ packages is access known.
    let d = c.dispatch_laws.ensures in
    let t = c.token_laws.ensures in
    let maps = c.joint_maps_go_up.ensures in
    let facts = facts_there d.virtual_calls d.interface_calls t packages is in
    faces_dispatch packages is facts (maps.goes packages is) (maps.tells packages is)
    (λ q p it. (let f = facts q p it in c.asked_methods_have_tokens.ensures (world p) f.rules f.interfaces (access q p
    it))) (c.joint_methods_are_dispatched.ensures.tokens packages is) known
