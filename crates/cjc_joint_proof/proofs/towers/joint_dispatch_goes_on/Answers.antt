use Rattle.cjc_token_proof.proofs.WrittenCalls.Known.{facts}
use Rattle.cjc_token_proof.proofs.WrittenCalls.Written.{methods_fit}
use Rattle.cjc_link_semantics.specs.Components.Package.{world}
use Rattle.cjc_joint_proof.proofs.ClimbLaws.{goes_on}
use Rattle.cjc_joint_proof.proofs.towers.joint_dispatch_goes_on.Goals as goal

pub returns : goal.returns
returns c = λ packages linked leads each. goes_on packages linked leads (λ q p here. (let k = each q p here in
    let keeps = k.keeps in
    let acyclic = keeps.rules.acyclic in
    let laws = c.lookup_laws.ensures in
    let dispatch = c.dispatch_laws.ensures in
    facts k.list p k.sound (methods_fit p k.small) k.exports keeps (laws.are_supertypes (world p) acyclic)
    (laws.one_supertypes (world p)) (dispatch.virtual_calls (world p) keeps.rules) (dispatch.interface_calls (world p)
    keeps.rules keeps.interfaces) (c.token_laws.ensures (world p) keeps.rules)))
