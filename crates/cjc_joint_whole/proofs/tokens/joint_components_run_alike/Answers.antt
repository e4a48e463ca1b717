use Rattle.cjc_jvm_semantics.specs.Group.{joint_image}
use Rattle.cjc_jvm_semantics.specs.Linked.{Method}
use Rattle.cjc_joint_proof.specs.Begun.{AreBegun, all_images}
use Rattle.cjc_joint_whole.specs.Tokens.{stands_at}
use Rattle.cjc_joint_whole.proofs.WholeLaws.Listed.{lists_methods}
use Rattle.cjc_joint_whole.proofs.WholeLaws.Together.{is_begun, names_known, stand_by_package}
use Rattle.cjc_joint_whole.proofs.tokens.joint_components_run_alike.Goals as goal

pub returns : goal.returns
returns c = λ packages first here linked keep each selections script n moves.
    let at = stands_at first packages in
    let stand = stand_by_package first packages in
    let begun : AreBegun packages = λ q p at. is_begun p (each q p at) in
    let called = c.entries_are_called.ensures in
    let reach = c.joint_calls_reach.ensures packages linked keep.acyclic at stand (c.joint_fixed_calls_are_named.ensures
    packages linked each) selections in
    let calls = c.joint_calls_agree_where_they_reach.ensures packages at first here linked keep begun stand
    (λ q p here. (let r = each q p here in r.fields))
    (λ q p here. names_known p (each q p here))
    (λ q p here. (let r = each q p here in let k = r.runnable in let j = r.joined in called.alike r.list p k.sound k.ready
    k.methods k.small k.keeps j.exports k.no_static))
    (λ q p here. (let r = each q p here in let k = r.runnable in let j = r.joined in called.there r.list p k.sound k.ready
    k.methods k.small k.keeps j.exports k.no_static))
    (joint_image (all_images packages)) (λ (m : Method). (let p = at m in p.method)) reach in
    c.joint_components_run_as_narrow_code.ensures packages at first here linked keep begun
    (c.linked_imports_lead.ensures packages linked (λ q p here. (let r = each q p here in lists_methods p r.unbound)))
    (λ q p here. (let r = each q p here in r.fields))
    (λ q p here. (let r = each q p here in let k = r.runnable in k.ready))
    calls script n moves
