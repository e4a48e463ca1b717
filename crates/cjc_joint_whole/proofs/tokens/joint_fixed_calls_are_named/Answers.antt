use Rattle.cjc_components.specs.Package.{world}
use Rattle.cjc_token_proof.proofs.WrittenCalls.Known.{facts}
use Rattle.cjc_token_proof.proofs.WrittenCalls.Written.{methods_fit}
use Rattle.cjc_joint_whole.proofs.WholeLaws.FixedNamed.{fixed_are_named}
use Rattle.cjc_joint_whole.proofs.tokens.joint_fixed_calls_are_named.Goals as goal

pub returns : goal.returns
returns c = λ packages linked each. fixed_are_named c.layouts_are_laid_out.ensures.forms
    c.layouts_are_laid_out.ensures.offsets packages linked (λ q p here. (let r = each q p here in
    let k = r.runnable in
    let j = r.joined in
    let keeps = k.keeps in
    let acyclic = keeps.rules.acyclic in
    let laws = c.lookup_laws.ensures in
    let dispatch = c.dispatch_laws.ensures in
    record {
      runs = r;
      facts = facts r.list p k.sound (methods_fit p k.small) j.exports keeps (laws.are_supertypes (world p) acyclic)
          (laws.one_supertypes (world p)) (dispatch.virtual_calls (world p) keeps.rules) (dispatch.interface_calls (world
          p) keeps.rules keeps.interfaces) (c.token_laws.ensures (world p) keeps.rules);
    }))
