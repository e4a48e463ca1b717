use Rattle.cjc_components.specs.Package.{world}
use Rattle.cjc_token_proof.specs.WrittenCalls.Standing.{place}
use Rattle.cjc_token_proof.proofs.WrittenCalls.Ids.{own_ids}
use Rattle.cjc_token_proof.proofs.WrittenCalls.Known.{classes_stand, facts}
use Rattle.cjc_token_proof.proofs.WrittenCalls.Offsets.{methods_begin}
use Rattle.cjc_token_proof.proofs.WrittenCalls.Written.{methods_fit}
use Rattle.cjc_token_proof.proofs.WrittenSends.Sending.{sent_same}
use Rattle.cjc_token_proof.proofs.written_sends.sent_methods_begin_alike.Goals as goal

pub returns : goal.returns
returns c = λ list p sound ready methods small keeps subtypes tokens keep ask send.
    let acyclic = keeps.rules.acyclic in
    let laws = c.lookup_laws.ensures in
    let dispatch = c.dispatch_laws.ensures in
    let forms = c.layouts_are_laid_out.ensures.forms in
    let offsets = c.layouts_are_laid_out.ensures.offsets in
    let told = c.classes_are_told.ensures in
    let known = facts list p sound (methods_fit p small) keep keeps (laws.are_supertypes (world p) acyclic)
    (laws.one_supertypes (world p)) (dispatch.virtual_calls (world p) keeps.rules) (dispatch.interface_calls
    (world p) keeps.rules keeps.interfaces) (c.token_laws.ensures (world p) keeps.rules) in
    sent_same list p sound known subtypes tokens keep (told.kinds list p sound) (told.subtypes list p sound)
    (told.agree list p sound) (dispatch.imported_calls (world p) keeps.rules keeps.imported)
    c.kinds_are_told.ensures (place p) (methods_begin forms offsets p ready methods (own_ids list p sound)
    (classes_stand list p sound)) ask send
