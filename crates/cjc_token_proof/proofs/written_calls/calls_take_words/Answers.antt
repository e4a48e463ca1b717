use Rattle.cjc_components.specs.Package.{world}
use Rattle.cjc_vtable.proofs.Numbers.{named-number}
use Rattle.cjc_token_proof.specs.WrittenCalls.Standing.{place}
use Rattle.cjc_token_proof.proofs.WrittenCalls.Got.{got_no_code}
use Rattle.cjc_token_proof.proofs.WrittenCalls.Ids.{own_ids}
use Rattle.cjc_token_proof.proofs.WrittenCalls.Known.{classes_stand, facts}
use Rattle.cjc_token_proof.proofs.WrittenCalls.Offsets.{methods_begin}
use Rattle.cjc_token_proof.proofs.WrittenCalls.Words.{added_begins, counts_from, words_taken}
use Rattle.cjc_token_proof.proofs.WrittenCalls.Written.{methods_fit}
use Rattle.cjc_token_proof.proofs.written_calls.calls_take_words.Goals as goal

pub returns : goal.returns
returns c = λ list p sound ready methods takes small keeps subtypes tokens keep.
    let acyclic = keeps.rules.acyclic in
    let laws = c.lookup_laws.ensures in
    let dispatch = c.dispatch_laws.ensures in
    let meant = c.tokens_mean_methods.ensures in
    let forms = c.layouts_are_laid_out.ensures.forms in
    let offsets = c.layouts_are_laid_out.ensures.offsets in
    let ids = own_ids list p sound in
    let stand = classes_stand list p sound in
    let known = facts list p sound (methods_fit p small) keep keeps (laws.are_supertypes (world p) acyclic)
    (laws.one_supertypes (world p)) (dispatch.virtual_calls (world p) keeps.rules) (dispatch.interface_calls
    (world p) keeps.rules keeps.interfaces) (c.token_laws.ensures (world p) keeps.rules) in
    words_taken p known subtypes tokens keep (c.classes_are_told.ensures.kinds list p sound) (place p)
    (methods_begin forms offsets p ready methods ids stand) (counts_from p takes forms offsets ready methods ids
    stand)
    (λ f own inside none. (let r = added_begins p takes forms offsets ready methods ids stand f own inside none in
    (r.0, r.1, r.3)))
    (got_no_code list p sound) (meant.public (world p) keeps.rules (named-number p.files)) (meant.package_visible
    (world p) keeps.rules)
