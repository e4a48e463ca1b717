use Rattle.cjc_components.specs.Package.{world}
use Rattle.cjc_token_proof.specs.WrittenCalls.Standing.{place}
use Rattle.cjc_token_proof.proofs.WrittenCalls.Called.{called_same, called_there}
use Rattle.cjc_token_proof.proofs.WrittenCalls.Ids.{own_ids}
use Rattle.cjc_token_proof.proofs.WrittenCalls.Known.{classes_stand, facts}
use Rattle.cjc_token_proof.proofs.WrittenCalls.Offsets.{methods_begin, place_among}
use Rattle.cjc_token_proof.proofs.WrittenCalls.Written.{methods_fit}
use Rattle.cjc_token_proof.proofs.written_calls.entries_are_called.Goals as goal

pub returns-clause-alike : goal.returns-clause-alike
returns-clause-alike c = λ list p sound ready methods small keeps keep interfaces.
    let acyclic = keeps.rules.acyclic in
    let laws = c.lookup_laws.ensures in
    let dispatch = c.dispatch_laws.ensures in
    let forms = c.layouts_are_laid_out.ensures.forms in
    let offsets = c.layouts_are_laid_out.ensures.offsets in
    let known = facts list p sound (methods_fit p small) keep keeps (laws.are_supertypes (world p) acyclic)
    (laws.one_supertypes (world p)) (dispatch.virtual_calls (world p) keeps.rules) (dispatch.interface_calls
    (world p) keeps.rules keeps.interfaces) (c.token_laws.ensures (world p) keeps.rules) in
    called_same p known (c.classes_are_told.ensures.agree list p sound) (place p) (methods_begin forms offsets p ready
    methods (own_ids list p sound) (classes_stand list p sound)) interfaces

pub returns-clause-there : goal.returns-clause-there
returns-clause-there c = λ list p sound ready methods small keeps keep interfaces.
    let acyclic = keeps.rules.acyclic in
    let laws = c.lookup_laws.ensures in
    let dispatch = c.dispatch_laws.ensures in
    let forms = c.layouts_are_laid_out.ensures.forms in
    let offsets = c.layouts_are_laid_out.ensures.offsets in
    let known = facts list p sound (methods_fit p small) keep keeps (laws.are_supertypes (world p) acyclic)
    (laws.one_supertypes (world p)) (dispatch.virtual_calls (world p) keeps.rules) (dispatch.interface_calls
    (world p) keeps.rules keeps.interfaces) (c.token_laws.ensures (world p) keeps.rules) in
    called_there p known (place p) interfaces (λ f m there is. place_among forms offsets p ready methods
    (own_ids list p sound) (classes_stand list p sound) f m there is)
