use Rattle.cjc_accepted_theorem.proofs.AbstractLaws.{none_abstract}
use Rattle.cjc_accepted_theorem.proofs.KnownLaws.{kept_exports, own_solid}
use Rattle.cjc_accepted_theorem.proofs.abstracts.converted_packages_have_no_abstract_methods.Goals as goal
use Rattle.cjc_verified_proof.specs.Components.Methods.{method_offset}
use Rattle.cjc_verified_proof.specs.Components.Package.{world}
use Rattle.cjc_verified_proof.specs.TokenProof.Tables.Loading.{naming}
use Rattle.cjc_verified_proof.specs.World.Order.{class_order}
use Rattle.cjc_theorem.proofs.VTableFiled.{has-get}
use Rattle.cjc_verified_proof.proofs.TokenProofAbove.{says_kinds}
use Rattle.cjc_verified_proof.proofs.TokenProofClean.{has_named}
use Rattle.cjc_verified_proof.proofs.TokenProofOrder.{order_has}
use Rattle.cjc_verified_proof.proofs.TokenProofWrittenCallsKnown.{facts}
use Rattle.cjc_verified_proof.proofs.TokenProofWrittenCallsWritten.{methods_fit}

pub returns : goal.returns
returns c = λ list files judged p is.
    let sound = is.runs.sound in
    let keeps = is.runs.keeps in
    let laws = c.lookup_laws.ensures in
    let dispatch = c.dispatch_laws.ensures in
    let low = methods_fit p is.runs.small in
    let known = facts list.name p sound low (kept_exports list files judged p is) keeps (laws.are_supertypes (world p)
    keeps.rules.acyclic) (laws.one_supertypes (world p)) (dispatch.virtual_calls (world p) keeps.rules)
    (dispatch.interface_calls (world p) keeps.rules keeps.interfaces) (c.token_laws.ensures (world p) keeps.rules) in
    let mean = c.tokens_mean_methods.ensures.public (world p) keeps.rules known.placed in
    let mean_here = c.tokens_mean_methods.ensures.package_visible (world p) keeps.rules in
    let far = dispatch.imported_calls (world p) keeps.rules keeps.imported in
    none_abstract list files judged p is.of_files is.laid known keeps (own_solid list files judged p is)
    is.runs.tokens mean mean_here far (λ h x z tower le. c.dispatch_agrees.ensures (world p) keeps.rules.acyclic
    (naming p) (method_offset p) low (says_kinds list.name p sound) h x z tower le) (λ d named own plain j f e. (
    let k = has-get d (class_order (world p)) (order_has list.name p.files sound d (has_named (world p) d.name d named)
    own) in
    let b = c.converted_methods_begin.ensures list files judged p is k.0 d k.1 plain j f e in
    (b.start, b.starts, b.bare)
    )) sound
