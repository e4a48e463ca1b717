use Rattle.cjc_accepted_theorem.proofs.AboveLaws.{above_served}
use Rattle.cjc_accepted_theorem.proofs.KnownLaws.{kept_exports}
use Rattle.cjc_accepted_theorem.proofs.PoolLaws.{one_named}
use Rattle.cjc_accepted_theorem.proofs.ReadLaws.{class_plain}
use Rattle.cjc_accepted_theorem.proofs.served.calls_above_are_served.Goals as goal
use Rattle.cjc_verified_proof.specs.Bytecode.PackageCodes.{all_codes}
use Rattle.cjc_verified_proof.specs.Components.Package.{world}
use Rattle.cjc_theorem.proofs.AlikeLaws.MetLaws.Cells.{cells_fit}
use Rattle.cjc_theorem.proofs.VTableFiled.{has-get}
use Rattle.cjc_verified_proof.specs.TokenProof.Tables.Known.{statics_of}
use Rattle.cjc_verified_proof.specs.TokenProof.WrittenCalls.Standing.{place}
use Rattle.cjc_verified_proof.specs.World.Order.{class_order}
use Rattle.cjc_verified_proof.proofs.TokenProofClean.{has_named}
use Rattle.cjc_verified_proof.proofs.TokenProofOrder.{order_has, own_names}
use Rattle.cjc_verified_proof.proofs.TokenProofWrittenCallsIds.{own_ids}
use Rattle.cjc_verified_proof.proofs.TokenProofWrittenCallsKnown.{classes_stand, facts}
use Rattle.cjc_verified_proof.proofs.TokenProofWrittenCallsOffsets.{methods_begin}
use Rattle.cjc_verified_proof.proofs.TokenProofWrittenCallsWritten.{methods_fit}

pub returns : goal.returns
returns c = λ list files judged p is m b.
    let classes = (let w = p.files in w.classes) in
    let runs = is.runs in
    let of_files = is.of_files in
    let told = c.static_fields_are_told.ensures.cells list.name p (all_codes classes) runs.sound runs.typed runs.image
    runs.once in
    let fit = cells_fit p.image (statics_of classes) told (c.static_images_fit.ensures list files judged p is.laid) in
    let keeps = runs.keeps in
    let laws = c.lookup_laws.ensures in
    let dispatch = c.dispatch_laws.ensures in
    let kept = kept_exports list files judged p is in
    let known = facts list.name p runs.sound (methods_fit p runs.small) kept keeps (laws.are_supertypes (world p)
    keeps.rules.acyclic) (laws.one_supertypes (world p)) (dispatch.virtual_calls (world p) keeps.rules)
    (dispatch.interface_calls (world p) keeps.rules keeps.interfaces) (c.token_laws.ensures (world p) keeps.rules) in
    let mean = c.tokens_mean_methods.ensures in
    let supers = c.super_calls_are_named.ensures.named list judged.codes p of_files in
    let met = one_named list judged.codes p of_files is.methods told fit known runs.tokens (mean.public (world p)
    keeps.rules known.placed) (mean.package_visible (world p) keeps.rules) (c.virtual_calls_are_named.ensures.named list
    judged.codes p of_files) supers in
    let named = c.converted_packages_have_named_entries.ensures list files judged p is in
    let described = c.descriptor_says_what_the_package_says.ensures p runs.typed (c.sizes_fit.ensures.types list files
    judged p is.laid is.sizes) (c.converted_packages_have_card_types.ensures list files judged p is) named in
    let begin = c.converted_methods_begin.ensures list files judged p is in
    let begins = methods_begin c.layouts_are_laid_out.ensures.forms c.layouts_are_laid_out.ensures.offsets p runs.ready
    runs.methods (own_ids list.name p runs.sound) (classes_stand list.name p runs.sound) in
    above_served list judged.codes p of_files (c.converted_packages_have_their_types.ensures.subtypes list files judged
    p is) described named (c.types_are_known.ensures list files judged p is.laid of_files) met is.methods known begin
    (c.exports_have_code.ensures list files judged p is) kept runs.subtypes runs.tokens (place p) begins
    (λ d named_d own plain j f e. (
    let k = has-get d (class_order (world p)) (order_has list.name p.files runs.sound d (has_named (world p) d.name d
    named_d) own) in
    let start = begin k.0 d k.1 plain j f e in
    (start.start, start.starts, start.bare)
    )) supers m (class_plain list judged.codes p of_files (own_names list.name p.files runs.sound) is.methods m b)
