use Rattle.cjc_accepted_modes.proofs.ServedLaws.{served_at}
use Rattle.cjc_accepted_modes.proofs.served.instructions_in_int_mode_are_served.Goals as goal
use Rattle.cjc_accepted_theorem.proofs.AboveLaws.{above_entry}
use Rattle.cjc_accepted_theorem.proofs.KnownLaws.{kept_exports}
use Rattle.cjc_accepted_theorem.proofs.PoolLaws.{one_named}
use Rattle.cjc_theorem.proofs.AlikeLaws.MetLaws.Cells.{cells_fit}
use Rattle.cjc_theorem.proofs.VTableFiled.{has-get}
use Rattle.cjc_verified_proof.proofs.TokenProofClean.{has_named}
use Rattle.cjc_verified_proof.proofs.TokenProofOrder.{order_has}
use Rattle.cjc_verified_proof.proofs.TokenProofWrittenCallsIds.{own_ids}
use Rattle.cjc_verified_proof.proofs.TokenProofWrittenCallsKnown.{classes_stand, facts}
use Rattle.cjc_verified_proof.proofs.TokenProofWrittenCallsOffsets.{methods_begin}
use Rattle.cjc_verified_proof.proofs.TokenProofWrittenCallsWritten.{methods_fit}
use Rattle.cjc_verified_proof.specs.Bytecode.PackageCodes.{all_codes}
use Rattle.cjc_verified_proof.specs.Components.Package.{world}
use Rattle.cjc_verified_proof.specs.TokenProof.Tables.Known.{statics_of}
use Rattle.cjc_verified_proof.specs.TokenProof.WrittenCalls.Standing.{place}
use Rattle.cjc_verified_proof.specs.World.Order.{class_order}

pub returns : goal.returns
returns c = λ list files judged t p is m k b.
    let classes = (let w = p.files in w.classes) in
    let runs = is.runs in
    let of_files = is.of_files in
    let told = c.static_fields_are_told.ensures.cells list.name p (all_codes classes) runs.sound runs.typed runs.image
    runs.once in
    let fit = cells_fit p.image (statics_of classes) told (c.static_images_fit.ensures list files judged p is.laid) in
    let keeps = runs.keeps in
    let laws = c.lookup_laws.ensures in
    let dispatch = c.dispatch_laws.ensures in
    let kept = kept_exports list files judged p is in
    let known = facts list.name p runs.sound (methods_fit p runs.small) kept keeps (laws.are_supertypes (world p)
    keeps.rules.acyclic) (laws.one_supertypes (world p)) (dispatch.virtual_calls (world p) keeps.rules)
    (dispatch.interface_calls (world p) keeps.rules keeps.interfaces) (c.token_laws.ensures (world p) keeps.rules) in
    let mean = c.tokens_mean_methods.ensures in
    let supers = c.super_calls_are_named.ensures.named list judged.codes p of_files in
    let met = one_named list judged.codes p of_files is.methods told fit known runs.tokens (mean.public (world p)
    keeps.rules known.placed) (mean.package_visible (world p) keeps.rules) (c.virtual_calls_are_named.ensures.named list
    judged.codes p of_files) supers in
    let named = c.converted_packages_have_named_entries.ensures list files judged p is in
    let described = c.descriptor_says_what_the_package_says.ensures p runs.typed (c.sizes_fit.ensures.types list files
    judged p is.laid is.sizes) (c.converted_packages_have_card_types.ensures list files judged p is) named in
    let begin = c.converted_methods_begin.ensures list files judged p is in
    let begins = methods_begin c.layouts_are_laid_out.ensures.forms c.layouts_are_laid_out.ensures.offsets p runs.ready
    runs.methods (own_ids list.name p runs.sound) (classes_stand list.name p runs.sound) in
    let subtypes = c.converted_packages_have_their_types.ensures.subtypes list files judged p is in
    let types = c.types_are_known.ensures list files judged p is.laid of_files in
    let coded = c.exports_have_code.ensures list files judged p is in
    served_at list judged.codes p of_files subtypes described named types met is.methods known begin coded kept
    (λ class id of plain apart held. above_entry list judged.codes p of_files subtypes described named types met
    is.methods known begin coded kept runs.subtypes runs.tokens (place p) begins (λ d named_d own here j f e. (
    let i = has-get d (class_order (world p)) (order_has list.name p.files runs.sound d (has_named (world p) d.name d
    named_d) own) in
    let start = begin i.0 d i.1 here j f e in
    (start.start, start.starts, start.bare)
    )) supers class id of plain apart held) t m k b
