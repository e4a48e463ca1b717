use Rattle.cjc_accepted_theorem.proofs.KnownLaws.{kept_exports}
use Rattle.cjc_accepted_theorem.proofs.PoolLaws.{one_named}
use Rattle.cjc_accepted_theorem.proofs.ServedLaws.{served_at}
use Rattle.cjc_accepted_theorem.proofs.served.converted_instructions_are_served.Goals as goal
use Rattle.cjc_verified_proof.specs.Bytecode.PackageCodes.{all_codes}
use Rattle.cjc_verified_proof.specs.Components.Package.{world}
use Rattle.cjc_theorem.proofs.AlikeLaws.MetLaws.Cells.{cells_fit}
use Rattle.cjc_verified_proof.specs.TokenProof.Tables.Known.{statics_of}
use Rattle.cjc_verified_proof.proofs.TokenProofWrittenCallsKnown.{facts}
use Rattle.cjc_verified_proof.proofs.TokenProofWrittenCallsWritten.{methods_fit}

pub returns : goal.returns
returns c = λ list files judged p is m b.
    let classes = (let w = p.files in w.classes) in
    let runs = is.runs in
    let of_files = is.of_files in
    let told = c.static_fields_are_told.ensures.cells list.name p (all_codes classes) runs.sound runs.typed runs.image
    runs.once in
    let fit = cells_fit p.image (statics_of classes) told (c.static_images_fit.ensures list files judged p is.laid) in
    let keeps = runs.keeps in
    let laws = c.lookup_laws.ensures in
    let dispatch = c.dispatch_laws.ensures in
    let kept = kept_exports list files judged p is in
    let known = facts list.name p runs.sound (methods_fit p runs.small) kept keeps (laws.are_supertypes (world p)
    keeps.rules.acyclic) (laws.one_supertypes (world p)) (dispatch.virtual_calls (world p) keeps.rules)
    (dispatch.interface_calls (world p) keeps.rules keeps.interfaces) (c.token_laws.ensures (world p) keeps.rules) in
    let mean = c.tokens_mean_methods.ensures in
    let supers = c.super_calls_are_named.ensures.named list judged.codes p of_files in
    let met = one_named list judged.codes p of_files is.methods told fit known runs.tokens (mean.public (world p)
    keeps.rules known.placed) (mean.package_visible (world p) keeps.rules) (c.virtual_calls_are_named.ensures.named list
    judged.codes p of_files) supers in
    let named = c.converted_packages_have_named_entries.ensures list files judged p is in
    let described = c.descriptor_says_what_the_package_says.ensures p runs.typed (c.sizes_fit.ensures.types list files
    judged p is.laid is.sizes) (c.converted_packages_have_card_types.ensures list files judged p is) named in
    let begin = c.converted_methods_begin.ensures list files judged p is in
    served_at list judged.codes p of_files (c.converted_packages_have_their_types.ensures.subtypes list files judged p
    is) described named (c.types_are_known.ensures list files judged p is.laid of_files) met is.methods known begin
    (c.exports_have_code.ensures list files judged p is) kept m b (λ id of free over holds key.
    c.calls_above_are_served.ensures list files judged p is m b id of free holds key)
