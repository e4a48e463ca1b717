use Rattle.cjc_accepted_theorem.proofs.KnownLaws.{kept_exports}
use Rattle.cjc_accepted_theorem.proofs.PoolLaws.{all_named}
use Rattle.cjc_accepted_theorem.proofs.entries.converted_packages_have_named_entries.Goals as goal
use Rattle.cjc_verified_proof.specs.Bytecode.PackageCodes.{all_codes}
use Rattle.cjc_verified_proof.specs.Components.Package.{world}
use Rattle.cjc_theorem.proofs.AlikeLaws.MetLaws.Cells.{cells_fit}
use Rattle.cjc_verified_proof.specs.TokenProof.Tables.Known.{statics_of}
use Rattle.cjc_verified_proof.proofs.TokenProofWrittenCallsKnown.{facts}
use Rattle.cjc_verified_proof.proofs.TokenProofWrittenCallsWritten.{methods_fit}

pub returns : goal.returns
returns c = λ list files judged p is.
    let classes = (let w = p.files in w.classes) in
    let runs = is.runs in
    let told = c.static_fields_are_told.ensures.cells list.name p (all_codes classes) runs.sound runs.typed runs.image
    runs.once in
    let fit = cells_fit p.image (statics_of classes) told (c.static_images_fit.ensures list files judged p is.laid) in
    let keeps = runs.keeps in
    let laws = c.lookup_laws.ensures in
    let dispatch = c.dispatch_laws.ensures in
    let known = facts list.name p runs.sound (methods_fit p runs.small) (kept_exports list files judged p is) keeps
    (laws.are_supertypes (world p) keeps.rules.acyclic) (laws.one_supertypes (world p)) (dispatch.virtual_calls (world
    p) keeps.rules) (dispatch.interface_calls (world p) keeps.rules keeps.interfaces) (c.token_laws.ensures (world p)
    keeps.rules) in
    let mean = c.tokens_mean_methods.ensures in
    all_named list judged.codes p is.of_files is.methods told fit known runs.tokens (mean.public (world p) keeps.rules
    known.placed) (mean.package_visible (world p) keeps.rules) (c.virtual_calls_are_named.ensures.named list
    judged.codes p is.of_files) (c.super_calls_are_named.ensures.named list judged.codes p is.of_files)
    (c.calls_have_opcodes.ensures list files judged is.laid.sound)
