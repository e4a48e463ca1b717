use Rattle.cjc_accepted_files.proofs.PairedLaws.{are_paired}
use Rattle.cjc_accepted_files.proofs.paired.written_components_are_paired.Goals as goal
use Rattle.cjc_components.specs.Bytecode.PackageCodes.{all_codes}
use Rattle.cjc_shape_proof.proofs.WrittenLaws.Checked.{field_descs, files_sound, own_once}
use Rattle.cjc_shape_proof.specs.LowerJudge.Rules.{settings_of}
use Rattle.cjc_theorem.proofs.AlikeLaws.MetLaws.Cells.{cells_fit}
use Rattle.cjc_verified_proof.specs.TokenProof.Tables.Known.{statics_of}

pub returns : goal.returns
returns c = λ list files judged p laid is.
    let codes = judged.codes in
    let checked = is.checked in
    let classes = (let w = p.files in w.classes) in
    let typed = c.fields_are_typed.ensures list.name p.files codes (settings_of list) (field_descs list codes p checked)
    checked.checks in
    let told = c.static_fields_are_told.ensures.cells list.name p (all_codes classes) (files_sound list codes p checked)
    typed laid.is_package.is_package.image (own_once list codes p checked) in
    are_paired p (cells_fit p.image (statics_of classes) told (c.static_images_fit.ensures list files judged p laid))
