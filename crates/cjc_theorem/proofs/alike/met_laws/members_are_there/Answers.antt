use Rattle.cjc_components.specs.Bytecode.PackageCodes.{all_codes}
use Rattle.cjc_components.specs.Package.{pool}
use Rattle.cjc_shape_proof.proofs.WrittenLaws.Checked.{field_descs, files_sound, own_once}
use Rattle.cjc_shape_proof.specs.LowerCheckProof.Keys.{IsThere}
use Rattle.cjc_shape_proof.specs.LowerJudge.Rules.{settings_of}
use Rattle.cjc_theorem.proofs.AlikeLaws.MetLaws.Cells.{cells_fit, each_of}
use Rattle.cjc_theorem.proofs.AlikeLaws.MetLaws.KeySources.{key_met}
use Rattle.cjc_theorem.proofs.AlikeLaws.MetLaws.There.{key_there}
use Rattle.cjc_theorem.proofs.alike.met_laws.members_are_there.Goals as goal
use Rattle.cjc_token_proof.specs.Tables.Known.{statics_of}
use Rattle.cjc_vtable.proofs.Filed.{has-get}

pub returns : goal.returns
returns c = λ list files judged p laid is.
    let codes = judged.codes in
    let checked = is.checked in
    let classes = (let w = p.files in w.classes) in
    let typed = c.fields_are_typed.ensures list.name p.files codes (settings_of list) (field_descs list codes p checked)
    checked.checks in
    let told = c.static_fields_are_told.ensures.cells list.name p (all_codes classes) (files_sound list codes p checked)
    typed laid.is_package.is_package.image (own_once list codes p checked) in
    let fit = cells_fit p.image (statics_of classes) told (c.static_images_fit.ensures list files judged p laid) in
    let opcodes = c.calls_of_files_have_opcodes.ensures list codes p checked in
    each_of (IsThere p) (pool p) (λ key h. let at = has-get key (pool p) h in key_there list codes p is told fit
    (λ class id of. c.virtual_calls_are_named.ensures.named list codes p is class id of)
    (λ class id of plain no_constructor hit found open_one. c.super_calls_are_named.ensures.named list codes p is class
    id of plain no_constructor hit found open_one)
    key (key_met list codes p is opcodes at.0 key at.1))
