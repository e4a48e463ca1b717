use Rattle.cjc_components.specs.Bytecode.PackageCodes.{all_codes}
use Rattle.cjc_shape_proof.specs.LowerJudge.Rules.{settings_of}
use Rattle.cjc_shape_proof.proofs.WrittenLaws.Checked.{field_descs, files_sound, own_once}
use Rattle.cjc_shape_proof.proofs.WrittenLaws.Coded.{insn_of}
use Rattle.cjc_theorem.proofs.AlikeLaws.InsnNames.Named.{names_what_is_there}
use Rattle.cjc_theorem.proofs.AlikeLaws.NamedLaws.Sources.{holder}
use Rattle.cjc_theorem.proofs.alike.insn_names.instructions_of_files_name_what_is_there.Goals as goal

pub returns : goal.returns
returns c = λ list codes p is image k m e from known j i there.
    let its = is.checked in
    let typed = c.fields_are_typed.ensures list.name p.files codes (settings_of list) (field_descs list codes p its)
    its.checks in
    let told = c.static_fields_are_told.ensures.cells list.name p (let w = p.files in all_codes w.classes)
    (files_sound list codes p its) typed image (own_once list codes p its) in
    names_what_is_there list codes p is told (let h = holder list codes p is k m e in h.class) i.op
    (insn_of list codes p its is.methods k m e from known j i there).1
