use Rattle.cjc_shape_proof.proofs.WrittenLaws.Checked.{files_sound}
use Rattle.cjc_shape_proof.specs.LowerJudge.Rules.{settings_of}
use Rattle.cjc_theorem.proofs.AlikeLaws.VirtualCalls.Words.{exports_have_one_access}
use Rattle.cjc_joint_whole.proofs.WholeLaws.CodeFaces.{faces_named}
use Rattle.cjc_joint_whole.proofs.faces.packages_of_files_name_faces.Goals as goal

pub returns-clause-faces : goal.returns-clause-faces
returns-clause-faces c = λ list codes p is. faces_named list codes p is

pub returns-clause-access : goal.returns-clause-access
returns-clause-access c = λ list codes p is.
    let its = is.checked in
    let none = c.package_laws.ensures.unbroken list.name p.files codes (settings_of list) its.unbroken its.checks in
    c.methods_keep_flags.ensures.access list.name p codes (settings_of list) (files_sound list codes p its) none
    (exports_have_one_access p its.plain)
