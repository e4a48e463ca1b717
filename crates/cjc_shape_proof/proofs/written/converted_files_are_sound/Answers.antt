use Rattle.cjc_shape.specs.LowerJudge.Rules.{settings_of}
use Rattle.cjc_shape_proof.proofs.WrittenLaws.Files.{field_descs, files_sound, own_image, own_once, own_unbroken}
use Rattle.cjc_shape_proof.proofs.WrittenLaws.Files.{read_files}
use Rattle.cjc_shape_proof.proofs.written.converted_files_are_sound.Goals as goal

pub returns-clause-read : goal.returns-clause-read
returns-clause-read c = read_files

pub returns-clause-sound : goal.returns-clause-sound
returns-clause-sound c = files_sound

pub returns-clause-typed : goal.returns-clause-typed
returns-clause-typed c = λ list files judged p is.
    let u = own_unbroken list files judged p is in
    c.fields_are_typed.ensures list.name p.files judged.codes (settings_of list) (field_descs list files judged p is)
    u.checks

pub returns-clause-image : goal.returns-clause-image
returns-clause-image c = own_image

pub returns-clause-once : goal.returns-clause-once
returns-clause-once c = own_once
