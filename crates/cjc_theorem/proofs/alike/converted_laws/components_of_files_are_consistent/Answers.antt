use Rattle.cjc_shape_proof.specs.LowerCheckProof.Consistent.Premises.{HasSoundFiles, HasSoundNames}
use Rattle.cjc_shape_proof.specs.LowerJudge.Rules.{settings_of}
use Rattle.cjc_shape_proof.proofs.WrittenLaws.Checked.{field_descs, files_sound, is_kept, own_tokens}
use Rattle.cjc_theorem.proofs.AlikeLaws.ConvertedLaws.Sizes.{sizes_kept}
use Rattle.cjc_theorem.proofs.alike.converted_laws.components_of_files_are_consistent.Goals as goal

pub returns : goal.returns
returns c = λ list files judged p laid is sizes methods kinds left.
    let codes = judged.codes in
    let checked = is.checked in
    let settings = settings_of list in
    let flags = c.methods_keep_flags.ensures in
    let rules = c.package_laws.ensures in
    let sound = files_sound list codes p checked in
    let kept = is_kept list codes p checked (λ l fs none fine. rules.unbroken l fs codes settings none fine) in
    let of_files : HasSoundFiles list.name p = record {
      sound = sound;
      typed = c.fields_are_typed.ensures list.name p.files codes settings (field_descs list codes p checked)
          checked.checks;
      keeps = rules.keeps list.name p.files codes settings kept;
      tokens = own_tokens list codes p checked;
      access = flags.access list.name p codes settings sound kept.unbroken left.access;
      interfaces = flags.unbound list.name p codes settings sound kept.unbroken;
      installs = left.installs;
    } in
    let of_names : HasSoundNames p = record {
      kinds = kinds;
      classes = left.classes;
      types = left.types;
      members = left.members;
    } in
    c.components_are_consistent.ensures list.name p of_files methods of_names (sizes_kept list files judged p laid sound
    sizes (c.sizes_fit.ensures.methods list files judged p laid sizes))
