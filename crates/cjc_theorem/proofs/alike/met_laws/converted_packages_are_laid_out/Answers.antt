use Rattle.std.proofs.Common.{◌∙◌}
use Rattle.cjc_shape_proof.proofs.WritingLaws.Aids.{aids_short}
use Rattle.cjc_theorem.proofs.alike.met_laws.converted_packages_are_laid_out.Goals as goal

pub returns : goal.returns
returns c = λ list files judged p is.
    let law = c.packages_in_short_mode_are_as_before.ensures in
    let moded = law.by_modes list files judged is.sound p is.is_package in
    record {
      read = is.read;
      aids = aids_short list is.read;
      sound = is.sound;
      is_package = moded;
      words = law.words list files judged is.sound p moded is.is_package.short ∙ is.words;
      forms = is.forms;
    }
