-- A converted package is laid out.
use Rattle.std.proofs.Common.{ℕ, List}
use Rattle.cjc_components.specs.Package.{Package}
use Rattle.cjc_shape_proof.specs.Written.LaidOut.{IsLaidOut}
use Rattle.cjc_shape_proof.specs.LowerJudge.declared.judged.Judged.{Judged}
use Rattle.cjc_token_proof.specs.List.Listed.{ListTree}
use Rattle.cjc_shape_proof.specs.Written.Converted.{IsConverted}
use Rattle.cjc_shape_proof.proofs.WritingLaws.Aids.{aids_short}

pub laid_out : (list : ListTree) (files : List (List ℕ)) (judged : Judged) (p : Package)
    → IsConverted list files judged p → IsLaidOut list files judged p
laid_out list files judged p is = record {
  read = is.read;
  aids = aids_short list is.read;
  sound = is.sound;
  is_package = is.is_package;
  words = is.words;
  forms = is.forms;
}
