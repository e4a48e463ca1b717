-- A package that is laid out, as the laws on what is written speak of it.
use Rattle.std.proofs.Common.{ℕ, List}
use Rattle.cjc_components.specs.Package.{Package}
use Rattle.cjc_shape_proof.specs.Written.LaidOut.{AidsAreShort, IsLaidOut}
use Rattle.cjc_judge.specs.Spelt.{IsRead}
use Rattle.cjc_judge.specs.declared.judged.Judged.{Judged}
use Rattle.cjc_list.specs.Listed.{ListTree}
use Rattle.cjc_shape.specs.Prepared.{IsSound}
use Rattle.cjc_shape.specs.Whole.Working.Shaped.{IsShaped}
use Rattle.cjc_shape.specs.declared.whole.shaping.Shaped.{Shaped}

pub laid_out : (list : ListTree) (files : List (List ℕ)) (judged : Judged) (s : Shaped) (p : Package) → IsRead list
    → AidsAreShort list → IsSound list files judged → IsShaped list files s p → IsLaidOut list files judged p
laid_out list files judged s p read aids is shaped = record {
  read = read;
  aids = aids;
  sound = is;
  is_package = shaped.is_package;
  words = shaped.words;
  forms = shaped.forms;
}
