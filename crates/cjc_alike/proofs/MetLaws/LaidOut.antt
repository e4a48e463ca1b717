-- A converted package is laid out.
use Rattle.std.proofs.Common.{ℕ, List}
use Rattle.cjc_components.specs.Package.{Package}
use Rattle.cjc_written_laws.specs.LaidOut.{IsLaidOut}
use Rattle.cjc_judge.specs.declared.judged.Judged.{Judged}
use Rattle.cjc_list.specs.Listed.{ListTree}
use Rattle.cjc_written_laws.specs.Converted.{IsConverted}
use Rattle.cjc_alike.proofs.MetLaws.Aids.{aids_short}

pub laid_out : (list : ListTree) (files : List (List ℕ)) (judged : Judged) (p : Package) → IsConverted list files judged p → IsLaidOut list files judged p
laid_out list files judged p is = record { read = is.read; aids = aids_short list is.read; sound = is.sound; is_package = is.is_package; words = is.words; forms = is.forms }
