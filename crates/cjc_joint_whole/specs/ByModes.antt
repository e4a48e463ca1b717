-- Packages by the modes of their methods, as a group links them.
use Rattle.std.specs.Prelude.{ℕ, List}
use Rattle.cjc_components.specs.Package.{Package}
use Rattle.cjc_int_components.specs.Modes.{Tables}
use Rattle.cjc_int_theorem.specs.ByModes.{IsConvertedByModes}
use Rattle.cjc_shape_proof.specs.LowerJudge.declared.judged.Judged.{Judged}
use Rattle.cjc_shape_proof.specs.Written.LaidOut.{IsLaidOut}
use Rattle.cjc_token_proof.specs.List.Listed.{ListTree}
use Rattle.cjc_token_proof.specs.WrittenSends.Sends.{ExportsSend}
use Rattle.cjc_joint_whole.specs.Above.{ImportsKeepKinds}

-- A package of a list that was read and of files that break no rule, over export files that may be sent to and keep the
-- kinds of methods, whichever of its methods are in int mode.
pub record IsWrittenByModes (p : Package) : Type 0 where
  pub list : ListTree
  pub files : List (List ℕ)
  pub judged : Judged
  pub tables : Tables
  pub laid : IsLaidOut list files judged p
  pub converted : IsConvertedByModes list judged.codes tables p
  pub sends : ExportsSend p
  pub kinds : ImportsKeepKinds p
