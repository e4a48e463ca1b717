-- When the class files of a package and its components behave alike: by name on numbers of 32 bits, and by token on
-- words of 16 bits, of which a number is two in methods in int mode, and one in all others (Java Virtual Machine
-- Specification, chapter 6; Java Card Virtual Machine Specification 2.2.2, chapters 3, 4, 6, 7).
use Rattle.std.specs.Prelude.{◌≡◌, ℕ, Some}
use Rattle.cjc_token_proof.specs.CardSemantics.Bytecode.Runs.{Agree}
use Rattle.cjc_jvm_semantics.specs.ByName.{run as run_by_name}
use Rattle.cjc_jvm_semantics.specs.CapRead.declared.tree.CapTree.{CapTree}
use Rattle.cjc_token_proof.specs.CardSemantics.Machine.ByToken.{run as run_by_token}
use Rattle.cjc_token_proof.specs.Clinit.Image.{IsImage}
use Rattle.cjc_components.specs.Bytecode.PackageCodes.{all_codes}
use Rattle.cjc_shape_proof.specs.LowerJudge.Rules.{has_applets}
use Rattle.cjc_shape_proof.specs.LowerShape.Whole.Conversion.{AreShort}
use Rattle.cjc_token_proof.specs.List.Listed.{ListTree}
use Rattle.cjc_components.specs.Paired.Naming.{loaded_of}
use Rattle.cjc_token_proof.specs.Script.declared.report.Report.{Report}
use Rattle.cjc_token_proof.specs.Script.declared.script.Script.{Script}
use Rattle.cjc_token_proof.specs.CheckRules.Complete.{Complete, complete}
use Rattle.cjc_world.specs.Files.{Files}
use Rattle.cjc_world.specs.declared.image.StaticImage.{StaticImage}

-- For every script: of the notes of any two runs one begins with the other; where the first run of n instructions is
-- over, the second of at least `most` n has the same notes, outcome, heap and static cells, and where the second of n is
-- over, the first of at least 65,536 (n + 1) has; and neither is ever stuck.
abbrev pub RunAlike : (most : ℕ) → (one other : Script → ℕ → Report) → Type 0
RunAlike most one other = (script : Script) → Agree most (one script) (other script)

-- No method of these files that is written is in int mode: the list has no line `int`, or no method needs it.
abbrev pub NoneInIntMode : ListTree → Files → Type 0
NoneInIntMode list files = AreShort list.ints files

-- So do the class files of a list over its export files, from what their initialisers leave in static fields, and these
-- components, of which only Applet and Export may be absent, with the export files and with names from the class files:
-- with at most 4,096 instructions by token for one by name, and with at most 3 where no method is in int mode.
pub record BehaveAlike (list : ListTree) (files : Files) (cap : CapTree) : Type 0 where
  pub image : StaticImage
  pub is_image : IsImage files (all_codes files.classes) image
  pub components : Complete
  pub are_components : complete cap ≡ Some components
  pub alike : RunAlike 4096 (run_by_name files image)
      (run_by_token (loaded_of (has_applets list) files image components))
  pub closely : NoneInIntMode list files → RunAlike 3 (run_by_name files image)
      (run_by_token (loaded_of (has_applets list) files image components))
