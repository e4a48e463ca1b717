-- What runs of components start from: a package that breaks no rule of the first three hundreds, of limits and of
-- tokens, components
-- that are consistent with its export files, and a script.
use Rattle.std.specs.Prelude.{◌≡◌, ℕ, List, [], ◌∷◌, Some, Ok}
use Rattle.cjc_cmd_check.specs.Bytes.Breaks.{Break, Among}
use Rattle.cjc_cmd_check.specs.Check.{sentence_breaks}
use Rattle.cjc_cmd_check.specs.Folder.Breaks.{cap_in, part_breaks}
use Rattle.cjc_cmd_check.specs.declared.folder.folder.Parts.{Parts}
use Rattle.cjc_cmd_jvm.specs.Judge.Judged.{IsJudged}
use Rattle.cjc_cmd_jvm.specs.Judge.Rules.{Breach}
use Rattle.cjc_cmd_jvm.specs.Judge.Spelt.{FileTree, SpellTrees, exports_of}
use Rattle.cjc_cmd_jvm.specs.Judge.declared.groups.Group.{Group}
use Rattle.cjc_cmd_jvm.specs.Judge.declared.groups.Group.TheVariants as groups
use Rattle.cjc_cmd_check.specs.List.Listed.{ListTree}
use Rattle.cjc_cmd_jvm.specs.Running.Ready.{BreaksScript}
use Rattle.cjc_cmd_jvm.specs.LowerScriptText.Scripted.{scripted}
use Rattle.cjc_pairing.specs.CheckRules.Complete.{AreSmall, Complete, complete}
use Rattle.cjc_pairing.specs.CheckRules.Consistent.{Consistent}
use Rattle.cjc_cmd_card.specs.declared.running.input.Input.{Input}
use Rattle.cjc_cmd_card.specs.declared.running.ready.Ready.{Ready}

-- what a package is tested for, beyond single files, the classes together and what instructions name: the language of
-- the card,
-- limits, and tokens
abbrev pub tested : List Group
tested = groups.Unsupported ∷ groups.Initialisers ∷ groups.Limits ∷ groups.Tokens ∷ []

-- 701 to 718: what components say together, beside the export files of a list. It is asked where each file of the list
-- is spelt, and
-- no component breaks its format.
abbrev pub BreaksSentence : ListTree → (files : List (List ℕ)) → Parts → Break → Type 0
BreaksSentence list files parts b = (trees : List FileTree) × SpellTrees list.lines files trees
    × (part_breaks parts ≡ []) × Among b (sentence_breaks (cap_in parts) (exports_of trees))

-- A rule is broken: by the package, by a component, by the script of this name, or by what the components say together.
pub data Breaks (input : Input) (name : List ℕ) (b : Break) : Type 0 where
  of_package : Breach input.list input.files tested b → Breaks input name b
  of_parts : Among b (part_breaks input.parts) → Breaks input name b
  of_script : BreaksScript name input.script b → Breaks input name b
  of_sentences : BreaksSentence input.list input.files input.parts b → Breaks input name b

-- The package breaks no rule; these components are spelt, none but Applet and Export is absent, each has fewer bytes
-- than 2^32, and
-- they are consistent with the package's export files; and the text is this script.
pub record IsReady (input : Input) (name : List ℕ) (ready : Ready) : Type 0 where
  pub judged : IsJudged input.list input.files tested ready.judged
  pub unbroken : part_breaks input.parts ≡ []
  pub cap : cap_in input.parts ≡ Some ready.cap
  pub whole : Complete
  pub complete_is : complete ready.cap ≡ Some whole
  pub small : AreSmall whole
  pub consistent : (let judged = ready.judged in let world = judged.world in Consistent ready.cap world.exports)
  pub script : scripted name input.script ≡ Ok ready.script
