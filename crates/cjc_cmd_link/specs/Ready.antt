-- Which rules the packages of a group break, in the order of refusals: package by package, then the script; and what
-- they agree on, where none of these is broken.
use Rattle.std.specs.Prelude.{◌≡◌, ◌+◌, ◌*◌, ◌^◌, ◌<◌, ℕ, List, [], ◌∷◌, length, map, All, Ok, Err, Some, slice_get}
use Rattle.cjc_cmd_verify.specs.LowerCmdCard.Report.Runs as alone
use Rattle.cjc_cmd_verify.specs.LowerCmdCard.Running.Reads.{IsInput}
use Rattle.cjc_cmd_verify.specs.LowerCmdCard.Running.Ready as alone_ready
use Rattle.cjc_cmd_verify.specs.LowerCmdCard.declared.running.input.Input.{Input}
use Rattle.cjc_cmd_verify.specs.LowerCmdCard.declared.running.ready.Ready.{Ready}
use Rattle.cjc_cmd_verify.specs.LowerScriptText.Scripted.{scripted}
use Rattle.cjc_cmd_verify.specs.LowerCmdJvm.Running.Ready.{script_break}
use Rattle.cjc_cmd_link.specs.declared.members.ReadyGroup.{ReadyGroup}
use Rattle.cjc_cmd_link.specs.declared.members.Tested.{Tested}
use Rattle.cjc_cmd_link.specs.declared.reads.GroupInput.{GroupInput}
use Rattle.cjc_cmd_verify.specs.LowerComponents.ExportFile.{export_of}
use Rattle.cjc_cmd_verify.specs.LowerComponents.Package.{Package}
use Rattle.cjc_group.specs.Members.{Member}
use Rattle.cjc_group.specs.Rules as group
use Rattle.cjc_cmd_verify.specs.Bytes.Breaks.{Break, Among}
use Rattle.cjc_cmd_verify.specs.Bytes.Order.{group_number}
use Rattle.cjc_cmd_verify.specs.Bytes.declared.fault.Refusal.{Refusal}
use Rattle.cjc_cmd_verify.specs.Bytes.declared.order.GroupKey.TheVariants as keys
use Rattle.cjc_cmd_verify.specs.LowerClinit.Image.{IsImage}
use Rattle.cjc_cmd_verify.specs.LowerJudge.Rules.{OnLevels, files_spelt}
use Rattle.cjc_cmd_verify.specs.LowerJudge.Spelt.{FileTree, SpellTrees}

-- ---- where a break stands in a group

-- the break of the package at this place: its files stand behind those of the packages before it
abbrev pub of_member : (place : ℕ) → Break → Break
of_member p b = record b { rank = record b.rank { file = (p + 1) * 2 ^ 65 + b.rank.file } }

-- the break of the script, behind all packages
abbrev pub of_script : Refusal → Break
of_script r = let b = script_break r in record b { rank = record b.rank { file = group_number keys.Script } }

-- a package of the group breaks one of these
pub record AnyMember (Breaks : Input → Break → Type 0) (input : GroupInput) (b : Break) : Type 0 where
  pub place : ℕ
  pub member : Input
  pub is : slice_get input.members place ≡ Some member
  pub broken : Break
  pub breaks : Breaks member broken
  pub placed : b ≡ of_member place broken

-- ---- what is broken

-- 105: the script of this name says nothing from some line on
abbrev pub BreaksScript : GroupInput → (name : List ℕ) → Break → Type 0
BreaksScript input name b = (r : Refusal) × (scripted name input.script ≡ Err r) × (b ≡ of_script r)

-- a package by itself, as the command that runs one tests it, or the script
pub data BreaksAlone (input : GroupInput) (name : List ℕ) (b : Break) : Type 0 where
  by_member : AnyMember (λ m a. alone_ready.Breaks m [] a) input b → BreaksAlone input name b
  by_script : BreaksScript input name b → BreaksAlone input name b

-- 719: the components of a package are not of it
abbrev pub BreaksPair : GroupInput → Break → Type 0
BreaksPair input b = AnyMember alone.BreaksPair input b

-- A package of the group: its list, the files that are spelt, and what is written for it.
pub record IsMember (input : Input) (member : Member) : Type 0 where
  pub list : member.list ≡ input.list
  pub trees : List FileTree
  pub spell : (let list = input.list in SpellTrees list.lines input.files trees)
  pub files : member.files ≡ files_spelt input.list trees
  pub exported : Package
  pub exported_list : exported.list ≡ input.list
  pub exported_files : exported.files ≡ member.files
  pub written : member.written ≡ export_of exported

-- The packages, in order.
abbrev pub AreMembers : List Input → List Member → Type 0
AreMembers [] [] = Unit {0}
AreMembers [] (m ∷ ms) = ⊥
AreMembers (i ∷ is) [] = ⊥
AreMembers (i ∷ is) (m ∷ ms) = IsMember i m × AreMembers is ms

-- 731 to 735: what the packages do not agree on
abbrev pub BreaksTogether : GroupInput → Break → Type 0
BreaksTogether input b = (members : List Member) × AreMembers input.members members
    × Among b (group.breaks members)

-- A rule is broken: of a package or the script by itself; where none is, by components that are not of their package;
-- and where these are, by what packages do not agree on.
abbrev pub Breaks : GroupInput → (name : List ℕ) → Break → Type 0
Breaks input name = OnLevels (OnLevels (BreaksAlone input name) (BreaksPair input)) (BreaksTogether input)

-- ---- where none is broken

-- The packages break no rule by themselves.
abbrev pub AreReady : List Input → List Ready → Type 0
AreReady [] members = members ≡ []
AreReady (i ∷ inputs) [] = ⊥
AreReady (i ∷ inputs) (r ∷ members) = alone_ready.IsReady i [] r × AreReady inputs members
