-- What the code keeps for itself; a reader of the contracts may pass over it.
use Rattle.std.specs.Prelude.{◌≡◌, ◌⊎◌, ◌/◌, ◌<◌, ℕ, List, [], ◌∷◌, ◌++◌, nat_lt, if◌then◌else◌, Option, Some, None}
use Rattle.std.specs.Prelude.{map, slice_get, true, Result, Ok, Err}
use Rattle.std.specs.List.{AllByRecursion}
use Rattle.cjc_link_semantics.specs.CheckRules.Complete.{Complete, complete}
use Rattle.cjc_link_semantics.specs.Components.Paired.Pairs.{ArePaired}
use Rattle.cjc_group.specs.Bytes.Breaks.{IsFirstRefusal}
use Rattle.cjc_group.specs.Bytes.Refused.{refusal}
use Rattle.cjc_group.specs.Bytes.declared.fault.Fault.{Fault}
use Rattle.cjc_group.specs.Bytes.declared.fault.Refusal.{Refusal}
use Rattle.cjc_group.specs.Bytes.declared.settings.FileLine.{FileLine}
use Rattle.cjc_link_semantics.specs.Clinit.Image.{IsImage}
use Rattle.cjc_cmd_card.specs.Report.Runs as alone
use Rattle.cjc_cmd_card.specs.Running.Reads.{IsInput}
use Rattle.cjc_cmd_card.specs.Running.Ready.{IsReady}
use Rattle.cjc_cmd_card.specs.declared.running.input.Input.{Input}
use Rattle.cjc_cmd_card.specs.LowerJudge.Rules.{IsFirstRefused}
use Rattle.cjc_link_semantics.specs.JvmSemantics.Group.{joint}
use Rattle.cjc_cmd_card.specs.LowerScriptText.Scripted.{ScriptTree}
use Rattle.cjc_group.specs.World.Classes.{all_classes}
use Rattle.cjc_group.specs.World.Files.{Files}
use Rattle.cjc_group.specs.World.Rules.{has_cycle}
use Rattle.cjc_group.specs.World.declared.image.StaticImage.{StaticImage}
use Rattle.cjc_cmd_link.specs.Members.{exported_by}
use Rattle.cjc_cmd_link.specs.Refused.{IsFirstPart}
use Rattle.cjc_cmd_link.specs.declared.joint.Joint.{Joint}
use Rattle.cjc_cmd_link.specs.declared.members.Tested.{Tested}
use Rattle.cjc_link_semantics.specs.Bytecode.PackageCodes.{all_codes}
use Rattle.cjc_link_semantics.specs.ExportFile.declared.tree.ExportTree.{ExportTree}
use Rattle.cjc_group.specs.Members.{Member as Linked}
use Rattle.cjc_group.specs.Missing.{missing}
use Rattle.cjc_group.specs.Rules.{breaks}

-- ---- the packages

-- What was tested is of what was read, and breaks no rule; the image is what its initialisers leave.
pub record IsMade (input : Input) (t : Tested) (image : StaticImage) : Type 0 where
  pub input_is : (let own = t.input in own.now ≡ input)
  pub is_ready : IsReady input [] t.ready
  pub whole : Complete
  pub whole_is : (let ready = t.ready in complete ready.cap ≡ Some whole)
  pub is_image : (let ready = t.ready in let judged = ready.judged in IsImage judged.world judged.codes image)
  pub paired : (let ready = t.ready in let judged = ready.judged in ArePaired judged.world image whole)

-- the packages, in order
abbrev pub AreMade : List Input → List Tested → List StaticImage → Type 0
AreMade [] [] [] = Unit {0}
AreMade (i ∷ inputs) (t ∷ ts) (image ∷ images) = IsMade i t image × AreMade inputs ts images
AreMade inputs ts images = ⊥

-- What was tested is of packages that were read.
pub record AreOfGroup (ts : List Tested) : Type 0 where
  pub inputs : List Input
  pub images : List StaticImage
  pub are_inputs : AllByRecursion IsInput inputs
  pub are_made : AreMade inputs ts images

-- the world of a package
abbrev pub world_of : Tested → Files
world_of t = let ready = t.ready in let judged = ready.judged in judged.world

-- the worlds of all
abbrev pub worlds_of : List Tested → List Files
worlds_of ts = map world_of ts

-- the lines of its list
abbrev pub lines_of : Tested → List FileLine
lines_of t = let own = t.input in let input = own.now in let list = input.list in list.lines

-- its files
abbrev pub texts_of : Tested → List (List ℕ)
texts_of t = let own = t.input in let input = own.now in input.files

-- the export file that is written for it
abbrev pub written_of : Tested → ExportTree
written_of t = let own = t.input in let input = own.now in exported_by input.list (world_of t)

-- a package as it is linked
abbrev pub linked_as : Tested → Linked
linked_as t = let own = t.input in let input = own.now in record {
  list = input.list;
  files = world_of t;
  written = written_of t;
}

-- ---- the first refusal

-- the hundreds digit of a rule
abbrev pub hundred : Refusal → ℕ
hundred r = r.rule.0 / 100

-- a refusal, or one of a later part whose hundred is lower
abbrev pub earlier : Option Refusal → Refusal → Refusal
earlier None s = s
earlier (Some r) s = if nat_lt (hundred s) (hundred r) then s else r

-- One package more was tested: it is put behind the others, or it is refused.
pub data Follows (m : Input) (refusal : Option Refusal) (old new : List Tested) (before after : List StaticImage)
    (next : Option Refusal) : Type 0 where
  passes : (t : Tested) (image : StaticImage) → IsMade m t image → new ≡ old ++ t ∷ []
      → after ≡ before ++ image ∷ [] → next ≡ refusal → Follows m refusal old new before after next
  stops : (s : Refusal) → IsFirstRefused (alone.AnyBreaks m []) s → next ≡ Some (earlier refusal s)
      → Follows m refusal old new before after next

-- the package at this place is refused
abbrev pub MemberRefused : List Input → (part : ℕ) → Refusal → Type 0
MemberRefused inputs part r = (m : Input) × (slice_get inputs part ≡ Some m)
    × IsFirstRefused (alone.AnyBreaks m []) r

-- one of the first parts is refused
abbrev pub Below : ((part : ℕ) → Refusal → Type 0) → (count : ℕ) → (part : ℕ) → Refusal → Type 0
Below Refused n part r = (part < n) × Refused part r

-- None of the first parts is refused, or this is the first of their refusals.
abbrev pub StandsSo : ((part : ℕ) → Refusal → Type 0) → (count : ℕ) → Option Refusal → Type 0
StandsSo Refused n None = (part : ℕ) (r : Refusal) → Below Refused n part r → ⊥
StandsSo Refused n (Some r) = IsFirstPart (Below Refused n) r

-- what a script is refused by, behind what was refused before it
abbrev pub StopsBy : Option Refusal → Result ScriptTree Refusal → Refusal → Type 0
StopsBy refusal (Ok tree) r = refusal ≡ Some r
StopsBy refusal (Err s) r = r ≡ earlier refusal s

-- ---- all together

-- The error is of what these packages do not agree on; or they agree, and it is of what they miss.
abbrev pub IsTogetherFault : List Linked → Fault → Type 0
IsTogetherFault group e = IsFirstRefusal (breaks group) e ⊎ ((breaks group ≡ []) × IsFirstRefusal (missing group) e)

-- a class is above itself in the world of these packages, which is told at the text of this name
abbrev pub IsCycle : (name : List ℕ) → List Files → Refusal → Type 0
IsCycle name group r = (has_cycle (all_classes (joint group)) ≡ true) × (r ≡ refusal name 204 0)

-- no class is above itself in the world of these packages
abbrev pub IsFree : List Files → Type 0
IsFree group = has_cycle (all_classes (joint group)) ≡ true → ⊥

-- It is the world of these packages, in which no class is above itself, with the instructions of all methods.
pub record IsJoint (group : List Files) (j : Joint) : Type 0 where
  pub world : j.world ≡ joint group
  pub codes : j.codes ≡ all_codes (let w = j.world in w.classes)
  pub free : IsFree group
