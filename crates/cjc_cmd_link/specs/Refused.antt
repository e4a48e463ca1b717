-- Which refusal is answered where several packages are to run together: each package is tested as the command that runs
-- one tests it, and the script behind them; where none of these is refused, what the packages do not agree on is told,
-- then a class that implements an interface below one that its package misses, and last a class that only the export
-- files of all packages together put above itself.
use Rattle.std.specs.Prelude.{◌≡◌, ◌⊎◌, ◌/◌, ℕ, List, [], ◌∷◌, length, map, true, Some, Err, slice_get}
use Rattle.cjc_group.specs.Bytes.Breaks.{Among, Break}
use Rattle.cjc_group.specs.Bytes.Order.{AreUpTo}
use Rattle.cjc_group.specs.Bytes.Refused.{refusal}
use Rattle.cjc_group.specs.Bytes.declared.fault.Fault.{Fault}
use Rattle.cjc_group.specs.Bytes.declared.fault.Fault.TheVariants as faults
use Rattle.cjc_group.specs.Bytes.declared.fault.Refusal.{Refusal}
use Rattle.cjc_cmd_card.specs.Report.Runs as alone
use Rattle.cjc_cmd_card.specs.declared.running.input.Input.{Input}
use Rattle.cjc_cmd_card.specs.LowerJudge.Rules.{IsFirstRefused}
use Rattle.cjc_link_semantics.specs.JvmSemantics.Group.{joint}
use Rattle.cjc_cmd_card.specs.LowerScriptText.Scripted.{scripted}
use Rattle.cjc_group.specs.World.Classes.{all_classes}
use Rattle.cjc_group.specs.World.Rules.{has_cycle}
use Rattle.cjc_cmd_link.specs.Members.{AreLinked}
use Rattle.cjc_cmd_link.specs.declared.reads.GroupInput.{GroupInput}
use Rattle.cjc_group.specs.Members.{Member as Linked}
use Rattle.cjc_group.specs.Missing.{missing}
use Rattle.cjc_group.specs.Rules.{breaks}

-- ---- each by itself

-- A part is refused: the package at this place, as the command that runs one answers it; or the script of this name,
-- whose place is behind all packages.
pub data PartRefused (input : GroupInput) (name : List ℕ) (part : ℕ) (r : Refusal) : Type 0 where
  of_member : (m : Input) → slice_get input.members part ≡ Some m → IsFirstRefused (alone.AnyBreaks m []) r
      → PartRefused input name part r
  of_script : part ≡ length input.members → scripted name input.script ≡ Err r → PartRefused input name part r

-- no part is refused
abbrev pub NoPart : GroupInput → (name : List ℕ) → Type 0
NoPart input name = (part : ℕ) (r : Refusal) → PartRefused input name part r → ⊥

-- the hundreds digit of the rule, and then the part; the first number that differs decides
abbrev pub key : (part : ℕ) → Refusal → List ℕ
key part r = (r.rule.0 / 100) ∷ part ∷ []

-- Of the refusals of parts it is one that stands behind no other.
pub record IsFirstPart (Refused : (part : ℕ) → Refusal → Type 0) (r : Refusal) : Type 0 where
  pub part : ℕ
  pub refused : Refused part r
  pub least : (other : ℕ) (s : Refusal) → Refused other s → AreUpTo (key part r) (key other s)

-- ---- all together

-- what the packages break of this together
abbrev pub Breaks : (List Linked → List Break) → GroupInput → Break → Type 0
Breaks broken input b = (group : List Linked) × AreLinked input.members group × Among b (broken group)

-- they break nothing of it
abbrev pub BreakNone : (List Linked → List Break) → GroupInput → Type 0
BreakNone broken input = (b : Break) → Breaks broken input b → ⊥

-- 731 to 735: what the packages do not agree on
abbrev pub BreaksTogether : GroupInput → Break → Type 0
BreaksTogether input b = Breaks breaks input b

-- the packages agree
abbrev pub AreAgreed : GroupInput → Type 0
AreAgreed input = BreakNone breaks input

-- 203: a class implements an interface below one that no file of its package has, and a file of another package does
abbrev pub BreaksMissing : GroupInput → Break → Type 0
BreaksMissing input b = Breaks missing input b

-- no class does
abbrev pub MissNone : GroupInput → Type 0
MissNone input = BreakNone missing input

-- 204: the export files of packages outside the group, which no package of it imports all, put a class above itself
abbrev pub HasCycle : GroupInput → Type 0
HasCycle input = (group : List Linked) × AreLinked input.members group
    × (has_cycle (all_classes (joint (map (λ (m : Linked). m.files) group))) ≡ true)

-- What is answered of what was read, where the text that names the packages has this name and the script that.
pub data IsRefused (input : GroupInput) (name script : List ℕ) (r : Refusal) : Type 0 where
  by_part : IsFirstPart (PartRefused input script) r → IsRefused input name script r
  by_group : NoPart input script → IsFirstRefused (BreaksTogether input) r → IsRefused input name script r
  by_missing : NoPart input script → AreAgreed input → IsFirstRefused (BreaksMissing input) r
      → IsRefused input name script r
  by_cycle : NoPart input script → AreAgreed input → MissNone input → HasCycle input → r ≡ refusal name 204 0
      → IsRefused input name script r

-- The error is a refusal of which this holds, or that memory ran out.
abbrev pub IsFault : (Refusal → Type 0) → Fault → Type 0
IsFault Holds e = (e ≡ faults.NoMemory) ⊎ ((r : Refusal) × Holds r × (e ≡ faults.Refused r))
