-- The reading half of a command: what it says of the shelf, whatever it computes.
use Rattle.std.specs.Prelude.{◌≡◌, ◌⊎◌, ◌+◌, ◌≤◌, ℕ, List, All, length, IfSome, IfNone, Contains, Result, Ok, Err}
use Rattle.cjc_bytes.specs.declared.fault.Fault.{Fault}
use Rattle.cjc_bytes.specs.declared.fault.Fault.TheVariants as faults
use Rattle.cjc_bytes.specs.declared.fault.Refusal.{Refusal}
use Rattle.cjc_shelf.specs.Count.{Rose}
use Rattle.cjc_shelf.specs.Shelf.{Files, Shelved, GoesOn}
use Rattle.cjc_shelf.specs.declared.shelf.TheConstants.{LONGEST}
use Rattle.cjc_command.specs.Plan.{Plan, verdict, names_read, absent, too_long, refused, complete}
use Rattle.cjc_command.specs.declared.status.Status.{Status}
use Rattle.cjc_command.specs.declared.status.Status.TheVariants as status

-- Why nothing was gathered, over each shelf. The other answers are no such end.
abbrev pub StopCause : Shelved → Shelved → Status → Type 0
StopCause old new (status.Refused r) = Unit {0}
StopCause old new (status.Absent name) = Rose old.misses new.misses
StopCause old new (status.TooLong name) = IfNone old.files (new.taken ≡ LONGEST + 1)
StopCause old new (status.ShelfFault name) = Rose old.faults new.faults
StopCause old new status.NoMemory = Unit {0}
StopCause old new status.Done = ⊥
StopCause old new status.Usage = ⊥
StopCause old new status.SinkFault = ⊥

abbrev pub GatherCause : {T : Type 0} → Shelved → Shelved → Result T Status → Type 0
GatherCause old new (Ok made) = Unit {0}
GatherCause old new (Err end) = StopCause old new end

-- Why nothing was gathered, by the files. P says what is made of all that was read, or which rule that breaks.
abbrev pub StopTold : {X T : Type 0} → Plan X → (X → Result T Refusal → Type 0) → Files → Shelved → Status → Type 0
StopTold {X} plan P files new (status.Refused r) = (verdict files plan ≡ refused r) ⊎ ((x : X) × (verdict files plan ≡ complete x) × P x (Err r))
StopTold plan P files new (status.Absent name) = (verdict files plan ≡ absent name) × (new.last ≡ name)
StopTold plan P files new (status.TooLong name) = (verdict files plan ≡ too_long name) × (new.last ≡ name)
StopTold plan P files new (status.ShelfFault name) = Contains (names_read files plan) name × (new.last ≡ name)
StopTold plan P files new status.NoMemory = Unit {0}
StopTold plan P files new status.Done = ⊥
StopTold plan P files new status.Usage = ⊥
StopTold plan P files new status.SinkFault = ⊥

abbrev pub GatherTold : {X T : Type 0} → Plan X → (X → Result T Refusal → Type 0) → Files → Shelved → Result T Status → Type 0
GatherTold {X} plan P files new (Ok made) = (x : X) × (verdict files plan ≡ complete x) × P x (Ok made)
GatherTold plan P files new (Err end) = StopTold plan P files new end

-- Only reads were made, and they followed the plan.
pub record Gathers {X T : Type 0} (plan : Plan X) (P : X → Result T Refusal → Type 0) (old new : Shelved) (result : Result T Status) : Type 0 where
  pub goes_on : GoesOn old new
  pub files : new.files ≡ old.files
  pub wants : new.wants ≡ old.wants
  pub cause : GatherCause old new result
  pub told : IfSome old.files (λ files. GatherTold plan P files new result)

-- what was read is handed on as it is
abbrev pub IsSame : {X : Type 0} → X → Result X Refusal → Type 0
IsSame x result = result ≡ Ok x

-- What was computed of all that was read, without the shelf.
abbrev pub Judged : {T : Type 0} → (Result T Refusal → Type 0) → Result T Status → Type 0
Judged P (Ok made) = P (Ok made)
Judged P (Err (status.Refused r)) = P (Err r)
Judged P (Err status.NoMemory) = Unit {0}
Judged P (Err status.Done) = ⊥
Judged P (Err status.Usage) = ⊥
Judged P (Err (status.Absent name)) = ⊥
Judged P (Err (status.TooLong name)) = ⊥
Judged P (Err (status.ShelfFault name)) = ⊥
Judged P (Err status.SinkFault) = ⊥

-- the answer for a fault
abbrev pub status_of_fault : Fault → Status
status_of_fault (faults.Refused r) = status.Refused r
status_of_fault faults.NoMemory = status.NoMemory

-- No file is longer than those that are read.
abbrev pub AreShort : List (List ℕ) → Type 0
AreShort files = All (λ bytes. length bytes ≤ LONGEST) files
