-- The reading half of a command: what it says of the shelf, whatever it computes.
use Rattle.std.specs.Prelude.{◌≡◌, ◌⊎◌, ◌+◌, ◌≤◌, ℕ, List, All, length, Option, IfSome, IfNone, Contains, Result, Ok}
use Rattle.std.specs.Prelude.{Err}
use Rattle.cjc_bytes.specs.declared.fault.Fault.{Fault}
use Rattle.cjc_bytes.specs.declared.fault.Fault.TheVariants as faults
use Rattle.cjc_bytes.specs.declared.fault.Refusal.{Refusal}
use Rattle.cjc_shelf.specs.Count.{Rose}
use Rattle.cjc_shelf.specs.Shelf.{Files, Shelved, GoesOn, longest_file}
use Rattle.cjc_shelf.specs.Command.Plan.{Plan, names_read, EndsBy, IsRead, absent, too_long, refused, complete}
use Rattle.cjc_shelf.specs.declared.command.status.Status.{Status}
use Rattle.cjc_shelf.specs.declared.command.status.Status.TheVariants as status

-- Why nothing was gathered, over each shelf. The other answers are no such end.
abbrev pub StopCause : Shelved → Shelved → Status → Type 0
StopCause old new (status.Refused r) = Unit {0}
StopCause old new (status.Absent name) = Rose old.misses new.misses
StopCause old new (status.TooLong name) = IfNone old.files (new.taken ≡ longest_file + 1)
StopCause old new (status.ShelfFault name) = Rose old.faults new.faults
StopCause old new status.NoMemory = Unit {0}
StopCause old new status.Done = ⊥
StopCause old new status.Usage = ⊥
StopCause old new status.SinkFault = ⊥

-- Why the reading half ended as it did, over each shelf. All that was asked for needs no cause.
abbrev pub GatherCause : {T : Type 0} → Shelved → Shelved → Result T Status → Type 0
GatherCause old new (Ok made) = Unit {0}
GatherCause old new (Err end) = StopCause old new end

-- The name is the last that was read, where the shelf tells its files.
abbrev pub IsLast : Option Files → List ℕ → Shelved → Type 0
IsLast told name new = IfSome told (λ files. new.last ≡ name)

-- The last name is the one before, or one that the plan reads, where the shelf tells its files.
abbrev pub StaysOrReads : {X : Type 0} → Option Files → Plan X → Shelved → Shelved → Type 0
StaysOrReads told plan old new = IfSome told (λ files. (new.last ≡ old.last)
    ⊎ Contains (names_read files plan) new.last)

-- Where the plan ended when nothing was gathered. P says what is made of all that was read, or which rule that breaks.
abbrev pub StopEnds : {X T : Type 0} → Plan X → (X → Result T Refusal → Type 0) → Option Files → Shelved → Status
    → Type 0
StopEnds {X} plan P told new (status.Refused r) = EndsBy told plan (refused r)
    ⊎ ((x : X) × EndsBy told plan (complete x) × P x (Err r))
StopEnds plan P told new (status.Absent name) = EndsBy told plan (absent name) × IsLast told name new
StopEnds plan P told new (status.TooLong name) = EndsBy told plan (too_long name) × IsLast told name new
StopEnds plan P told new (status.ShelfFault name) = IsRead told plan name × IsLast told name new
StopEnds plan P told new status.NoMemory = Unit {0}
StopEnds plan P told new status.Done = ⊥
StopEnds plan P told new status.Usage = ⊥
StopEnds plan P told new status.SinkFault = ⊥

-- Where the plan ended.
abbrev pub GatherEnds : {X T : Type 0} → Plan X → (X → Result T Refusal → Type 0) → Option Files → Shelved
    → Result T Status → Type 0
GatherEnds {X} plan P told new (Ok made) = (x : X) × EndsBy told plan (complete x) × P x (Ok made)
GatherEnds plan P told new (Err end) = StopEnds plan P told new end

-- The shelf is as after reads alone: the files and the count of wants stay. The end is that of the plan, by the
-- files where they are told, and what was made of its inputs is as P says.
pub record Gathers {X T : Type 0} (plan : Plan X) (P : X → Result T Refusal → Type 0) (old new : Shelved)
    (result : Result T Status) : Type 0 where
  pub goes_on : GoesOn old new
  pub files : new.files ≡ old.files
  pub wants : new.wants ≡ old.wants
  pub last : StaysOrReads old.files plan old new
  pub cause : GatherCause old new result
  pub ends : GatherEnds plan P old.files new result

-- what was read is handed on as it is
abbrev pub IsSame : {X : Type 0} → X → Result X Refusal → Type 0
IsSame x result = result ≡ Ok x

-- What was computed of all that was read, without the shelf.
abbrev pub Judged : {T : Type 0} → (Result T Refusal → Type 0) → Result T Status → Type 0
Judged P (Ok made) = P (Ok made)
Judged P (Err (status.Refused r)) = P (Err r)
Judged P (Err status.NoMemory) = Unit {0}
Judged P (Err status.Done) = ⊥
Judged P (Err status.Usage) = ⊥
Judged P (Err (status.Absent name)) = ⊥
Judged P (Err (status.TooLong name)) = ⊥
Judged P (Err (status.ShelfFault name)) = ⊥
Judged P (Err status.SinkFault) = ⊥

-- the answer for a fault
abbrev pub status_of_fault : Fault → Status
status_of_fault (faults.Refused r) = status.Refused r
status_of_fault faults.NoMemory = status.NoMemory

-- No file is longer than those that are read.
abbrev pub AreShort : List (List ℕ) → Type 0
AreShort files = All (λ bytes. length bytes ≤ longest_file) files
