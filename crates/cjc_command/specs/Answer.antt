-- What a command is, and what each answer of a run of it says.
use Rattle.std.specs.Prelude.{◌≡◌, ◌≢◌, ◌⊎◌, ℕ, ◌+◌, ◌<◌, List, length, Some, None, IfSome, IfNone, IsSomeAnd, Contains, Result, Ok, Err}
use Rattle.std.specs.FinMap.{get}
use Rattle.cjc_bytes.specs.declared.fault.Refusal.{Refusal}
use Rattle.cjc_shelf.specs.Count.{Rose}
use Rattle.cjc_shelf.specs.Shelf.{Files, Shelved}
use Rattle.cjc_shelf.specs.Sink.{Sunk}
use Rattle.cjc_shelf.specs.declared.shelf.TheConstants.{LONGEST}
use Rattle.cjc_command.specs.Plan.{Plan, verdict, names_read, absent, too_long, refused, complete}
use Rattle.cjc_command.specs.Publish.{Quiet, BreaksOff, LacksRoom, IsWritten, IsPrinted, IsPartlyPrinted}
use Rattle.cjc_command.specs.declared.status.Status.{Status}
use Rattle.cjc_command.specs.declared.status.Status.TheVariants as status
use Rattle.cjc_command.specs.declared.status.Todo.{Todo}

-- What a command reads, and what it makes of all that it read, or which rule that breaks first.
pub record Command : Type 1 where
  pub Inputs : Type 0
  pub plan : Plan Inputs
  pub Makes : Inputs → Result Todo Refusal → Type 0

-- Why the answer came, over each shelf and each sink.
abbrev pub Cause : Shelved → Shelved → Sunk → Sunk → Status → Type 0
Cause old new from to (status.Absent name) = Rose old.misses new.misses
Cause old new from to (status.TooLong name) = IfNone old.files (new.taken ≡ LONGEST + 1)
Cause old new from to (status.ShelfFault name) = Rose old.faults new.faults
Cause old new from to status.SinkFault = Rose from.faults to.faults
Cause old new from to (status.Refused r) = Unit {0}
Cause old new from to status.NoMemory = Unit {0}
Cause old new from to status.Done = Unit {0}
Cause old new from to status.Usage = Unit {0}

-- All files were read, no rule is broken, and this is to be written and printed.
pub record IsReady (command : Command) (files : Files) (todo : Todo) : Type 0 where
  pub inputs : command.Inputs
  pub read : verdict files command.plan ≡ complete inputs
  pub made : command.Makes inputs (Ok todo)

-- A rule is broken, by a list that was read or by all that was read.
abbrev pub IsRefused : Command → Files → Refusal → Type 0
IsRefused command files r =
    (verdict files command.plan ≡ refused r)
    ⊎ ((inputs : command.Inputs) × (verdict files command.plan ≡ complete inputs) × command.Makes inputs (Err r))

-- This name is the last that was read, and one that the command reads.
pub record StopsAt (command : Command) (files : Files) (name : List ℕ) (new : Shelved) : Type 0 where
  pub last : new.last ≡ name
  pub is_read : Contains (names_read files command.plan) name
  pub kept : new.files ≡ Some files

-- Over a shelf that tells its files, and where it does a sink that tells what it got.
abbrev pub Answers : Command → Files → Shelved → Shelved → Sunk → Sunk → Status → Type 0
Answers command files old new from to status.Usage = ⊥
Answers command files old new from to (status.Refused r) = IsRefused command files r × (new.files ≡ Some files)
Answers command files old new from to (status.Absent name) =
    (verdict files command.plan ≡ absent name) × StopsAt command files name new × (get files name ≡ None)
Answers command files old new from to (status.TooLong name) =
    (verdict files command.plan ≡ too_long name) × StopsAt command files name new × IsSomeAnd (get files name) (λ bytes. LONGEST < length bytes)
Answers command files old new from to (status.ShelfFault name) =
    StopsAt command files name new ⊎ ((todo : Todo) × IsReady command files todo × BreaksOff files todo name new)
Answers command files old new from to status.NoMemory =
    (new.files ≡ Some files) ⊎ ((todo : Todo) × IsReady command files todo × LacksRoom files todo new × Rose old.wants new.wants)
Answers command files old new from to status.SinkFault =
    (todo : Todo) × IsReady command files todo × IsWritten files todo new × IsPartlyPrinted todo from to
Answers command files old new from to status.Done =
    (todo : Todo) × IsReady command files todo × IsWritten files todo new × IsPrinted todo from to

-- What the words and the told files decide, want of memory and faults aside.
abbrev pub Decides : Command → Files → Status → Type 0
Decides command files (status.Absent name) = verdict files command.plan ≡ absent name
Decides command files (status.TooLong name) = verdict files command.plan ≡ too_long name
Decides command files (status.Refused r) = IsRefused command files r
Decides command files status.Done = (todo : Todo) × IsReady command files todo
Decides command files status.Usage = ⊥
Decides command files (status.ShelfFault name) = ⊥
Decides command files status.SinkFault = ⊥
Decides command files status.NoMemory = ⊥

-- What acting on a command gives.
pub record Acts (command : Command) (old new : Shelved) (from to : Sunk) (answer : Status) : Type 0 where
  pub form : answer ≢ status.Usage
  pub cause : Cause old new from to answer
  pub quiet : Quiet from to answer
  pub told : IfSome old.files (λ files. Answers command files old new from to answer)

-- the exit statuses, in the order of the answers
abbrev pub code_of : Status → ℕ
code_of status.Done = 0
code_of status.Usage = 1
code_of (status.Refused r) = 2
code_of (status.Absent name) = 3
code_of (status.TooLong name) = 4
code_of (status.ShelfFault name) = 5
code_of status.SinkFault = 6
code_of status.NoMemory = 7
