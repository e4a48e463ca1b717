-- What a command is, and what each answer of a run of it says.
use Rattle.std.specs.Prelude.{◌≡◌, ◌≢◌, ◌⊎◌, ℕ, ◌+◌, ◌<◌, List, length, Option, Some, None, IfSome, IfNone, IsSomeAnd}
use Rattle.std.specs.Prelude.{Result, Ok, Err}
use Rattle.std.specs.FinMap.{get}
use Rattle.cjc_bytes.specs.declared.fault.Refusal.{Refusal}
use Rattle.cjc_shelf.specs.Count.{Rose}
use Rattle.cjc_shelf.specs.Shelf.{Files, Shelved, longest_file}
use Rattle.cjc_shelf.specs.Sink.{Sunk}
use Rattle.cjc_shelf.specs.Command.Plan.{Plan, Verdict, EndsBy, IsRead, known_end, absent, too_long, refused, complete}
use Rattle.cjc_shelf.specs.Command.Gather.{IsLast, StaysOrReads}
use Rattle.cjc_shelf.specs.Command.Publish.{Quiet, BreaksOff, LacksRoom, IsWritten, IsPrinted, IsPartlyPrinted}
use Rattle.cjc_shelf.specs.declared.command.status.Status.{Status}
use Rattle.cjc_shelf.specs.declared.command.status.Status.TheVariants as status
use Rattle.cjc_shelf.specs.declared.command.status.Todo.{Todo}

-- What a command reads, and what it makes of all that it read, or which rule that breaks first.
pub record Command : Type 1 where
  pub Inputs : Type 0
  pub plan : Plan Inputs
  pub Makes : Inputs → Result Todo Refusal → Type 0

-- Why the answer came, over each shelf and each sink.
abbrev pub Cause : Shelved → Shelved → Sunk → Sunk → Status → Type 0
Cause old new from to (status.Absent name) = Rose old.misses new.misses
Cause old new from to (status.TooLong name) = IfNone old.files (new.taken ≡ longest_file + 1)
Cause old new from to (status.ShelfFault name) = Rose old.faults new.faults
Cause old new from to status.SinkFault = Rose from.faults to.faults
Cause old new from to (status.Refused r) = Unit {0}
Cause old new from to status.NoMemory = Unit {0}
Cause old new from to status.Done = Unit {0}
Cause old new from to status.Usage = Unit {0}

-- All was read, no rule is broken, and this is to be written and printed.
pub record IsReady (command : Command) (told : Option Files) (todo : Todo) : Type 0 where
  pub inputs : command.Inputs
  pub read : EndsBy told command.plan (complete inputs)
  pub made : command.Makes inputs (Ok todo)

-- A rule is broken, by a list that was read or by all that was read.
abbrev pub IsRefused : Command → Option Files → Refusal → Type 0
IsRefused command told r =
    EndsBy told command.plan (refused r) ⊎ ((inputs : command.Inputs) × EndsBy told command.plan (complete inputs)
    × command.Makes inputs (Err r))

-- The name is one that the command reads and the last that was read. The files are as before.
pub record StopsAt (command : Command) (name : List ℕ) (old new : Shelved) : Type 0 where
  pub is_read : IsRead old.files command.plan name
  pub last : IsLast old.files name new
  pub kept : new.files ≡ old.files

-- No write was begun: the files and the count of wants are as before, and the last name is the one before or one that
-- the command reads. A write under such a name can't be told from a read by this.
pub record NothingBegun (command : Command) (old new : Shelved) : Type 0 where
  pub kept : new.files ≡ old.files
  pub wants : new.wants ≡ old.wants
  pub last : StaysOrReads old.files command.plan old new

-- What each answer says over each shelf and each sink: of the files where the shelf tells them, and of what is printed
-- where the sink tells it.
abbrev pub Answers : Command → Shelved → Shelved → Sunk → Sunk → Status → Type 0
Answers command old new from to status.Usage = ⊥
Answers command old new from to (status.Refused r) = IsRefused command old.files r × (new.files ≡ old.files)
Answers command old new from to (status.Absent name) =
    EndsBy old.files command.plan (absent name) × StopsAt command name old new
    × IfSome old.files (λ files. get files name ≡ None)
Answers command old new from to (status.TooLong name) =
    EndsBy old.files command.plan (too_long name) × StopsAt command name old new
    × IfSome old.files (λ files. IsSomeAnd (get files name) (λ bytes. longest_file < length bytes))
Answers command old new from to (status.ShelfFault name) =
    StopsAt command name old new ⊎ ((todo : Todo) × IsReady command old.files todo × BreaksOff old.files todo name new)
Answers command old new from to status.NoMemory =
    NothingBegun command old new ⊎ ((todo : Todo) × IsReady command old.files todo × LacksRoom old.files todo new
    × Rose old.wants new.wants)
Answers command old new from to status.SinkFault =
    (todo : Todo) × IsReady command old.files todo × IsWritten old.files todo new × IsPartlyPrinted todo from to
Answers command old new from to status.Done =
    (todo : Todo) × IsReady command old.files todo × IsWritten old.files todo new × IsPrinted todo from to

-- What is made of the inputs gives this answer, want of memory and faults aside.
abbrev pub IsMade : (Result Todo Refusal → Type 0) → Status → Type 0
IsMade Makes (status.Refused r) = Makes (Err r)
IsMade Makes status.Done = (todo : Todo) × Makes (Ok todo)
IsMade Makes (status.Absent name) = ⊥
IsMade Makes (status.TooLong name) = ⊥
IsMade Makes status.Usage = ⊥
IsMade Makes (status.ShelfFault name) = ⊥
IsMade Makes status.SinkFault = ⊥
IsMade Makes status.NoMemory = ⊥

-- How the plan ends decides this answer, want of memory and faults aside.
abbrev pub Decides : (command : Command) → Verdict command.Inputs → Status → Type 0
Decides command (absent name) answer = answer ≡ status.Absent name
Decides command (too_long name) answer = answer ≡ status.TooLong name
Decides command (refused r) answer = answer ≡ status.Refused r
Decides command (complete inputs) answer = IsMade (command.Makes inputs) answer

-- Where no fault count rises and the end of the plan is known, it decides the answer.
abbrev pub IsDecided : Command → Shelved → Shelved → Sunk → Sunk → Status → Type 0
IsDecided command old new from to answer =
    (Rose old.faults new.faults → ⊥) → (Rose from.faults to.faults → ⊥)
    → IfSome (known_end old.files command.plan) (λ end. (answer ≡ status.NoMemory) ⊎ Decides command end answer)

-- Where moreover all is read and no rule is broken, all is done.
abbrev pub IsComplete : Command → Shelved → Shelved → Sunk → Sunk → Status → Type 0
IsComplete command old new from to answer =
    (Rose old.faults new.faults → ⊥) → (Rose from.faults to.faults → ⊥)
    → IfSome (known_end old.files command.plan) (λ end. (inputs : command.Inputs) → end ≡ complete inputs
    → ((r : Refusal) → command.Makes inputs (Err r) → ⊥) → (answer ≡ status.NoMemory) ⊎ (answer ≡ status.Done))

-- A run over these files, where the shelf tells them, no fault count rises and memory is there, ends so.
pub record IsEndOver (command : Command) (files : Files) (answer : Status) : Type 0 where
  pub old : Shelved
  pub new : Shelved
  pub from : Sunk
  pub to : Sunk
  pub told : old.files ≡ Some files
  pub shelf : Rose old.faults new.faults → ⊥
  pub sink : Rose from.faults to.faults → ⊥
  pub memory : answer ≢ status.NoMemory
  pub decided : IsDecided command old new from to answer

-- What acting on a command gives.
pub record Acts (command : Command) (old new : Shelved) (from to : Sunk) (answer : Status) : Type 0 where
  pub form : answer ≢ status.Usage
  pub cause : Cause old new from to answer
  pub quiet : Quiet from to answer
  pub answers : Answers command old new from to answer

-- the exit statuses, in the order of the answers
abbrev pub code_of : Status → ℕ
code_of status.Done = 0
code_of status.Usage = 1
code_of (status.Refused r) = 2
code_of (status.Absent name) = 3
code_of (status.TooLong name) = 4
code_of (status.ShelfFault name) = 5
code_of status.SinkFault = 6
code_of status.NoMemory = 7
