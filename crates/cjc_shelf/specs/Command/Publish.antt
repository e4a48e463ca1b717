-- The writing half of a command, which is the same for all.
use Rattle.std.specs.Prelude.{◌≡◌, false, bytes_eq, ℕ, ◌≤◌, ◌<◌, List, [], ◌∷◌, ◌++◌, length, take, slice_index_or}
use Rattle.std.specs.Prelude.{Option, Some, IfSome, IsSomeAnd, IfErr, Result, Ok, Err}
use Rattle.std.specs.List.{concat}
use Rattle.std.specs.FinMap.{get, insert}
use Rattle.cjc_shelf.specs.declared.command.status.File.{File}
use Rattle.cjc_shelf.specs.Count.{Rose}
use Rattle.cjc_shelf.specs.Shelf.{Files, Shelved, SameBut, GoesOn}
use Rattle.cjc_shelf.specs.Sink.{Sunk}
use Rattle.cjc_shelf.specs.declared.shelf.WriteEnd.{WriteEnd}
use Rattle.cjc_shelf.specs.declared.shelf.WriteEnd.TheVariants as write
use Rattle.cjc_shelf.specs.declared.command.publishing.Stop.{Stop}
use Rattle.cjc_shelf.specs.declared.command.status.Status.{Status}
use Rattle.cjc_shelf.specs.declared.command.status.Status.TheVariants as status
use Rattle.cjc_shelf.specs.declared.command.status.Todo.{Todo}

-- the files after these are written, the first of them first
abbrev pub written_files : List File → Files → Files
written_files [] files = files
written_files (file ∷ rest) files = written_files rest (insert files file.name file.bytes)

-- all that is printed
abbrev pub text_of : Todo → List ℕ
text_of todo = concat todo.lines

-- the name of the file at an index
abbrev pub name_at : List File → ℕ → List ℕ
name_at list at = (slice_index_or list at (record { name = []; bytes = [] })).name

-- Why a write stopped all.
abbrev pub EndCause : Shelved → Shelved → WriteEnd → Type 0
EndCause old new write.Failed = Rose old.faults new.faults
EndCause old new write.NoMemory = Rose old.wants new.wants

-- The files before the index are written. What stands under the next name is unknown, or, for want of memory, as
-- before.
abbrev pub EndTold : List File → Files → Shelved → ℕ → WriteEnd → Type 0
EndTold list files new at write.Failed = (new.last ≡ name_at list at)
    × IsSomeAnd new.files (SameBut (name_at list at) (written_files (take at list) files))
EndTold list files new at write.NoMemory = new.files ≡ Some (written_files (take at list) files)

-- What the writes make of the files: all are written, or those before the one that stopped them.
abbrev pub WriteAllTold : {T : Type 0} → List File → Files → Shelved → Result T Stop → Type 0
WriteAllTold list files new (Ok done) = new.files ≡ Some (written_files list files)
WriteAllTold list files new (Err stop) = EndTold list files new stop.at stop.end

-- The files are written in order: all of them, or up to one of them at which a write failed or wanted memory.
pub record WritesAll {T : Type 0} (list : List File) (old new : Shelved) (result : Result T Stop) : Type 0 where
  pub goes_on : GoesOn old new
  pub within : IfErr result (λ stop. stop.at < length list)
  pub cause : IfErr result (λ stop. EndCause old new stop.end)
  pub told : IfSome old.files (λ files. WriteAllTold list files new result)

-- the answer for a write that stopped
abbrev pub status_of : List File → ℕ → WriteEnd → Status
status_of list at write.Failed = status.ShelfFault (name_at list at)
status_of list at write.NoMemory = status.NoMemory

-- The files before one are written, what stands under its name is unknown, and the others are as before.
pub record BreaksOff (told : Option Files) (todo : Todo) (name : List ℕ) (new : Shelved) : Type 0 where
  pub count : ℕ
  pub within : count < length todo.files
  pub named : name_at todo.files count ≡ name
  pub written : IfSome told (λ files. (new.last ≡ name)
      × IsSomeAnd new.files (SameBut name (written_files (take count todo.files) files)))

-- The files before one are written, and it and the others are as before.
pub record LacksRoom (told : Option Files) (todo : Todo) (new : Shelved) : Type 0 where
  pub count : ℕ
  pub within : count < length todo.files
  pub written : IfSome told (λ files. new.files ≡ Some (written_files (take count todo.files) files))

-- All files are written, where the shelf tells them.
abbrev pub IsWritten : Option Files → Todo → Shelved → Type 0
IsWritten told todo new = IfSome told (λ files. new.files ≡ Some (written_files todo.files files))

-- Each of these files stands under its name.
abbrev pub Stand : Files → List File → Type 0
Stand files [] = Unit {0}
Stand files (file ∷ rest) = (get files file.name ≡ Some file.bytes) × Stand files rest

-- The name is none of the files' names.
abbrev pub IsNew : List ℕ → List File → Type 0
IsNew name [] = Unit {0}
IsNew name (file ∷ files) = (bytes_eq name file.name ≡ false) × IsNew name files

-- No name stands twice.
abbrev pub AreDistinct : List File → Type 0
AreDistinct [] = Unit {0}
AreDistinct (file ∷ files) = IsNew file.name files × AreDistinct files

-- All of the text is printed, where the sink tells it.
abbrev pub IsPrinted : Todo → Sunk → Sunk → Type 0
IsPrinted todo from to = IfSome from.written (λ before. to.written ≡ Some (before ++ text_of todo))

-- A prefix of the text is printed, where the sink tells it.
abbrev pub IsPartlyPrinted : Todo → Sunk → Sunk → Type 0
IsPartlyPrinted todo from to = IfSome from.written (λ before. (count : ℕ)
    × (to.written ≡ Some (before ++ take count (text_of todo))))

-- Something is printed at Done and at SinkFault alone.
abbrev pub Quiet : Sunk → Sunk → Status → Type 0
Quiet from to status.Done = Unit {0}
Quiet from to status.SinkFault = Unit {0}
Quiet from to status.Usage = to ≡ from
Quiet from to (status.Refused r) = to ≡ from
Quiet from to (status.Absent name) = to ≡ from
Quiet from to (status.TooLong name) = to ≡ from
Quiet from to (status.ShelfFault name) = to ≡ from
Quiet from to status.NoMemory = to ≡ from

-- Why the writing half ended as it did, over each shelf and sink. The other answers are no such end.
abbrev pub PublishCause : Shelved → Shelved → Sunk → Sunk → Status → Type 0
PublishCause old new from to status.Done = Unit {0}
PublishCause old new from to status.SinkFault = Rose from.faults to.faults
PublishCause old new from to (status.ShelfFault name) = Rose old.faults new.faults
PublishCause old new from to status.NoMemory = Rose old.wants new.wants
PublishCause old new from to status.Usage = ⊥
PublishCause old new from to (status.Refused r) = ⊥
PublishCause old new from to (status.Absent name) = ⊥
PublishCause old new from to (status.TooLong name) = ⊥

-- What stands and what is printed at each end.
abbrev pub PublishEnds : Option Files → Todo → Shelved → Sunk → Sunk → Status → Type 0
PublishEnds told todo new from to status.Done = IsWritten told todo new × IsPrinted todo from to
PublishEnds told todo new from to status.SinkFault = IsWritten told todo new × IsPartlyPrinted todo from to
PublishEnds told todo new from to (status.ShelfFault name) = BreaksOff told todo name new
PublishEnds told todo new from to status.NoMemory = LacksRoom told todo new
PublishEnds told todo new from to status.Usage = ⊥
PublishEnds told todo new from to (status.Refused r) = ⊥
PublishEnds told todo new from to (status.Absent name) = ⊥
PublishEnds told todo new from to (status.TooLong name) = ⊥

-- The files are written and then the text is printed, or the status says what stopped that; no count falls.
pub record Publishes (todo : Todo) (old new : Shelved) (from to : Sunk) (status : Status) : Type 0 where
  pub goes_on : GoesOn old new
  pub sink_goes_on : from.faults ≤ to.faults
  pub cause : PublishCause old new from to status
  pub quiet : Quiet from to status
  pub ends : PublishEnds old.files todo new from to status
