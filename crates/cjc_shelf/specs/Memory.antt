-- What a shelf in memory tells, and which of its calls fail.
use Rattle.std.specs.Prelude.{◌≡◌, ℕ, ◌+◌, ◌-◌, ◌^◌, min, List, [], Contains, Option, Some, None, Result, Ok, Err}
use Rattle.std.specs.FinMap.{from_entries, empty, insert}
use Rattle.cjc_shelf.specs.Shelf.{Files, Shelved}
use Rattle.cjc_shelf.specs.declared.memory.Store.{Store}
use Rattle.cjc_shelf.specs.declared.memory.MemShelf.{MemShelf}
use Rattle.cjc_shelf.specs.declared.memory.CleanShelf.{CleanShelf}
use Rattle.cjc_shelf.specs.declared.shelf.ReadEnd.{ReadEnd}
use Rattle.cjc_shelf.specs.declared.shelf.ReadEnd.TheVariants as read
use Rattle.cjc_shelf.specs.declared.shelf.WriteEnd.{WriteEnd}
use Rattle.cjc_shelf.specs.declared.shelf.WriteEnd.TheVariants as write

-- the files that a shelf tells, and none where it doesn't
abbrev pub told_files : Option Files → Files
told_files (Some files) = files
told_files None = empty

-- the files that are known of a shelf, and none where it tells none
abbrev pub files_of : Shelved → Files
files_of s = told_files s.files

-- no files, and no call so far
abbrev pub shelf_at_first : Shelved
shelf_at_first = record { files = Some empty; last = []; misses = 0; faults = 0; wants = 0; taken = 0 }

-- with these bytes under the name
abbrev pub with_file : List ℕ → List ℕ → Shelved → Shelved
with_file name bytes s = record s { files = Some (insert (files_of s) name bytes) }

-- what a log of writes stands for, the newest first
abbrev pub store_files : Store → Files
store_files s = from_entries s.log.items

-- what is known of a store whose shelf has failed so often: all its files and counts
abbrev pub store_shelved : Store → ℕ → Shelved
store_shelved s faults = record {
  files = Some (store_files s);
  last = s.last;
  misses = s.misses;
  faults = faults;
  wants = s.wants;
  taken = s.taken;
}

-- what is known of a shelf in memory, some of whose calls may be to fail
abbrev pub mem_shelved : MemShelf → Shelved
mem_shelved m = store_shelved m.store m.faults

-- what is known of a shelf in memory that never fails
abbrev pub clean_shelved : CleanShelf → Shelved
clean_shelved c = store_shelved c.store 0

-- the numbers of the calls that are to fail, reads and writes together
abbrev pub failing_calls : MemShelf → List ℕ
failing_calls m = m.failing

-- the number of the next call
abbrev pub next_call : MemShelf → ℕ
next_call m = m.calls

-- Nothing was read or written, and these calls are to fail.
pub record IsNewShelf (listed : List ℕ) (m : MemShelf) : Type 0 where
  pub shelved : mem_shelved m ≡ shelf_at_first
  pub failing : failing_calls m ≡ listed
  pub first : next_call m ≡ 0

-- the next call is to fail
abbrev pub IsListed : MemShelf → Type 0
IsListed m = Contains (failing_calls m) (next_call m)

-- A call is counted, and no fault is where its number is not listed.
pub record CallInMemory (old new : MemShelf) : Type 0 where
  pub next : next_call new ≡ min (next_call old + 1) (2 ^ 64 - 1)
  pub failing : failing_calls new ≡ failing_calls old
  pub spared : (IsListed old → ⊥) → new.faults ≡ old.faults

-- A read failed, or wanted memory to say so.
abbrev pub ReadFails : {T : Type 0} → Result T ReadEnd → Type 0
ReadFails (Ok bytes) = ⊥
ReadFails (Err read.Absent) = ⊥
ReadFails (Err read.TooLong) = ⊥
ReadFails (Err read.Failed) = Unit {0}
ReadFails (Err read.NoMemory) = Unit {0}

-- A write failed, or wanted memory to say so.
abbrev pub WriteFails : {T : Type 0} → Result T WriteEnd → Type 0
WriteFails (Ok done) = ⊥
WriteFails (Err write.Failed) = Unit {0}
WriteFails (Err write.NoMemory) = Unit {0}
