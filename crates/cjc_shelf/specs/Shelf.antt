-- What a shelf of files means, and what a read and a write of it do.
use Rattle.std.specs.Prelude.{◌≡◌, ◌≢◌, ℕ, ◌+◌, ◌<◌, ◌≤◌, List, length, Option, Some, None, IfSome, IfNone, IsSomeAnd}
use Rattle.std.specs.Prelude.{Result, Ok, Err}
use Rattle.std.specs.Ordering.{nat_cmp}
use Rattle.std.specs.Cmp.Lexicographic.{slice_cmp}
use Rattle.std.specs.FinMap.{FinMap, get, insert}
use Rattle.cjc_shelf.specs.Count.{Rose}
use Rattle.cjc_shelf.specs.declared.shelf.ReadEnd.{ReadEnd}
use Rattle.cjc_shelf.specs.declared.shelf.ReadEnd.TheVariants as read
use Rattle.cjc_shelf.specs.declared.shelf.WriteEnd.{WriteEnd}
use Rattle.cjc_shelf.specs.declared.shelf.WriteEnd.TheVariants as write

-- the bytes under each name
abbrev pub Files : Type 0
Files = FinMap (slice_cmp nat_cmp) (List ℕ)

-- the length of the longest file that is read, in bytes
abbrev pub longest_file : ℕ
longest_file = 262144

-- What is known of a shelf at one moment.
pub record Shelved : Type 0 where
  -- where it tells them
  pub files : Option Files
  -- the name of the last read or write that did not want memory
  pub last : List ℕ
  -- how often a name was not there
  pub misses : ℕ
  -- how often the outside has failed
  pub faults : ℕ
  -- how often a write wanted memory
  pub wants : ℕ
  -- how many bytes the last read took
  pub taken : ℕ

-- Files are the same but under this name.
abbrev pub SameBut : List ℕ → Files → Files → Type 0
SameBut name old new = (other : List ℕ) → other ≢ name → get new other ≡ get old other

-- No count falls.
pub record GoesOn (old new : Shelved) : Type 0 where
  pub misses : old.misses ≤ new.misses
  pub faults : old.faults ≤ new.faults
  pub wants : old.wants ≤ new.wants

-- Why a read ended as it did, over each shelf.
abbrev pub ReadCause : Shelved → Shelved → Result (List ℕ) ReadEnd → Type 0
ReadCause old new (Ok bytes) = (length bytes ≤ longest_file) × (new.taken ≡ length bytes)
ReadCause old new (Err read.Absent) = Rose old.misses new.misses
ReadCause old new (Err read.TooLong) = IfNone old.files (new.taken ≡ longest_file + 1)
ReadCause old new (Err read.Failed) = Rose old.faults new.faults
ReadCause old new (Err read.NoMemory) = Unit {0}

-- What a read says of the files that the shelf tells.
abbrev pub ReadTold : Files → List ℕ → Shelved → Shelved → Result (List ℕ) ReadEnd → Type 0
ReadTold files name old new (Ok bytes) = (new.last ≡ name) × (get files name ≡ Some bytes)
ReadTold files name old new (Err read.Absent) = (new.last ≡ name) × (new.faults ≡ old.faults) × (get files name ≡ None)
ReadTold files name old new (Err read.TooLong) = (new.last ≡ name) × (new.faults ≡ old.faults)
    × IsSomeAnd (get files name) (λ bytes. longest_file < length bytes)
ReadTold files name old new (Err read.Failed) = new.last ≡ name
ReadTold files name old new (Err read.NoMemory) = new.last ≡ old.last

-- A read ended so: no count falls, the files stay, and its end and its bytes agree with the files that are told.
pub record Reads (name : List ℕ) (old new : Shelved) (result : Result (List ℕ) ReadEnd) : Type 0 where
  pub goes_on : GoesOn old new
  pub files : new.files ≡ old.files
  pub wants : new.wants ≡ old.wants
  pub cause : ReadCause old new result
  pub told : IfSome old.files (λ files. ReadTold files name old new result)

-- Why a write ended as it did, over each shelf.
abbrev pub WriteCause : {T : Type 0} → Shelved → Shelved → Result T WriteEnd → Type 0
WriteCause old new (Ok done) = Unit {0}
WriteCause old new (Err write.Failed) = Rose old.faults new.faults
WriteCause old new (Err write.NoMemory) = Rose old.wants new.wants

-- What a write makes of the files that the shelf tells.
abbrev pub WriteTold : {T : Type 0} → Files → List ℕ → List ℕ → Shelved → Shelved → Result T WriteEnd → Type 0
WriteTold files name bytes old new (Ok done) = (new.last ≡ name) × (new.files ≡ Some (insert files name bytes))
WriteTold files name bytes old new (Err write.Failed) = (new.last ≡ name) × IsSomeAnd new.files (SameBut name files)
WriteTold files name bytes old new (Err write.NoMemory) = (new.last ≡ old.last) × (new.files ≡ Some files)

-- A write ended so: no count falls, and its end agrees with what it makes of the files that are told.
pub record Writes {T : Type 0} (name bytes : List ℕ) (old new : Shelved) (result : Result T WriteEnd) : Type 0 where
  pub goes_on : GoesOn old new
  pub cause : WriteCause old new result
  pub told : IfSome old.files (λ files. WriteTold files name bytes old new result)
