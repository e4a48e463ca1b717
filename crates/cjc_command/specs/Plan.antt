-- What a command reads, and what the files decide.
use Rattle.std.specs.Prelude.{ℕ, List, [], ◌∷◌, ◌++◌, length, Option, Some, None, nat_lt, if◌then◌else◌, Result, Ok, Err}
use Rattle.std.specs.FinMap.{get}
use Rattle.cjc_bytes.specs.declared.fault.Refusal.{Refusal}
use Rattle.cjc_shelf.specs.Shelf.{Files}
use Rattle.cjc_shelf.specs.declared.shelf.TheConstants.{LONGEST}

-- A command reads a file and goes on by its bytes, or is refused, or has all that it needs.
pub data Plan (X : Type 0) : Type 0 where
  reads : List ℕ → (List ℕ → Plan X) → Plan X
  refuses : Refusal → Plan X
  has : X → Plan X

infixl 10 ◌>>=◌
abbrev pub ◌>>=◌ : {X Y : Type 0} → Plan X → (X → Plan Y) → Plan Y
(reads name next) >>= f = reads name (λ bytes. next bytes >>= f)
(refuses r) >>= f = refuses r
(has x) >>= f = f x

-- the bytes of one file
abbrev pub read : List ℕ → Plan (List ℕ)
read name = reads name has

-- the bytes of each file, in order, behind those that are there
abbrev pub read_onto : List (List ℕ) → List (List ℕ) → Plan (List (List ℕ))
read_onto front [] = has front
read_onto front (name ∷ names) = do
  bytes ← read name
  read_onto (front ++ bytes ∷ []) names

abbrev pub read_each : List (List ℕ) → Plan (List (List ℕ))
read_each names = read_onto [] names

-- a value, or the broken rule
abbrev pub unless_refused : {X : Type 0} → Result X Refusal → Plan X
unless_refused (Ok x) = has x
unless_refused (Err r) = refuses r

-- What the files decide.
pub data Verdict (X : Type 0) : Type 0 where
  absent : List ℕ → Verdict X
  too_long : List ℕ → Verdict X
  refused : Refusal → Verdict X
  complete : X → Verdict X

-- what a file's bytes lead to, where it is there and not too long
abbrev pub at_file : {X : Type 0} → List ℕ → (List ℕ → Verdict X) → Option (List ℕ) → Verdict X
at_file name next None = absent name
at_file name next (Some bytes) = if nat_lt LONGEST (length bytes) then too_long name else next bytes

abbrev pub verdict : {X : Type 0} → Files → Plan X → Verdict X
verdict files (reads name next) = at_file name (λ bytes. verdict files (next bytes)) (get files name)
verdict files (refuses r) = refused r
verdict files (has x) = complete x

abbrev pub reads_after : (List ℕ → List (List ℕ)) → Option (List ℕ) → List (List ℕ)
reads_after next None = []
reads_after next (Some bytes) = if nat_lt LONGEST (length bytes) then [] else next bytes

-- the names that are read, in order
abbrev pub names_read : {X : Type 0} → Files → Plan X → List (List ℕ)
names_read files (reads name next) = name ∷ reads_after (λ bytes. names_read files (next bytes)) (get files name)
names_read files (refuses r) = []
names_read files (has x) = []
