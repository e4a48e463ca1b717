-- What a command reads, and what the files decide.
use Rattle.std.specs.Prelude.{◌≡◌, ◌⊎◌, ◌≤◌, Bool, false, ℕ, List, [], ◌∷◌, ◌++◌, length, Option, Some, None, Contains}
use Rattle.std.specs.Prelude.{nat_lt, if◌then◌else◌, Result, Ok, Err}
use Rattle.std.specs.FinMap.{get}
use Rattle.cjc_bytes.specs.declared.fault.Refusal.{Refusal}
use Rattle.cjc_shelf.specs.Shelf.{Files, longest_file}

-- A command reads a file and goes on by its bytes, or is refused, or has all that it needs.
pub data Plan (X : Type 0) : Type 0 where
  reads : List ℕ → (List ℕ → Plan X) → Plan X
  refuses : Refusal → Plan X
  has : X → Plan X

infixl 10 ◌>>=◌
-- the reads of a plan and then those of the plan that its value chooses; a refusal ends both
abbrev pub ◌>>=◌ : {X Y : Type 0} → Plan X → (X → Plan Y) → Plan Y
(reads name next) >>= f = reads name (λ bytes. next bytes >>= f)
(refuses r) >>= f = refuses r
(has x) >>= f = f x

-- the bytes of one file
abbrev pub read : List ℕ → Plan (List ℕ)
read name = reads name has

-- The plan of each item, in order, goes on from what the one before it left. Where that says that it is the last,
-- the items that are left are passed over.
abbrev pub for_each : {A S : Type 0} → (S → Bool) → (S → A → Plan S) → S → List A → Plan S
for_each is_last step s [] = has s
for_each is_last step s (a ∷ items) = if is_last s then has s else (step s a >>= λ t. for_each is_last step t items)

-- the bytes of one file more, behind those that are there
abbrev pub read_behind : List (List ℕ) → List ℕ → Plan (List (List ℕ))
read_behind front name = do
  bytes ← read name
  has (front ++ bytes ∷ [])

-- the bytes of each file, in order
abbrev pub read_each : List (List ℕ) → Plan (List (List ℕ))
read_each names = for_each (λ front. false) read_behind [] names

-- a value, or the broken rule
abbrev pub unless_refused : {X : Type 0} → Result X Refusal → Plan X
unless_refused (Ok x) = has x
unless_refused (Err r) = refuses r

-- How the reads end.
pub data Verdict (X : Type 0) : Type 0 where
  absent : List ℕ → Verdict X
  too_long : List ℕ → Verdict X
  refused : Refusal → Verdict X
  complete : X → Verdict X

-- what a file's bytes lead to, where it is there and not too long
abbrev pub at_file : {X : Type 0} → List ℕ → (List ℕ → Verdict X) → Option (List ℕ) → Verdict X
at_file name next None = absent name
at_file name next (Some bytes) = if nat_lt longest_file (length bytes) then too_long name else next bytes

-- what the files decide
abbrev pub verdict : {X : Type 0} → Files → Plan X → Verdict X
verdict files (reads name next) = at_file name (λ bytes. verdict files (next bytes)) (get files name)
verdict files (refuses r) = refused r
verdict files (has x) = complete x

-- the names that are read behind a file, where it is there and not too long, else none
abbrev pub reads_after : (List ℕ → List (List ℕ)) → Option (List ℕ) → List (List ℕ)
reads_after next None = []
reads_after next (Some bytes) = if nat_lt longest_file (length bytes) then [] else next bytes

-- the names that are read, in order
abbrev pub names_read : {X : Type 0} → Files → Plan X → List (List ℕ)
names_read files (reads name next) = name ∷ reads_after (λ bytes. names_read files (next bytes)) (get files name)
names_read files (refuses r) = []
names_read files (has x) = []

-- Some answers to the reads end the plan so: at a name with no file, at one with too long a file, or behind all reads.
abbrev pub Ends : {X : Type 0} → Plan X → Verdict X → Type 0
Ends (reads name next) end = (end ≡ absent name) ⊎ ((end ≡ too_long name)
    ⊎ ((bytes : List ℕ) × (length bytes ≤ longest_file) × Ends (next bytes) end))
Ends (refuses r) end = end ≡ refused r
Ends (has x) end = end ≡ complete x

-- The plan ends so: as the files decide, where they are told, and else as some answers to its reads end it.
abbrev pub EndsBy : {X : Type 0} → Option Files → Plan X → Verdict X → Type 0
EndsBy (Some files) plan end = verdict files plan ≡ end
EndsBy None plan end = Ends plan end

-- The plan reads the name: by the files, where they are told, and else after some answers to the reads before.
abbrev pub IsRead : {X : Type 0} → Option Files → Plan X → List ℕ → Type 0
IsRead (Some files) plan name = Contains (names_read files plan) name
IsRead None plan name = Ends plan (absent name)

-- how a plan that reads nothing ends
abbrev pub at_once : {X : Type 0} → Plan X → Option (Verdict X)
at_once (reads name next) = None
at_once (refuses r) = Some (refused r)
at_once (has x) = Some (complete x)

-- how a plan ends, where the files are told or it reads nothing
abbrev pub known_end : {X : Type 0} → Option Files → Plan X → Option (Verdict X)
known_end (Some files) plan = Some (verdict files plan)
known_end None plan = at_once plan
