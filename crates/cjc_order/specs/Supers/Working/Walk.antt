-- What a walk upwards came to and has seen.
use Rattle.std.specs.Prelude.{◌≡◌, ◌⊎◌, ℕ, suc, ◌+◌, ◌<◌, true, Bool, List, [], ◌∷◌, map, Option, Some, None}
use Rattle.std.specs.List.{list_any}
use Rattle.std.specs.Str.{bytes_eq}
use Rattle.std.specs.Cmp.{IsEquivalence, decided}
use Rattle.std.specs.Bool.{IsTrue}
use Rattle.std.specs.Hash as writes
use Rattle.std.proofs.lemmas.Slice.Eq.{bytes_eq-Decides}
use Rattle.std.proofs.Common.{ap}
use Rattle.indexmap.specs.IndexSet.{insert_key, insert_all}
use Rattle.cjc_world.specs.Classes.{Class}
use Rattle.cjc_world.specs.Supertypes.{Supertypes, End, Unknown, Known, supertypes}
use Rattle.cjc_world.specs.Interfaces.{gathered}
use Rattle.cjc_order.specs.Supers.Supers.{names_upwards, name_of}

-- ---- names in a set

-- Names that are the same byte by byte are one name.
pub names-equivalence : IsEquivalence bytes_eq
names-equivalence = decided bytes_eq bytes_eq-Decides

-- what is fed to a hasher
abbrev pub fed : List ℕ → writes.HashWrites
fed name = writes.slice writes.u8 name

-- of one name the same is fed
pub same-fed : (x y : List ℕ) → IsTrue (bytes_eq x y) → fed x ≡ fed y
same-fed x y h = ap fed ((bytes_eq-Decides x y).0 h)

-- ---- a walk

-- the name is one of these
abbrev pub has : List (List ℕ) → List ℕ → Bool
has names name = list_any (bytes_eq name) names

-- one more name behind the others, where it is not among them
abbrev pub put : List (List ℕ) → List ℕ → List (List ℕ)
put names name = insert_key bytes_eq names name

-- the names with these behind them, each once
abbrev pub with_all : List (List ℕ) → List (List ℕ) → List (List ℕ)
with_all names more = insert_all bytes_eq names more

-- ---- what a name adds

-- what a class lists as its supers, nothing where there is no class
abbrev pub supers_in : Option Class → List (List ℕ)
supers_in None = []
supers_in (Some c) = c.supers

-- what a class lists as its interfaces, nothing where there is no class
abbrev pub interfaces_in : Option Class → List (List ℕ)
interfaces_in None = []
interfaces_in (Some c) = c.interfaces

-- the name and its superclasses
abbrev pub upwards_from : List Class → List ℕ → List (List ℕ)
upwards_from w name = names_upwards (supertypes w (name ∷ []))

-- its interfaces; of a listed one with the name itself
abbrev pub interfaces_from : List Class → (listed : Bool) → List ℕ → List (List ℕ)
interfaces_from w listed name = map name_of (gathered listed (supertypes w (name ∷ [])))

-- ---- how far a walk goes on

-- how many names stand in the tree
abbrev pub size : Supertypes → ℕ
size End = 0
size (Unknown name next) = suc (size next)
size (Known c supers interfaces next) = suc (size supers + size interfaces + size next)

-- ---- what a walk is done with

-- each of the second is one of the first
abbrev pub AreIn : List (List ℕ) → List (List ℕ) → Type 0
AreIn names [] = Unit {0}
AreIn names (x ∷ xs) = (has names x ≡ true) × AreIn names xs

-- what each name that the walk came to adds has been seen, but for those that it came to before
abbrev pub AreDone : (adds : List ℕ → List (List ℕ)) → (before came seen : List (List ℕ)) → Type 0
AreDone adds before came seen = (x : List ℕ) → has came x ≡ true → (has before x ≡ true) ⊎ AreIn seen (adds x)

-- what each name that the walk came to adds has been seen, but for those that have more above them than these names
abbrev pub StandAbove : List Class → (adds : List ℕ → List (List ℕ)) → (came seen names : List (List ℕ)) → Type 0
StandAbove w adds came seen names = (x : List ℕ) → has came x ≡ true → AreIn seen (adds x)
    ⊎ (size (supertypes w names) < size (supertypes w (x ∷ [])))
