-- Maps from numbers and from names: names compare and hash by their bytes, and the first that is noted stands.
use Rattle.std.specs.Prelude.{◌≡◌, ℕ, suc, List, [], ◌∷◌, Option, Some, None, option_map, Bool, if◌then◌else◌, ◌==◌}
use Rattle.std.specs.Bool.{IsTrue}
use Rattle.std.specs.Cmp.{IsEquivalence, decided}
use Rattle.std.specs.Hash as writes
use Rattle.std.specs.HashMap.{get_by}
use Rattle.std.specs.Str.{bytes_eq}
use Rattle.std.proofs.Common.{ap}
use Rattle.std.proofs.lemmas.Slice.Eq.{bytes_eq-Decides}
use Rattle.cjc_card_semantics.specs.Machine.Classes.{Class}
use Rattle.cjc_card_frame.specs.declared.heap.class.Class.{Class as ClassData}
use Rattle.cjc_card_frame.specs.Objects.{class_of}
use Rattle.cjc_card_link.specs.declared.indices.Classes.{Classes}
use Rattle.cjc_card_link.specs.declared.indices.Numbers.{Numbers}
use Rattle.cjc_card_link.specs.declared.indices.Places.{Places}

-- ---- names as keys

-- names that have the same bytes are equal, which is an equivalence
pub names-equivalence : IsEquivalence bytes_eq
names-equivalence = decided bytes_eq bytes_eq-Decides

-- what is fed to a hasher
abbrev pub fed : List ℕ → writes.HashWrites
fed name = writes.slice writes.u8 name

-- equal names are fed to a hasher alike
pub same-fed : (a b : List ℕ) → IsTrue (bytes_eq a b) → fed a ≡ fed b
same-fed a b h = ap fed ((bytes_eq-Decides a b).0 h)

-- ---- what is kept

-- what is kept under a number
abbrev pub number_under : Numbers → ℕ → Option ℕ
number_under numbers x = get_by (λ k. x == k) numbers.kept

-- what is kept under a name
abbrev pub place_under : Places → List ℕ → Option ℕ
place_under places name = get_by (λ k. bytes_eq name k) places.kept

-- a class that is kept under a name
abbrev pub data_under : Classes → List ℕ → Option ClassData
data_under classes name = get_by (λ k. bytes_eq name k) classes.kept

-- what class that is
abbrev pub class_under : Classes → List ℕ → Option Class
class_under classes name = option_map class_of (data_under classes name)

-- ---- the first item that passes a test

-- its place
abbrev pub first_place : {A : Type 0} → (A → Bool) → List A → Option ℕ
first_place test [] = None
first_place test (x ∷ xs) = if test x then Some 0 else option_map suc (first_place test xs)
