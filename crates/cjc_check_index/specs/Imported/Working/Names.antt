-- Classes by name: the place of the first class of each.
use Rattle.std.specs.Prelude.{◌≡◌, ℕ, ◌+◌, List, [], ◌∷◌, Option, Some, None, if◌then◌else◌}
use Rattle.std.specs.Str.{bytes_eq}
use Rattle.std.specs.Cmp.{IsEquivalence, decided}
use Rattle.std.specs.Bool.{IsTrue}
use Rattle.std.specs.Hash as writes
use Rattle.std.proofs.lemmas.Slice.Eq.{bytes_eq-Decides}
use Rattle.std.proofs.Common.{ap}
use Rattle.indexmap.specs.IndexMap.{IndexMap, get}
use Rattle.cjc_check_rules.specs.ExportFile.declared.tree.ExportClass.{ExportClass}

-- ---- names in a map

-- names that have the same bytes are equal, which is an equivalence
pub names-equivalence : IsEquivalence bytes_eq
names-equivalence = decided bytes_eq bytes_eq-Decides

-- what is fed to a hasher
abbrev pub fed : List ℕ → writes.HashWrites
fed name = writes.slice writes.u8 name

-- equal names are fed to a hasher alike
pub same-fed : (x y : List ℕ) → IsTrue (bytes_eq x y) → fed x ≡ fed y
same-fed x y h = ap fed ((bytes_eq-Decides x y).0 h)

-- ---- places

-- the place of the first class of a name, where the first of these classes has this place
abbrev pub place_from : (at : ℕ) → List ExportClass → (name : List ℕ) → Option ℕ
place_from at [] name = None
place_from at (c ∷ classes) name = if bytes_eq c.name name then Some at else place_from (at + 1) classes name

-- a place, or else another
abbrev pub or_else : Option ℕ → Option ℕ → Option ℕ
or_else None other = other
or_else (Some k) other = Some k

-- a map has the place of each name
abbrev pub IsIndex : {S : Type 0} → IndexMap (List ℕ) ℕ S → List ExportClass → Type 0
IsIndex places classes = (name : List ℕ) → get bytes_eq places name ≡ place_from 0 classes name

-- a name has a place from now on, and others what they had
abbrev pub HasPlace : {S : Type 0} → (old new : IndexMap (List ℕ) ℕ S) → (name : List ℕ) → (at : ℕ) → Type 0
HasPlace old new name at = (x : List ℕ) → get bytes_eq new x ≡ or_else (get bytes_eq old x) (if bytes_eq name x
    then Some at else None)
