-- What ReferenceLocation is to list, by indices.
use Rattle.std.specs.Prelude.{ℕ, ◌+◌, List, [], ◌∷◌, ◌++◌, ◌==◌, if◌then◌else◌}
use Rattle.cjc_capread.specs.declared.tree.Handler.{Handler}
use Rattle.cjc_check_rules.specs.Instructions.{IndexOperand}
use Rattle.cjc_check_rules.specs.Locations.{catch_places, distances, places_of}

-- the distances of the indices of one byte
abbrev pub wanted_ones : List IndexOperand → List ℕ
wanted_ones indices = distances 0 (places_of 1 indices)

-- the distances of the indices of two bytes: catch indices, then those of instructions
abbrev pub wanted_twos : List Handler → List IndexOperand → List ℕ
wanted_twos handlers indices = distances 0 (catch_places 1 handlers ++ places_of 2 indices)

-- the place of an index of so many bytes
abbrev pub place_of : (size : ℕ) → IndexOperand → List ℕ
place_of size i = if i.size == size then i.at ∷ [] else []

-- the place of the catch index of a handler that begins at an offset, where it is not 0
abbrev pub catch_place : (at : ℕ) → Handler → List ℕ
catch_place at h = if h.catch_index == 0 then [] else (at + 6) ∷ []
