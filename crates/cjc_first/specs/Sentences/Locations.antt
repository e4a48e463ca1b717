-- ReferenceLocation lists the indices into the constant pool (Java Card Virtual Machine Specification 2.2.2, 6.11).
use Rattle.std.specs.Prelude.{ℕ, ◌+◌, ◌-◌, ◌/◌, ◌%◌, List, [], ◌∷◌, ◌++◌, map, filter, replicate, Bool, ◌==◌, ◌&&◌, if◌then◌else◌}
use Rattle.std.specs.Str.{bytes_eq}
use Rattle.cjc_capread.specs.declared.tree.Handler.{Handler}
use Rattle.cjc_first.specs.Sentences.Complete.{Complete}
use Rattle.cjc_first.specs.Sentences.Instructions.{IndexOperand}
use Rattle.cjc_first.specs.Sentences.Methods.{all_indices}

-- where the indices of so many bytes stand
abbrev pub places_of : (size : ℕ) → List IndexOperand → List ℕ
places_of size indices = map (λ i. i.at) (filter (λ i. i.size == size) indices)

-- Where the catch indices that are not 0 stand: behind six bytes of each handler. The first handler begins at this offset.
abbrev pub catch_places : ℕ → List Handler → List ℕ
catch_places at [] = []
catch_places at (h ∷ handlers) = (if h.catch_index == 0 then [] else (at + 6) ∷ []) ++ catch_places (at + 8) handlers

-- a distance: 255 as often as it has 255 in it, and what is left
abbrev pub distance : ℕ → List ℕ
distance n = replicate (n / 255) 255 ++ n % 255 ∷ []

-- the distances of places, each from the one before
abbrev pub distances : (before : ℕ) → List ℕ → List ℕ
distances before [] = []
distances before (at ∷ places) = distance (at - before) ++ distances at places

-- 714. ReferenceLocation has the distances of exactly the places where indices stand: those of operands, checkcast and instanceof of an
-- array of numbers aside, and catch indices that are not 0.
unfoldable pub locations_are_listed : Complete → Bool
locations_are_listed c =
    bytes_eq c.locations.one_byte (distances 0 (places_of 1 (all_indices c)))
    && bytes_eq c.locations.two_byte (distances 0 (catch_places 1 c.method.handlers ++ places_of 2 (all_indices c)))
