-- ReferenceLocation lists the indices into the constant pool (Java Card Virtual Machine Specification 2.2.2, 6.11).
use Rattle.std.specs.Prelude.{ℕ, ◌+◌, ◌-◌, ◌/◌, ◌%◌, List, [], ◌∷◌, ◌++◌, length, map, filter, replicate, ◌==◌}
use Rattle.std.specs.Prelude.{if◌then◌else◌}
use Rattle.cjc_capread.specs.declared.tree.Handler.{Handler}
use Rattle.cjc_check_rules.specs.Spots.{ComponentPlace, in_info, unless, bytes_differ}
use Rattle.cjc_check_rules.specs.Complete.{Complete}
use Rattle.cjc_check_rules.specs.Instructions.{IndexOperand, all_indices}

-- where the indices of so many bytes stand
abbrev pub places_of : (size : ℕ) → List IndexOperand → List ℕ
places_of size indices = map (λ i. i.at) (filter (λ i. i.size == size) indices)

-- Where the catch indices that are not 0 stand: behind six bytes of each handler. The first handler begins at this
-- offset.
unfoldable pub catch_places : ℕ → List Handler → List ℕ
catch_places at [] = []
catch_places at (h ∷ handlers) = (if h.catch_index == 0 then [] else (at + 6) ∷ []) ++ catch_places (at + 8) handlers

-- a distance: 255 as often as it has 255 in it, and what is left
abbrev pub distance : ℕ → List ℕ
distance n = replicate (n / 255) 255 ++ n % 255 ∷ []

-- the distances of places, each from the one before
unfoldable pub distances : (before : ℕ) → List ℕ → List ℕ
distances before [] = []
distances before (at ∷ places) = distance (at - before) ++ distances at places

-- bytes that differ, as far as there are both; the first has this offset
abbrev pub differ : (at : ℕ) → (listed wanted : List ℕ) → List ComponentPlace
differ at listed wanted = bytes_differ 9 at listed wanted

-- bytes behind their number of two bytes, which stands at this offset
abbrev pub are_listed : (at : ℕ) → (listed wanted : List ℕ) → List ComponentPlace
are_listed at listed wanted = unless (length listed == length wanted) (in_info 9 at) ++ differ (at + 2) listed wanted

-- the distances of indices of one byte, and of two; catch indices stand before instructions
abbrev pub wanted_ones : Complete → List ℕ
wanted_ones c = distances 0 (places_of 1 (all_indices c))

-- the distances of indices of two bytes: catch indices, then those of instructions
abbrev pub wanted_twos : Complete → List ℕ
wanted_twos c = distances 0 (catch_places 1 c.method.handlers ++ places_of 2 (all_indices c))

-- 714. ReferenceLocation has the distances of exactly the places where indices stand: those of operands, checkcast and
-- instanceof of an
-- array of numbers aside, and catch indices that are not 0. Broken is the first item that differs: a count or a byte.
abbrev pub location_spots : Complete → List ComponentPlace
location_spots c =
    are_listed 0 c.locations.one_byte (wanted_ones c) ++ are_listed (2 + length c.locations.one_byte)
    c.locations.two_byte (wanted_twos c)
