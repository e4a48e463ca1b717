-- What a handler stands on, of codes and a constant pool.
use Rattle.std.specs.Prelude.{◌≡◌, ℕ, ◌+◌, ◌<◌, ◌≤◌, List, [], ◌∷◌, ◌++◌, Bool, true, ◌==◌, ◌||◌, slice_get}
use Rattle.std.specs.List.{find}
use Rattle.cjc_capread.specs.declared.tree.Handler.{Handler}
use Rattle.cjc_capread.specs.declared.tree.PoolEntry.{PoolEntry}
use Rattle.cjc_check_rules.specs.declared.spot.ComponentPlace.{ComponentPlace}
use Rattle.cjc_check_rules.specs.Spots.{in_info, unless}
use Rattle.cjc_check_rules.specs.Codes.{Code}
use Rattle.cjc_check_rules.specs.Handlers.{in_code, is_classref}
use Rattle.cjc_check_rules.specs.Instructions.{has_start}

-- the range of a handler ends at an instruction or at the end
abbrev pub range_ends : Code → Handler → Bool
range_ends code h = has_start code (h.start + h.length) || h.start + h.length == code.end

-- where a handler by itself is broken: its start, length, target or catch index
abbrev pub handler_stands : List Code → List PoolEntry → (at : ℕ) → Handler → List ComponentPlace
handler_stands codes entries at h =
    in_code at h (find (λ code. has_start code h.start) codes)
    ++ unless (h.catch_index == 0 || is_classref (slice_get entries h.catch_index)) (in_info 7 (at + 6))

-- instructions of a code begin within its own bytes, from an offset on
abbrev pub IsWithin : (from : ℕ) → Code → Type 0
IsWithin from code = (offset : ℕ) → has_start code offset ≡ true → (from ≤ offset) × (offset < code.end)

-- Codes stand one behind the other, the first at an offset or behind it.
abbrev pub AreApart : (from : ℕ) → List Code → Type 0
AreApart from [] = Unit {0}
AreApart from (code ∷ codes) = IsWithin from code × (from ≤ code.end) × AreApart code.end codes
