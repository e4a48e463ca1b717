-- The exception handlers (Java Card Virtual Machine Specification 2.2.2, 6.9.1).
use Rattle.std.specs.Prelude.{ℕ, ◌+◌, List, [], ◌∷◌, ◌++◌, Bool, true, false, nat_lt, nat_le, min, max, ◌==◌, ◌||◌, not}
use Rattle.std.specs.Prelude.{Option, Some, None, slice_get}
use Rattle.std.specs.List.{list_any, find}
use Rattle.cjc_capread.specs.declared.tree.Handler.{Handler}
use Rattle.cjc_capread.specs.declared.tree.Method.{Method}
use Rattle.cjc_capread.specs.declared.tree.PoolEntry.{PoolEntry}
use Rattle.cjc_capread.specs.declared.tree.PoolEntry.TheVariants.{Classref}
use Rattle.cjc_export.specs.Members.{same_bool}
use Rattle.cjc_check_rules.specs.Spots.{ComponentPlace, in_info, unless, along}
use Rattle.cjc_check_rules.specs.Complete.{Complete}
use Rattle.cjc_check_rules.specs.Codes.{Code, codes}
use Rattle.cjc_check_rules.specs.Instructions.{has_start}

-- Of a handler its start stands first, then the stop bit and the length of its range, then its target at 4, then the
-- catch index at 6.

-- ---- 712

-- the length and the target of a handler whose start is an instruction of this code: no code is an error of the start
-- itself
abbrev pub in_code : (at : ℕ) → Handler → Option Code → List ComponentPlace
in_code at h None = in_info 7 at ∷ []
in_code at h (Some code) =
    unless (has_start code (h.start + h.length) || h.start + h.length == code.end) (in_info 7 (at + 2))
    ++ unless (has_start code h.handler) (in_info 7 (at + 4))

-- a pool entry is there and is a Classref
abbrev pub is_classref : Option PoolEntry → Bool
is_classref (Some (Classref class)) = true
is_classref _ = false

-- a handler by itself
abbrev pub handler_stands : Complete → (at : ℕ) → Handler → List ComponentPlace
handler_stands c at h =
    in_code at h (find (λ code. has_start code h.start) (codes c))
    ++ unless (h.catch_index == 0 || is_classref (slice_get c.pool.entries h.catch_index)) (in_info 7 (at + 6))

-- handlers from one on that begins at this offset, where the one before it has this target
unfoldable pub targets_from : (before at : ℕ) → List Handler → List ComponentPlace
targets_from before at [] = []
targets_from before at (h ∷ handlers) = unless (nat_le before h.handler) (in_info 7 (at + 4))
    ++ targets_from h.handler (at + 8) handlers

-- 712. No handler has a lower target than the one before it. Its start and its target are instruction starts of one
-- method, the end of
-- its range is one too or the end of that method, and its catch index is 0 or that of a Classref. Broken is the start
-- where it is no
-- instruction start, the length where the end is none, the target, or the catch index.
abbrev pub handler_spots : Complete → List ComponentPlace
handler_spots c = targets_from 0 1 c.method.handlers ++ along (λ h. 8) (handler_stands c) 1 c.method.handlers

-- ---- 713

-- two ranges have a byte in common
abbrev pub meet : Handler → Handler → Bool
meet a b = nat_lt (max a.start b.start) (min (a.start + a.length) (b.start + b.length))

-- handlers from one on that begins at this offset
unfoldable pub stops_from : (at : ℕ) → List Handler → List ComponentPlace
stops_from at [] = []
stops_from at (h ∷ handlers) = unless (same_bool h.stop (not (list_any (meet h) handlers))) (in_info 7 (at + 2))
    ++ stops_from (at + 8) handlers

-- 713. A stop bit is 1 exactly where the range of no later handler meets this one's. Broken is the number that has the
-- bit.
abbrev pub stop_spots : Method → List ComponentPlace
stop_spots m = stops_from 1 m.handlers
