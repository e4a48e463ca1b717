-- The exception handlers (Java Card Virtual Machine Specification 2.2.2, 6.9.1).
use Rattle.std.specs.Prelude.{◌+◌, List, [], ◌∷◌, Bool, true, false, nat_lt, nat_le, min, max, ◌==◌, ◌&&◌, ◌||◌, not, Option, Some, slice_get}
use Rattle.std.specs.List.{list_all, list_any}
use Rattle.cjc_capread.specs.declared.tree.Handler.{Handler}
use Rattle.cjc_capread.specs.declared.tree.PoolEntry.{PoolEntry}
use Rattle.cjc_capread.specs.declared.tree.PoolEntry.TheVariants.{Classref}
use Rattle.cjc_export.specs.Members.{same_bool}
use Rattle.cjc_first.specs.Sentences.Complete.{Complete}
use Rattle.cjc_first.specs.Sentences.Methods.{Code, codes, has_start}

abbrev pub do_not_fall : List Handler → Bool
do_not_fall (a ∷ b ∷ handlers) = nat_le a.handler b.handler && do_not_fall (b ∷ handlers)
do_not_fall _ = true

-- its start, its target and the end of its range are of this method
abbrev pub is_in_code : Handler → Code → Bool
is_in_code h code =
    has_start code h.start && has_start code h.handler && (has_start code (h.start + h.length) || h.start + h.length == code.end)

abbrev pub is_classref : Option PoolEntry → Bool
is_classref (Some (Classref class)) = true
is_classref _ = false

abbrev pub handler_stands : Complete → Handler → Bool
handler_stands c h = list_any (is_in_code h) (codes c) && (h.catch_index == 0 || is_classref (slice_get c.pool.entries h.catch_index))

-- 712. No handler has a lower handler offset than the one before it. Its start and its target are instruction starts of one method,
-- the end of its range is one too or the end of that method, and its catch index is 0 or that of a Classref.
unfoldable pub handlers_stand : Complete → Bool
handlers_stand c = do_not_fall c.method.handlers && list_all (handler_stands c) c.method.handlers

-- two ranges have a byte in common
abbrev pub meet : Handler → Handler → Bool
meet a b = nat_lt (max a.start b.start) (min (a.start + a.length) (b.start + b.length))

abbrev pub stop_bits : List Handler → Bool
stop_bits [] = true
stop_bits (h ∷ handlers) = same_bool h.stop (not (list_any (meet h) handlers)) && stop_bits handlers

-- 713. A stop bit is 1 exactly where the range of no later handler meets this one's.
unfoldable pub stop_bits_fit : Complete → Bool
stop_bits_fit c = stop_bits c.method.handlers
