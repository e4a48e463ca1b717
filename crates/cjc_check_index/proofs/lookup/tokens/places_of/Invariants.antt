use Rattle.std.proofs.Common.{◌≡◌, ℕ, ◌<◌, drop, length, get_or, None}
use Rattle.cjc_check_index.specs.Lookup.Indexed.{place_from}
use Rattle.cjc_check_index.specs.Lookup.Tokens.{or_else}
use Rattle.cjc_check_index.proofs.lookup.tokens.places_of.Given as goal

abbrev pub invariant-loop-i : goal.invariant-loop-i
invariant-loop-i l =
    (length l.places.items ≡ 256)
    × ((t : ℕ) → t < 256 → or_else (get_or l.places.items t None) (place_from l.i (drop l.i l.classes) t)
    ≡ place_from 0 l.classes t)
