-- Stop bits, of the first handler and of those behind it.
use Rattle.std.proofs.Common.{◌≡◌, ℕ, ◌+◌, ◌<◌, ◌≤◌, List, [], ◌∷◌, length, get_or, drop, refl, ap, ◌∙◌, arith, Option}
use Rattle.std.proofs.Common.{None}
use Rattle.std.specs.Prelude.{not}
use Rattle.std.specs.List.{list_any}
use Rattle.cjc_check_rules.specs.ExportFile.Members.{same_bool}
use Rattle.cjc_capread.specs.declared.tree.Handler.{Handler}
use Rattle.cjc_check_rules.specs.declared.spot.ComponentPlace.{ComponentPlace}
use Rattle.cjc_check_rules.specs.Spots.{earlier, first, in_info, unless}
use Rattle.cjc_check_rules.specs.Handlers.{meet, stops_from}
use Rattle.cjc_check_rules.proofs.Firsts.{joined}

pub no_stops : (at : ℕ) (hs : List Handler) → length hs < 1 → None ≡ first (stops_from at hs)
unfolding stops_from first
no_stops at [] lt = refl
no_stops at (h ∷ hs) lt = absurd (omega (arith, lt))

first_with : (at : ℕ) (d : Handler) (hs : List Handler) (a b : Option ComponentPlace) → 1 ≤ length hs
    → a ≡ first (unless (same_bool (get_or hs 0 d).stop (not (list_any (meet (get_or hs 0 d)) (drop 1 hs))))
    (in_info 7 (at + 2)))
    → b ≡ first (stops_from (at + 8) (drop 1 hs))
    → earlier a b ≡ first (stops_from at hs)
unfolding stops_from
first_with at d [] a b le e f = absurd (omega (arith, le))
first_with at d (h ∷ hs) a b le e f = joined a b (unless (same_bool h.stop (not (list_any (meet h) hs)))
    (in_info 7 (at + 2))) (stops_from (at + 8) hs) e f

pub stops_first : (at : ℕ) (d : Handler) (hs later : List Handler) (a b : Option ComponentPlace) → 1 ≤ length hs
    → later ≡ drop 1 hs
    → a ≡ first (unless (same_bool (get_or hs 0 d).stop (not (list_any (meet (get_or hs 0 d)) later)))
    (in_info 7 (at + 2)))
    → b ≡ first (stops_from (at + 8) later)
    → earlier a b ≡ first (stops_from at hs)
stops_first at d hs later a b le q e f =
    let h = get_or hs 0 d in
    first_with at d hs a b le (e
    ∙ ap (λ (l : List Handler). first (unless (same_bool h.stop (not (list_any (meet h) l))) (in_info 7 (at + 2))))
    q) (f ∙ ap (λ (l : List Handler). first (stops_from (at + 8) l)) q)
