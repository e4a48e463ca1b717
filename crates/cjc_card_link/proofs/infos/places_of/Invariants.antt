use Rattle.std.proofs.Common.{◌≡◌, ℕ, drop}
use Rattle.std.specs.Prelude.{◌==◌}
use Rattle.cjc_card_semantics.specs.Machine.Classes.{or_else}
use Rattle.cjc_card_link.specs.Indices.{first_place, number_under}
use Rattle.cjc_card_link.proofs.Places.{place_from}
use Rattle.cjc_card_link.proofs.infos.places_of.Given as goal

abbrev pub invariant-loop-i : goal.invariant-loop-i
invariant-loop-i l = (x : ℕ) → or_else (number_under l.numbers x) (place_from (λ n. n == x) l.i (drop l.i l.keys))
    ≡ first_place (λ n. n == x) l.keys
